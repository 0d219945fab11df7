-- The twelve examples of document 01, (a) to (l), as one statement about the definitions that the contracts cite. Assumes nothing.
use Rattle.std.specs.Prelude.{ℕ, ◌≡◌, Bool, true, false, List, [], ◌∷◌, map, length, leb}
use Rattle.std.proofs.Math.Option.{Option, none, some}
use Rattle.lists.specs.Lists.{iota, elem}
use Rattle.refusals.specs.Refusals.{accepted, reply}
use Rattle.cells.specs.Cells.{compact_hash}
use Rattle.offsets.specs.Subsets.{Subset, range, list}
use Rattle.offsets.specs.Answers.{intersect_reply}
use Rattle.constraints.specs.declared.Constraint.{Constraint}
use Rattle.row_buffer.specs.Ranks.{set_below, live_word, new_number}
use Rattle.sort_entries.specs.Entries.{entry, fast_range}
use Rattle.plain_table.specs.Staged.{insert}
use Rattle.plain_table.specs.Refusing.{Lengths}
use Rattle.plain_table.specs.Calls.{Call, staging, merging, after_all}
use Rattle.plain_table.specs.Plain.{Row, Plain, with, opened, added, merged, compacted}
use Rattle.table.specs.Stores.{header_of}
use Rattle.query_spec.specs.Queries.{refine_one_reply, refine_list_reply, page_ids, page_refusal, page_of}

-- a table of one column: row i has the cell i and is live if `live i` is true
abbrev pub table_of : ℕ → (ℕ → Bool) → Plain
table_of count live =
    let rows : List Row = map (λ i. record { live = live i; cells = i ∷ [] }) (iota 0 count) in
    with (opened (record { columns = 1; keys = 1; sort = 0; rule = 0; capacity = 100 }) 0) 0 rows [] (some count)

abbrev pub is_seven : Constraint
is_seven = record { kind = 1; column = 0; value = 7 }

-- a page of ten live rows: the ids written and the next place
abbrev pub Pages : Subset → ℕ → ℕ → List ℕ → Option ℕ → Type 0
Pages subset start n ids next =
    let h = header_of (table_of 10 (λ i. true)) in
    (page_ids h (iota 0 100) subset start n [] ≡ ids)
    × (reply (page_refusal h 100 subset start n [] 100) (page_of h (iota 0 100) subset start n []) ≡ accepted (record { written = length ids; dead = 0; next = next }))

-- the row count and the generation after a merge with nothing staged, if the first `dead` of `count` rows are dead
abbrev pub After : ℕ → ℕ → ℕ → ℕ → Type 0
After dead count rows generation =
    let table = (merged (table_of count (leb dead))).table in
    (length table.rows ≡ rows) × (table.generation ≡ generation)

-- rows 0, 2 and 5 of six are live
abbrev pub three_live : Plain
three_live = table_of 6 (λ i. elem i (0 ∷ 2 ∷ 5 ∷ []))

-- a table after an insert of the row 1, 5, 12, a merge and a staging of this row (columns: key, level, stamp; rule 1)
abbrev pub one_staged : List ℕ → Plain
one_staged cells =
    let lengths : Lengths = record { rows = 300; keys = 200; sorts = 200; pending = 100; live_words = 2; base_words = 2 } in
    let calls : List Call = staging (insert (1 ∷ 5 ∷ 12 ∷ [])) ∷ merging ∷ staging (insert cells) ∷ [] in
    after_all (opened (record { columns = 3; keys = 1; sort = 2; rule = 1; capacity = 100 }) 0) (map (λ c. record { call = c; lengths = lengths }) calls)

-- of the next merge: its status, *added*, the place 0, and the rows after it, all of them live
abbrev pub Merges : List ℕ → ℕ → Bool → List (List ℕ) → Type 0
Merges cells status isAdded rows =
    let p = one_staged cells in
    ((merged p).status ≡ status)
    × ((merged p).place ≡ 0)
    × (added p ≡ isAdded)
    × ((merged p).table.rows ≡ map (λ cells. record { live = true; cells = cells }) rows)

pub record PaperExamples : Type 0 where
  -- "Hash 144115188075855872 compacts to 33554432"
  pub a : compact_hash 144115188075855872 ≡ 33554432
  -- "{1,3,5,8} with 3..8: {3,5}", "2..6 with 6..9: 6..6", "4..6 with {1,6}: 0..0"
  pub b : intersect_reply (list (1 ∷ 3 ∷ 5 ∷ 8 ∷ [])) (range 3 8) 100 ≡ accepted (list (3 ∷ 5 ∷ []))
  pub c : intersect_reply (range 2 6) (range 6 9) 100 ≡ accepted (range 6 6)
  pub d : intersect_reply (range 4 6) (list (1 ∷ 6 ∷ [])) 100 ≡ accepted (range 0 0)
  -- "`refine_one` over 0..4 keeping 1 and 2: 1..3; `refine_ref`: {1,2}"
  pub e_one : refine_one_reply (header_of (table_of 4 (λ i. true))) (5 ∷ 7 ∷ 7 ∷ 5 ∷ iota 0 100) (range 0 4) is_seven 100 ≡ accepted (range 1 3)
  pub e_list : refine_list_reply (header_of (table_of 4 (λ i. true))) (5 ∷ 7 ∷ 7 ∷ 5 ∷ iota 0 100) (range 0 4) (is_seven ∷ []) 100 ≡ accepted (list (1 ∷ 2 ∷ []))
  -- "Page over 0..10 from 4: n = 5 next 9, n = 6 none"
  pub f : Pages (range 0 10) 4 5 (4 ∷ 5 ∷ 6 ∷ 7 ∷ 8 ∷ []) (some 9) × Pages (range 0 10) 4 6 (4 ∷ 5 ∷ 6 ∷ 7 ∷ 8 ∷ 9 ∷ []) none
  -- "Three ids from 1, n = 0: next 1; from 3: none"
  pub g : Pages (list (2 ∷ 4 ∷ 6 ∷ [])) 1 0 [] (some 1) × Pages (list (2 ∷ 4 ∷ 6 ∷ [])) 3 0 [] none
  -- "16 dead of 32 or of 16 stay; 17 of 33 or of 17 go"
  pub h : After 16 32 32 0 × After 16 16 16 0 × After 17 33 16 1 × After 17 17 0 1
  -- "Rows 0, 2, 5 live: 5 becomes 2": as the rows close up, by the live rows before it, and by its word of the bitmap of live rows
  pub i_rows : map (λ row. row.cells) (compacted three_live).rows ≡ (0 ∷ []) ∷ (2 ∷ []) ∷ (5 ∷ []) ∷ []
  pub i_number : new_number (λ row. row.live) three_live.rows 5 ≡ 2
  pub i_bitmap : set_below (live_word (λ row. row.live) three_live.rows 0 64) 5 ≡ 2
  -- "Entries 10 at 0, 12 at 2, count 3: less than 11 is 0..2, at least 13 is 3..3"
  pub j : (fast_range 2 11 (entry 10 0 ∷ entry 12 2 ∷ []) 3 ≡ range 0 2) × (fast_range 5 13 (entry 10 0 ∷ entry 12 2 ∷ []) 3 ≡ range 3 3)
  -- "Last value 12: a new key at 11 stops with 9, at 12 goes in"
  pub k : Merges (2 ∷ 5 ∷ 11 ∷ []) 9 false ((1 ∷ 5 ∷ 12 ∷ []) ∷ []) × Merges (2 ∷ 5 ∷ 12 ∷ []) 0 true ((1 ∷ 5 ∷ 12 ∷ []) ∷ (2 ∷ 5 ∷ 12 ∷ []) ∷ [])
  -- "Rule 1, equal cells, lower stamp: kept, no stop"
  pub l : Merges (1 ∷ 5 ∷ 11 ∷ []) 0 false ((1 ∷ 5 ∷ 12 ∷ []) ∷ [])
