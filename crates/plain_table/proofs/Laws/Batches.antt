-- Batches of inserts. The live rows after a merge that does not stop depend only on the live rows before it, one insert after
-- another, so a batch may be cut anywhere. Why and when an insert stops is irrelevant here. Assumes nothing.
use Rattle.plain_table.proofs.Laws.Prelude.{ℕ, zero, suc, ◌<◌, ◌≡◌, refl, sym, ap, ap₂, ◌∙◌, inl, inr, Bool, true, false, cond, not, List, [], ◌∷◌, ◌++◌, map, foldl, map-append, append-nil, append_assoc, Option, none, some, Option·map, arith, take, split, filter_append, ruled}
use Rattle.lists.specs.Lists.{filter, find}
use Rattle.refusals.specs.Refusals.{Reply, refused, accepted, reply}
use Rattle.plain_table.specs.Staged.{Opening, Staged, insert, inserts, has_key, skipped}
use Rattle.plain_table.specs.Plain.{Row, Plain, with_row, Numbered, live_rows, lookup, stage, live_with_key, kill_if, without_key, without_row, removed, stop, append, upsert, insertion, Inserted, insert_all, applied, compacted, unstaged, compacts_after, merged}
use Rattle.plain_table.proofs.Laws.Rows.{live_row}
use Rattle.plain_table.proofs.Laws.Counts.{insertion_alike, insert_all_accepted, insert_all_refused, applied_alike}
use Rattle.plain_table.proofs.Laws.Live.{cells_live_from, live_rows_compacted}

-- ---- the live rows' cells, in order

unfoldable pub live_cells : Plain → List (List ℕ)
live_cells p = map (λ row. row.cells) (live_rows p)

-- the live cells of a list of rows
unfoldable cells_of : List Row → List (List ℕ)
cells_of rows = map (λ row. row.cells) (filter (λ row. row.live) rows)

live_cells_of : (p : Plain) → live_cells p ≡ cells_of p.rows
unfolding live_cells live_rows cells_of
live_cells_of p = cells_live_from 0 p.rows

-- after a row is appended
cells_of_appended : (rows : List Row) (cells : List ℕ) → cells_of (rows ++ (live_row cells ∷ [])) ≡ cells_of rows ++ (cells ∷ [])
unfolding cells_of filter
cells_of_appended rows cells =
    ap (map (λ (row : Row). row.cells)) (filter_append (λ (row : Row). row.live) rows (live_row cells ∷ []))
    ∙ map-append (λ (row : Row). row.cells) (filter (λ row. row.live) rows) (live_row cells ∷ [])

-- after the rows of a key die
cells_of_killed : (keys : ℕ) (key : List ℕ) (rows : List Row) → cells_of (kill_if (live_with_key keys key) rows) ≡ filter (λ cells. not (has_key keys key cells)) (cells_of rows)
unfolding cells_of kill_if filter live_with_key
cells_of_killed keys key [] = refl
cells_of_killed keys key (row ∷ rows) =
    let h = cells_of_killed keys key rows in
    elim (split row.live) [
      | inl e ↦ elim (split (has_key keys key row.cells)) [ inl k ↦ rw (e, k, h) | inr k ↦ rw (e, k, h) ]
      | inr e ↦ rw (e, h)
    ]

-- `find` commutes with `map`
find_map : {A B : Type 0} (f : A → B) (test : B → Bool) (l : List A) → Option·map f (find (λ x. test (f x)) l) ≡ find test (map f l)
unfolding find
find_map f test [] = refl
find_map f test (x ∷ xs) =
    let h = find_map f test xs in
    elim (split (test (f x))) [ inl e ↦ rw e | inr e ↦ rw (e, h) ]

-- ---- the effect of an insert on the live rows

-- "A new key is appended. A known key goes through the rule; a row so made is appended and the old row dies"
unfoldable placed : Opening → List ℕ → Option (List ℕ) → List (List ℕ) → List (List ℕ)
placed o cells none live = live ++ (cells ∷ [])
placed o cells (some old) live =
    elim (ruled o.rule o.keys o.sort old cells) [
      | none ↦ live
      | some row ↦ filter (λ other. not (has_key o.keys (take o.keys cells) other)) live ++ (row ∷ [])
    ]

unfoldable arrived : Opening → List ℕ → List (List ℕ) → List (List ℕ)
arrived o cells live = cond (skipped cells) live (placed o cells (find (has_key o.keys (take o.keys cells)) live) live)

-- all inserts, in order
unfoldable all_arrived : Opening → List (List ℕ) → List (List ℕ) → List (List ℕ)
all_arrived o [] live = live
all_arrived o (cells ∷ rest) live = all_arrived o rest (arrived o cells live)

all_arrived_then : (o : Opening) (a b live : List (List ℕ)) → all_arrived o (a ++ b) live ≡ all_arrived o b (all_arrived o a live)
unfolding all_arrived
all_arrived_then o [] b live = refl
all_arrived_then o (cells ∷ rest) b live = all_arrived_then o rest b (arrived o cells live)

-- an insert either leaves these live rows or stops
abbrev Leaves : List (List ℕ) → Reply Plain → Type 0
Leaves live (refused number) = 0 < number
Leaves live (accepted p) = live_cells p ≡ live

append_leaves : (cells : List ℕ) (p : Plain) (rows : List Row) → Leaves (cells_of rows ++ (cells ∷ [])) (append cells p rows)
unfolding append reply
append_leaves cells p rows = go (stop cells p)
  where
    go : (n : ℕ) → Leaves (cells_of rows ++ (cells ∷ [])) (reply n (with_row p rows cells))
    go zero = live_cells_of (with_row p rows cells) ∙ cells_of_appended rows cells
    go (suc n) = omega arith

upsert_leaves : (cells : List ℕ) (found : Option Numbered) (p : Plain) → Leaves (placed p.opening cells (Option·map (λ row. row.cells) found) (live_cells p)) (upsert cells found p)
unfolding upsert placed
upsert_leaves cells none p = rw (live_cells_of p) (append_leaves cells p p.rows)
upsert_leaves cells (some old) p = go (ruled p.opening.rule p.opening.keys p.opening.sort old.cells cells)
  where
    key : List ℕ
    key = take p.opening.keys cells

    go : (r : Option (List ℕ))
        → Leaves
        (elim r [ none ↦ live_cells p | some row ↦ filter (λ other. not (has_key p.opening.keys key other)) (live_cells p) ++ (row ∷ []) ])
        (elim r [ none ↦ accepted p | some row ↦ append row p (kill_if (live_with_key p.opening.keys key) p.rows) ])
    go none = refl
    go (some row) =
        rw (live_cells_of p, ← cells_of_killed p.opening.keys key p.rows)
        (append_leaves row p (kill_if (live_with_key p.opening.keys key) p.rows))

-- a lookup by key in the table finds the same cells as a search in its live cells
lookup_cells : (p : Plain) (key : List ℕ) → Option·map (λ row. row.cells) (lookup p key) ≡ find (has_key p.opening.keys key) (live_cells p)
unfolding lookup live_cells
lookup_cells p key = find_map (λ (row : Numbered). row.cells) (has_key p.opening.keys key) (live_rows p)

insertion_leaves : (cells : List ℕ) (p : Plain) → Leaves (arrived p.opening cells (live_cells p)) (insertion cells p)
unfolding insertion arrived
insertion_leaves cells p =
    let key : List ℕ = take p.opening.keys cells in
    elim (split (skipped cells)) [ inl e ↦ rw e | inr e ↦ rw (e, ← lookup_cells p key) (upsert_leaves cells (lookup p key) p) ]

-- ---- a merge of inserts alone

-- the live rows after inserts none of which stops
insert_all_leaves : (rows : List (List ℕ)) (place : ℕ) (p : Plain) → (insert_all rows place p).status ≡ 0
    → live_cells (insert_all rows place p).table ≡ all_arrived p.opening rows (live_cells p)
unfolding all_arrived
insert_all_leaves [] place p e = unfold insert_all in refl
insert_all_leaves (cells ∷ rest) place p e = go (insertion cells p) refl (insertion_leaves cells p) (insert_all_leaves rest (suc place))
  where
    now : List (List ℕ)
    now = arrived p.opening cells (live_cells p)

    go : (i : Reply Plain) → insertion cells p ≡ i → Leaves now i
        → ((p' : Plain) → (insert_all rest (suc place) p').status ≡ 0
        → live_cells (insert_all rest (suc place) p').table ≡ all_arrived p'.opening rest (live_cells p'))
        → live_cells (insert_all (cells ∷ rest) place p).table ≡ all_arrived p.opening rest now
    go (refused n) q l ih =
        let z : (insert_all (cells ∷ rest) place p).status ≡ n = ap (λ (x : Inserted). x.status) (insert_all_refused cells rest place p n q) in
        absurd (omega (arith, l, z, e))
    go (accepted p') q l ih =
        let z = insert_all_accepted cells rest place p p' q in
        rw (z, ← l, ← (insertion_alike cells p p' q).opening) (ih p' (ap (λ (x : Inserted). x.status) (sym z) ∙ e))

-- The end of a merge: drops the staged records, and compacts or not. The live rows do not change.
abbrev finished : Bool → Plain → Plain
finished compacting p = cond compacting (compacted (unstaged p)) (unstaged p)

live_cells_unstaged : (p : Plain) → live_cells (unstaged p) ≡ live_cells p
unfolding live_cells live_rows unstaged
live_cells_unstaged p = refl

live_cells_finished : (compacting : Bool) (p : Plain) → live_cells (finished compacting p) ≡ live_cells p
unfolding live_cells
live_cells_finished true p = live_rows_compacted (unstaged p) ∙ live_cells_unstaged p
live_cells_finished false p = live_cells_unstaged p

-- The opening does not change, and nothing is staged.
finished_rest : (compacting : Bool) (p : Plain) → ((finished compacting p).opening ≡ p.opening) × ((finished compacting p).staged ≡ [])
unfolding compacted unstaged
finished_rest true p = (refl, refl)
finished_rest false p = (refl, refl)

-- stages a batch, one insert after another
unfoldable pub batch : List (List ℕ) → Plain → Plain
batch [] p = p
batch (cells ∷ rest) p = batch rest (stage p (insert cells))

batch_staged : (rows : List (List ℕ)) (p : Plain) → (batch rows p).staged ≡ p.staged ++ map insert rows
unfolding batch stage
batch_staged [] p = sym (append-nil p.staged)
batch_staged (cells ∷ rest) p = batch_staged rest (stage p (insert cells)) ∙ append_assoc p.staged (insert cells ∷ []) (map insert rest)

-- the inserts of a batch are all its records
inserts_map : (rows : List (List ℕ)) → inserts (map insert rows) ≡ rows
unfolding inserts
inserts_map [] = refl
inserts_map (cells ∷ rest) = ap (λ (l : List (List ℕ)). cells ∷ l) (inserts_map rest)

-- a batch removes nothing
kept_map : (rows : List (List ℕ)) (p : Plain) → (foldl without_key p (map insert rows) ≡ p) × (foldl without_row p (map insert rows) ≡ p)
unfolding without_key without_row
kept_map [] p = (refl, refl)
kept_map (cells ∷ rest) p = kept_map rest p

-- the opening and the live rows do not change
batch_rest : (rows : List (List ℕ)) (p : Plain) → ((batch rows p).opening ≡ p.opening) × (live_cells (batch rows p) ≡ live_cells p)
unfolding batch stage live_cells live_rows
batch_rest [] p = (refl, refl)
batch_rest (cells ∷ rest) p = batch_rest rest (stage p (insert cells))

module _ (rows : List (List ℕ)) (p : Plain) (e : p.staged ≡ []) where
  -- a merge of a staged batch applies exactly its inserts
  applied_batch : applied (batch rows p) ≡ insert_all rows 0 (batch rows p)
  unfolding applied removed
  applied_batch =
      let staged : (batch rows p).staged ≡ map insert rows = batch_staged rows p ∙ ap (λ (l : List Staged). l ++ map insert rows) e in
      let q : Plain = batch rows p in
      let kept : removed q ≡ q =
      ap (λ (rs : List Staged). foldl without_row (foldl without_key q rs) rs) staged
      ∙ ap (λ (t : Plain). foldl without_row t (map insert rows)) (kept_map rows q).0
      ∙ (kept_map rows q).1 in
      ap₂ (λ (cells : List (List ℕ)) (t : Plain). insert_all cells 0 t) (ap inserts staged ∙ inserts_map rows) kept

  -- if the merge does not stop, `all_arrived` is its effect on the live rows
  merged_leaves : (merged (batch rows p)).status ≡ 0 → live_cells (merged (batch rows p)).table ≡ all_arrived p.opening rows (live_cells p)
  unfolding merged
  merged_leaves q =
      let rest = batch_rest rows p in
      let k : (insert_all rows 0 (batch rows p)).status ≡ 0 = rw applied_batch at q in
      let t : Inserted = applied (batch rows p) in
      live_cells_finished (compacts_after t.status t.table) t.table
      ∙ ap (λ (x : Inserted). live_cells x.table) applied_batch
      ∙ insert_all_leaves rows 0 (batch rows p) k
      ∙ ap₂ (λ (o : Opening) (live : List (List ℕ)). all_arrived o rows live) rest.0 rest.1

  -- The opening does not change, and nothing is pending.
  merged_rest : (merged (batch rows p)).status ≡ 0 → ((merged (batch rows p)).table.opening ≡ p.opening) × ((merged (batch rows p)).table.staged ≡ [])
  unfolding merged
  merged_rest q =
      let t : Inserted = applied (batch rows p) in
      let f = finished_rest (compacts_after t.status t.table) t.table in
      (f.0 ∙ (applied_alike (batch rows p)).opening ∙ (batch_rest rows p).0, f.1)

-- "merging one batch and then another shall leave the same live rows in the same order as merging both as one"
pub cut_anywhere : (p : Plain) (a b : List (List ℕ)) → p.staged ≡ [] → (merged (batch a p)).status ≡ 0
    → (merged (batch b (merged (batch a p)).table)).status ≡ 0 → (merged (batch (a ++ b) p)).status ≡ 0
    → live_cells (merged (batch b (merged (batch a p)).table)).table ≡ live_cells (merged (batch (a ++ b) p)).table
cut_anywhere p a b e one two whole =
    merged_leaves b (merged (batch a p)).table (merged_rest a p e one).1 two
    ∙ (rw ((merged_rest a p e one).0, merged_leaves a p e one, merged_leaves (a ++ b) p e whole) (sym (all_arrived_then p.opening a b (live_cells p))))
