-- Writing a listing of a table (document 01, "The program `levels`"; document 02, change 11), in the old form or the new: what the
-- program `levels` prints for the lines L and U. A definition that takes a Bool takes true for the new form. Bytes are numbers, in
-- ASCII. Assumes nothing.
use Rattle.refusals.specs.declared.Refusal.{Refusal}
use Rattle.std.specs.Prelude.{ℕ, Bool, cond, List, [], ◌∷◌, map, length, ltb, Result}
use Rattle.lists.specs.Lists.{splice}
use Rattle.refusals.specs.Refusals.{check, first_refusal, Effect, answer_view}
use Rattle.plain_table.specs.Staged.{Opening}
use Rattle.plain_table.specs.Plain.{Row, live_from}
use Rattle.table.specs.declared.Header.{Header}
use Rattle.table.specs.Numbers.{opening_of}
use Rattle.table.specs.Refusing.{outside, rows_short}
use Rattle.table.specs.Stores.{rows_in}
use Rattle.listing_spec.specs.Listings.{Listing, listing_text, from_numbered}

-- the listing of a table with these numbers and rows: "(columns, keys, sort, rule, generation)", "(each live row, rising)"; in the
-- new form the head has the row count as its last field and each D line the row number as its first; the old form leaves these out
unfoldable pub table_listing : Bool → Opening → ℕ → List Row → Listing
table_listing numbered o generation rows =
    let l : Listing = record { head = o.columns ∷ o.keys ∷ o.sort ∷ o.rule ∷ generation ∷ length rows ∷ []; rows = map (λ row. row.number ∷ row.cells) (live_from 0 rows) } in
    cond numbered l (from_numbered l)

-- the text of the listing of a header and a row store
unfoldable pub stored_text : Bool → Header → List ℕ → List ℕ
stored_text numbered h rows = listing_text numbered (table_listing numbered (opening_of h) h.generation (rows_in h rows))

-- 1, header numbers outside their bounds; 2, a row store shorter than needed; 2 again, an output shorter than the text
unfoldable pub write_refusal : Bool → Header → List ℕ → ℕ → ℕ
write_refusal numbered h rows output =
    first_refusal (check (outside h) 1 ∷ check (rows_short h (length rows)) 2 ∷ check (ltb output (length (stored_text numbered h rows))) 2 ∷ [])

-- The contract of writing a listing: the text is at the start of the output, its length is the answer, and nothing changes past it;
-- on refusal nothing changes at all.
pub record ListingWritten (numbered : Bool) (h : Header) (rows output : List ℕ) (answer : Result ℕ Refusal) (output' : List ℕ) : Type 0 where
  pub effect : Effect (write_refusal numbered h rows (length output)) (answer_view answer) (length (stored_text numbered h rows)) output output'
      (splice output 0 (stored_text numbered h rows))
