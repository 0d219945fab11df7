-- The contract of a refresh (document 02, change 2), on every input. Assumes nothing.
use Rattle.refusals.specs.declared.Refusal.{Refusal}
use Rattle.std.specs.Prelude.{ℕ, ◌+◌, ◌*◌, ◌<◌, ◌≡◌, Bool, true, false, List, map, length, ltb, Result}
use Rattle.lists.specs.Lists.{splice, filter, flatten}
use Rattle.refusals.specs.Refusals.{Reply, refused, accepted, Effect, answer_view}
use Rattle.plain_table.specs.Staged.{Staged, words_all}
use Rattle.plain_table.specs.Refreshing.{Refresh, mentioning, refreshed, refresh_checks}
use Rattle.table.specs.declared.Header.{Header}
use Rattle.table.specs.Numbers.{opening_of, largest_view}
use Rattle.table.specs.Refusing.{pending_outside}
use Rattle.table.specs.Stores.{record_words}
use Rattle.table.specs.Outcomes.{with_pending, of_rows, SamePast}
use Rattle.refresh_spec.specs.declared.Refreshed.{Refreshed}
use Rattle.refresh_spec.specs.Index.{is_new, IndexSound, Current}

-- the checks of the plain table, with this table's test 1
unfoldable pub refresh_refusal : Header → ℕ → ℕ → ℕ → Refresh → List Staged → ℕ
refresh_refusal h rows pending index r records =
    refresh_checks (pending_outside h pending) (opening_of h) (largest_view h.largest) r rows index h.pending pending (words_all (opening_of h) records)

-- the records of the rows that are found, among the live rows that mention a value
unfoldable pub records_found : Header → List ℕ → Refresh → (ℕ → Bool) → List Staged
records_found h rows r found = refreshed (opening_of h) r.stamp (filter (λ row. found row.number) (mentioning r (of_rows h rows)))

-- "The answer is yes exactly if a row was staged"
abbrev pub answered : Header → List Staged → Refreshed
answered h records = record { header = with_pending h (h.pending + words_all (opening_of h) records); staged = ltb 0 (length records) }

-- Lent are rows (shared), pending and the index store. Whatever the index store holds, the staged records are whole, are in rising
-- row order, and belong to live rows that mention a value: to those for which `found`, the program's choice, is true. Over a sound
-- index store `found` is true for every row, and the store is then an index of the current version. Over an unsound one the first
-- word is not 0 afterwards, and the contract requires no more of the words needed: "Its inside is the program's choice".
pub record Refreshing (h : Header) (rows pending index : List ℕ) (r : Refresh) (answer : Result Refreshed Refusal) (pending' index' : List ℕ) : Type 0 where
  pub found : ℕ → Bool
  pub all_found : IndexSound h rows r.columns index → (row : ℕ) → found row ≡ true
  pub effect : Effect (refresh_refusal h (length rows) (length pending) (length index) r (records_found h rows r found)) (answer_view answer) (answered h (records_found h rows r found))
      pending pending' (splice pending h.pending (flatten (map (record_words h.keys) (records_found h rows r found))))
  pub index_unchanged : 0 < refresh_refusal h (length rows) (length pending) (length index) r (records_found h rows r found) → index' ≡ index
  pub written : refresh_refusal h (length rows) (length pending) (length index) r (records_found h rows r found) ≡ 0 → is_new index' ≡ false
  pub current : refresh_refusal h (length rows) (length pending) (length index) r (records_found h rows r found) ≡ 0 → IndexSound h rows r.columns index
      → Current h rows r.columns index'
  -- words past those needed are never written
  pub past : SamePast (16 + 3 * (h.capacity * length r.columns)) index index'
  pub length_same : length index' ≡ length index
