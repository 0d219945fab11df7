-- Contracts of the parts of the soundness check, and how the words of the pending store are decoded as records. Assumes nothing.
use Rattle.std.specs.Prelude.{ℕ, ◌+◌, ◌≤◌, ◌<◌, ◌≡◌, Bool, true, false, cond, not, List, map, eqb, length, take, drop, get_or}
use Rattle.lists.specs.Lists.{count, all, row_at, rows_of, flatten}
use Rattle.constraints.specs.Constraints.{is_live}
use Rattle.key_index.specs.Slots.{LiveAt}
use Rattle.sort_entries.specs.Entries.{entries_of, entries_sound, value_at}
use Rattle.sort_entries.specs.Laws.Push.{last_passes}
use Rattle.plain_table.specs.Staged.{Opening, Staged, words_of, words_all}
use Rattle.plain_table.specs.Refusing.{wrong_width}
use Rattle.plain_table.specs.Proper.{at_most}
use Rattle.table.specs.declared.Header.{Header}
use Rattle.table.specs.Numbers.{opening_of, largest_view}
use Rattle.table.specs.Stores.{record_words, Holds}
use Rattle.table.specs.Sound.{index_shape_of, Sound}

-- ---- rows and sort entries

abbrev pub dead_rows : Header → List ℕ → ℕ
dead_rows h rows = count (λ row. not (is_live row)) (rows_of h.columns h.rows rows)

-- there is no entry, or the value of the last entry is at most the largest value
abbrev pub last_kept : Header → List ℕ → Bool
last_kept h sorts = last_passes (λ v. at_most v (largest_view h.largest)) (entries_of h.entries sorts)

-- the part of soundness that concerns the rows and the sort entries
pub record RowsSound (h : Header) (rows sorts : List ℕ) : Type 0 where
  pub dead_counted : h.dead ≡ dead_rows h rows
  pub entries_rise : entries_sound (entries_of h.entries sorts) h.rows ≡ true
  pub sorted : (i : ℕ) → LiveAt (index_shape_of h) rows i
      → get_or (row_at h.columns i rows) h.sort 0 ≡ value_at i (entries_of h.entries sorts)
  pub largest_kept : all (λ e. at_most e.value (largest_view h.largest)) (entries_of h.entries sorts) ≡ true

-- ---- pending records

-- the pending words in use are within their store
pub record PendingIn (h : Header) (pending : List ℕ) : Type 0 where
  pub most_columns : h.columns ≤ 8
  pub most_keys : h.keys ≤ h.columns
  pub fits : h.pending ≤ length pending

-- the offset of the key in a record
unfoldable pub key_place : ℕ → ℕ
key_place kind = cond (eqb kind 2) 3 2

-- the key of the record at the start of the words
unfoldable pub key_words : Opening → List ℕ → List ℕ
key_words o words = take o.keys (drop (key_place (get_or words 0 0)) words)

-- the words start with a record
pub record Begins (o : Opening) (words : List ℕ) (r : Staged) : Type 0 where
  pub right_width : wrong_width o r ≡ false
  pub there : take (words_of o r) words ≡ record_words o.keys r

-- the number of words of the record at a place; 0 if there is no record that ends by `end`
pub record RecordRead (o : Opening) (pending : List ℕ) (end at r : ℕ) : Type 0 where
  pub yes : 0 < r → (q : Staged) × Begins o (drop at pending) q × (words_of o q ≡ r) × (at + r ≤ end)
  pub no : r ≡ 0 → (q : Staged) → Begins o (drop at pending) q → at + words_of o q ≤ end → ⊥

-- the records fill the words from `at` to `end`
pub record HoldsFrom (o : Opening) (pending : List ℕ) (end at : ℕ) (staged : List Staged) : Type 0 where
  pub whole : all (λ r. not (wrong_width o r)) staged ≡ true
  pub counted : at + words_all o staged ≡ end
  pub in_order : take (words_all o staged) (drop at pending) ≡ flatten (map (record_words o.keys) staged)

-- the part of soundness that concerns the pending store
pub record Pending (h : Header) (pending : List ℕ) (staged : List Staged) : Type 0 where
  pub pending_counted : h.pending ≡ words_all (opening_of h) staged
  pub pending_whole : Holds (opening_of h) pending staged

abbrev pub PendingWhole : Header → List ℕ → Type 0
PendingWhole h pending = (staged : List Staged) × Pending h pending staged

-- ---- all parts

abbrev pub SoundStores : Header → List ℕ → List ℕ → List ℕ → List ℕ → Type 0
SoundStores h rows keys sorts pending = (staged : List Staged) × Sound h rows keys sorts pending staged
