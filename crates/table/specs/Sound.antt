-- Soundness (document 01, "Stores and numbers"): the paper's sentence part by part, and the requirement that the header and stores
-- pass tests 1 and 2. Assumes nothing.
use Rattle.std.specs.Prelude.{ℕ, ◌≡◌, true, not, List, length, get_or}
use Rattle.lists.specs.Lists.{all, count, row_at, rows_of}
use Rattle.constraints.specs.Constraints.{is_live}
use Rattle.key_index.specs.declared.IndexShape.{IndexShape}
use Rattle.key_index.specs.Slots.{LiveAt, key_at, size_class_for, KeysSound}
use Rattle.sort_entries.specs.Entries.{entries_of, entries_sound, value_at}
use Rattle.plain_table.specs.Staged.{Staged, words_all}
use Rattle.plain_table.specs.Proper.{at_most}
use Rattle.table.specs.declared.Header.{Header}
use Rattle.table.specs.Numbers.{opening_of, largest_view}
use Rattle.table.specs.Refusing.{sound_refusal}
use Rattle.table.specs.Stores.{Holds}

abbrev pub index_shape_of : Header → IndexShape
index_shape_of h = record { columns = h.columns; keys = h.keys; room = size_class_for h.capacity h.rows; rows = h.rows }

-- "live keys differ"
abbrev pub KeysDiffer : Header → List ℕ → Type 0
KeysDiffer h rows = (i j : ℕ) → LiveAt (index_shape_of h) rows i → LiveAt (index_shape_of h) rows j
    → key_at (index_shape_of h) rows i ≡ key_at (index_shape_of h) rows j → i ≡ j

-- The part of soundness that is about the contents of a table: all but tests 1 and 2 and the key store.
pub record SoundContents (h : Header) (rows sorts pending : List ℕ) (staged : List Staged) : Type 0 where
  -- "its dead count is the number of dead rows"
  pub dead_counted : h.dead ≡ count (λ row. not (is_live row)) (rows_of h.columns h.rows rows)
  pub keys_differ : KeysDiffer h rows
  -- "sort entries rise strictly, lie below the row count and begin at row 0 where there is a row"
  pub entries_rise : entries_sound (entries_of h.entries sorts) h.rows ≡ true
  -- "each live sort cell is the value of the last entry at or below its row"
  pub sorted : (i : ℕ) → LiveAt (index_shape_of h) rows i
      → get_or (row_at h.columns i rows) h.sort 0 ≡ value_at i (entries_of h.entries sorts)
  -- change 7: "no sort entry exceeds it, and .. there is one wherever there are sort entries"
  pub largest_kept : all (λ e. at_most e.value (largest_view h.largest)) (entries_of h.entries sorts) ≡ true
  -- "pending records are whole"
  pub pending_counted : h.pending ≡ words_all (opening_of h) staged
  pub pending_whole : Holds (opening_of h) pending staged

-- "A table is *sound* if:"
pub record Sound (h : Header) (rows keys sorts pending : List ℕ) (staged : List Staged) : Type 0 where
  -- its header and stores pass tests 1 and 2
  pub tested : sound_refusal h (length rows) (length keys) (length sorts) (length pending) ≡ 0
  pub contents : SoundContents h rows sorts pending staged
  -- "the key store leads to exactly the live rows"
  pub keys_sound : KeysSound (index_shape_of h) rows keys
