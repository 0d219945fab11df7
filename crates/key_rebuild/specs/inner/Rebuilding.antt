-- Contracts of rebuilding the key store (document 01, "Key index"). Assumes nothing.
use Rattle.std.specs.Prelude.{ℕ, ◌+◌, ◌≡◌, Bool, true, false, List, drop}
use Rattle.key_index.specs.declared.IndexShape.{IndexShape}
use Rattle.key_index.specs.Slots.{slots, KeysSound}
use Rattle.key_index.specs.inner.Index.{KeysDiffer}

-- the first n rows of a table, in the same slots
abbrev pub first_rows : IndexShape → ℕ → IndexShape
first_rows t n = record { columns = t.columns; keys = t.keys; room = t.room; rows = n }

-- if the slots lead to exactly the live rows before this row, they lead to this row too, if it is live
pub record RowPut (t : IndexShape) (rows store : List ℕ) (row : ℕ) (store' : List ℕ) : Type 0 where
  pub sound : KeysSound (first_rows t row) rows store → KeysSound (first_rows t (row + 1)) rows store'
  pub rest : drop (slots t) store' ≡ drop (slots t) store

-- the slots lead to exactly the live rows, whatever their previous contents
pub record Rebuilt (t : IndexShape) (rows store store' : List ℕ) : Type 0 where
  pub sound : KeysSound t rows store'
  pub rest : drop (slots t) store' ≡ drop (slots t) store

-- the row is put as by `RowPut`, unless an earlier live row has its key
pub record NewRowPut (t : IndexShape) (rows store : List ℕ) (row : ℕ) (r : Bool) (store' : List ℕ) : Type 0 where
  pub sound : r ≡ true → KeysSound (first_rows t row) rows store → KeysSound (first_rows t (row + 1)) rows store'
  pub differ : r ≡ true → KeysSound (first_rows t row) rows store → KeysDiffer (first_rows t row) rows → KeysDiffer (first_rows t (row + 1)) rows
  pub repeat : r ≡ false → KeysSound (first_rows t row) rows store → KeysDiffer t rows → ⊥

-- whether the keys of live rows differ; if so, the slots lead to exactly the live rows
pub record UniqueBuilt (t : IndexShape) (rows : List ℕ) (r : Bool) (store' : List ℕ) : Type 0 where
  pub sound : r ≡ true → KeysSound t rows store'
  pub differ : r ≡ true → KeysDiffer t rows
  pub repeat : r ≡ false → KeysDiffer t rows → ⊥
