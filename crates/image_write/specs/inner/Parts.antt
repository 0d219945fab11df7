-- The checks of *Image size*, and the parts of an image that are written one after another. Assumes nothing.
use Rattle.std.specs.Prelude.{ℕ, ◌+◌, ◌*◌, ◌≤◌, List, [], ◌∷◌, ◌++◌, length, take, ltb}
use Rattle.refusals.specs.Refusals.{check, first_refusal}
use Rattle.table.specs.declared.Header.{Header}
use Rattle.table.specs.Refusing.{outside}
use Rattle.abi.specs.Encoding.{encode_header}

unfoldable pub size_refusal : Header → ℕ → ℕ
size_refusal h text = first_refusal (check (outside h) 1 ∷ check (ltb 4096 text) 21 ∷ [])

-- the fifteen words before a text of so many bytes
unfoldable pub image_head : Header → ℕ → List ℕ
image_head h text = 1112819533 ∷ 1 ∷ (encode_header h ++ (text ∷ []))

-- the words in use of each store
unfoldable pub store_words : Header → List ℕ → List ℕ → List ℕ → List ℕ
store_words h rows sorts pending = take (h.rows * h.columns) rows ++ (take (2 * h.entries) sorts ++ take h.pending pending)

-- how many they are
abbrev pub words_in_use : Header → ℕ
words_in_use h = h.rows * h.columns + 2 * h.entries + h.pending

-- each store has as many words as the header has in use
pub record Holds (h : Header) (rows sorts pending : List ℕ) : Type 0 where
  pub rows_held : h.rows * h.columns ≤ length rows
  pub sorts_held : 2 * h.entries ≤ length sorts
  pub pending_held : h.pending ≤ length pending
