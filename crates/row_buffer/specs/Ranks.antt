-- The new numbers of rows (document 01, "Compaction"): "One 64-bit word marks the live rows of each 64, with the new number of the
-- first live one beside it; a row's new number is that plus the count of ones below its bit". Generic over the type of rows and the
-- test for being live. Assumes nothing.
use Rattle.std.specs.Prelude.{ℕ, zero, suc, ◌+◌, ◌/◌, ◌%◌, ◌^◌, Bool, false, cond, List, [], ◌∷◌, take}
use Rattle.lists.specs.Lists.{count}

-- "the count of ones below its bit": the number of ones among the bits of `word` below `bit`
unfoldable pub set_below : ℕ → ℕ → ℕ
set_below word zero = 0
set_below word (suc bit) = set_below word bit + word / 2 ^ bit % 2

-- the bitmap word of the positions below n that pass f
unfoldable pub bitmap_word : (ℕ → Bool) → ℕ → ℕ
bitmap_word f zero = 0
bitmap_word f (suc n) = bitmap_word f n + cond (f n) (2 ^ n) 0

-- the number of positions below n that pass f
unfoldable pub count_to : (ℕ → Bool) → ℕ → ℕ
count_to f zero = 0
count_to f (suc n) = count_to f n + cond (f n) 1 0

module _ {A : Type 0} where
  -- row i exists and is live
  unfoldable pub live_at : (A → Bool) → List A → ℕ → Bool
  live_at live [] i = false
  live_at live (row ∷ rows) zero = live row
  live_at live (row ∷ rows) (suc i) = live_at live rows i

  -- the bitmap word of the n rows from row `start` on
  unfoldable pub live_word : (A → Bool) → List A → ℕ → ℕ → ℕ
  live_word live rows start n = bitmap_word (λ bit. live_at live rows (start + bit)) n

  -- the new number of row i, if it is live: the number of live rows before it
  unfoldable pub new_number : (A → Bool) → List A → ℕ → ℕ
  new_number live rows i = count live (take i rows)
