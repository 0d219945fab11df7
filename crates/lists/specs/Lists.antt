-- General definitions on lists, from which the paper's definitions are built. Nothing here is about tables. Assumes nothing.
use Rattle.std.specs.Prelude.{ℕ, zero, suc, ◌+◌, ◌*◌, Bool, true, false, cond, ◌&&◌, ◌||◌, List, [], ◌∷◌, ◌++◌, length, take, drop, leb, ltb, eqb}
use Rattle.std.proofs.Math.Option.{Option, none, some}

module _ {A : Type 0} where
  -- l with w written from position `at` on: the contents of a store after w is written, if w fits there
  unfoldable pub splice : List A → ℕ → List A → List A
  splice l at w = take at l ++ (w ++ drop (at + length w) l)

  -- the elements that pass a test, in order
  unfoldable pub filter : (A → Bool) → List A → List A
  filter test [] = []
  filter test (x ∷ xs) = cond (test x) (x ∷ filter test xs) (filter test xs)

  -- the number of elements that pass a test
  unfoldable pub count : (A → Bool) → List A → ℕ
  count test [] = 0
  count test (x ∷ xs) = cond (test x) (suc (count test xs)) (count test xs)

  -- all elements pass a test
  unfoldable pub all : (A → Bool) → List A → Bool
  all test [] = true
  all test (x ∷ xs) = test x && all test xs

  -- at least one element passes a test
  unfoldable pub any : (A → Bool) → List A → Bool
  any test [] = false
  any test (x ∷ xs) = test x || any test xs

  -- the first element that passes a test, if there is one
  unfoldable pub find : (A → Bool) → List A → Option A
  find test [] = none
  find test (x ∷ xs) = cond (test x) (some x) (find test xs)

  -- row i of a store of rows of width w
  unfoldable pub row_at : ℕ → ℕ → List A → List A
  row_at w i store = take w (drop (i * w) store)

  -- the first n rows
  unfoldable pub rows_of : ℕ → ℕ → List A → List (List A)
  rows_of w zero store = []
  rows_of w (suc n) store = take w store ∷ rows_of w n (drop w store)

  -- concatenation
  unfoldable pub flatten : List (List A) → List A
  flatten [] = []
  flatten (row ∷ rows) = row ++ flatten rows

-- the n consecutive numbers from s on
unfoldable pub iota : ℕ → ℕ → List ℕ
iota s zero = []
iota s (suc n) = s ∷ iota (suc s) n

-- each number is above the one before, and the first is above x
unfoldable pub above : ℕ → List ℕ → Bool
above x [] = true
above x (y ∷ ys) = ltb x y && above y ys

-- strictly rising
unfoldable pub rising : List ℕ → Bool
rising [] = true
rising (x ∷ xs) = above x xs

-- x is a member
unfoldable pub elem : ℕ → List ℕ → Bool
elem x [] = false
elem x (y ∷ ys) = eqb x y || elem x ys

-- a ≤ x < b
unfoldable pub within : ℕ → ℕ → ℕ → Bool
within a b x = leb a x && ltb x b

-- equality of lists as a test
unfoldable pub same : List ℕ → List ℕ → Bool
same [] [] = true
same [] (y ∷ ys) = false
same (x ∷ xs) [] = false
same (x ∷ xs) (y ∷ ys) = eqb x y && same xs ys
