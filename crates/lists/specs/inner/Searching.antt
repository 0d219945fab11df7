-- Definitions on lists for contracts of private functions. Assumes nothing.
use Rattle.std.specs.Prelude.{ℕ, zero, suc, cond, List, [], ◌∷◌, ltb}

module _ {A : Type 0} where
  -- the first n elements mapped, the others unchanged
  unfoldable pub map_front : (A → A) → ℕ → List A → List A
  map_front f zero l = l
  map_front f (suc n) [] = []
  map_front f (suc n) (x ∷ xs) = f x ∷ map_front f n xs

-- the first position whose number is not below x
unfoldable pub first_not_below : ℕ → List ℕ → ℕ
first_not_below x [] = 0
first_not_below x (y ∷ ys) = cond (ltb y x) (suc (first_not_below x ys)) 0
