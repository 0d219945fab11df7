-- The library's test of every element is that of `lists`. Assumes nothing.
use Rattle.std.proofs.Common.{refl, ap}
use Rattle.std.specs.Prelude.{◌≡◌, Bool, ◌&&◌, List, [], ◌∷◌}
use Rattle.std.specs.List.{list_all}
use Rattle.lists.specs.Lists.{all}

pub every : {A : Type 0} (test : A → Bool) (xs : List A) → list_all test xs ≡ all test xs
unfolding all
every test [] = refl
every test (x ∷ xs) = ap (λ (b : Bool). test x && b) (every test xs)
