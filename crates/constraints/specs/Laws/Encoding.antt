-- Laws of decoding conditions one by one. Assumes nothing.
use Rattle.std.specs.Prelude.{ℕ, ◌+◌, ◌≡◌, refl, List, [], ◌∷◌, ◌++◌}
use Rattle.std.proofs.Common.{◌∙◌, ap, arith}
use Rattle.std.proofs.lemmas.List.{map-append}
use Rattle.lists.specs.Lists.{iota}
use Rattle.lists.specs.Laws.Rising.{iota_snoc}
use Rattle.constraints.specs.Encoding.{condition_in, conditions_in}

pub none_in : (words : List ℕ) → conditions_in 0 words ≡ []
unfolding conditions_in iota
none_in words = refl

pub more_in : (words : List ℕ) (n : ℕ) → conditions_in (n + 1) words ≡ conditions_in n words ++ (condition_in words n ∷ [])
unfolding conditions_in
more_in words n =
    let snoc : iota 0 (n + 1) ≡ iota 0 n ++ (n ∷ []) = iota_snoc 0 n ∙ ap (λ (k : ℕ). iota 0 n ++ (k ∷ [])) (let z : 0 + n ≡ n = omega arith in z) in
    rw (snoc, map-append (condition_in words) (iota 0 n) (n ∷ []))
