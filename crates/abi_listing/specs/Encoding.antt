-- The encoding of the findings of the check of answers. Assumes nothing.
use Rattle.std.specs.Prelude.{ℕ, List, [], ◌∷◌}
use Rattle.listing_check.specs.Answers.{Finding, correct, out_of_order, lowest_wrong}

-- the kind, 0 right, 1 misplaced, 2 wrong, and the place or the number
unfoldable pub encode_finding : Finding → List ℕ
encode_finding correct = 0 ∷ 0 ∷ []
encode_finding (out_of_order place) = 1 ∷ place ∷ []
encode_finding (lowest_wrong number) = 2 ∷ number ∷ []
