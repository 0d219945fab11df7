-- A listing with the rows 2, 5 and 8, of which 2 and 8 meet the condition that the first cell is 7, and the verdicts for some given
-- numbers. Assumes nothing.
use Rattle.std.specs.Prelude.{◌≡◌, ◌∷◌}
use Rattle.listing_check.specs.Laws.Prelude.{refl, [], map, Constraint}
use Rattle.std.proofs.Math.Option.{Option-elim}
use Rattle.lists.specs.Lists.{filter, all, elem}
use Rattle.constraints.specs.Constraints.{compares, met}
use Rattle.listing_spec.specs.Listings.{Listing, row_numbers}
use Rattle.listing_check.specs.Answers.{right_numbers, misplaced_behind, misplaced, wrong_numbers, lowest, correct, out_of_order, lowest_wrong, finding_on}

abbrev listing : Listing
listing = record { head = 2 ∷ 1 ∷ 0 ∷ 0 ∷ 0 ∷ 9 ∷ []; rows = (2 ∷ 7 ∷ 1 ∷ []) ∷ (5 ∷ 3 ∷ 1 ∷ []) ∷ (8 ∷ 7 ∷ 4 ∷ []) ∷ [] }

abbrev condition : Constraint
condition = record { kind = 1; column = 0; value = 7 }

pub example : map (λ given. finding_on given (right_numbers (condition ∷ []) listing)) ((2 ∷ 8 ∷ []) ∷ (2 ∷ 5 ∷ 8 ∷ []) ∷ (2 ∷ []) ∷ (1 ∷ 2 ∷ 8 ∷ []) ∷ (9 ∷ 2 ∷ 8 ∷ []) ∷ (2 ∷ 2 ∷ []) ∷ [])
    ≡ correct ∷ lowest_wrong 5 ∷ lowest_wrong 8 ∷ lowest_wrong 1 ∷ out_of_order 1 ∷ out_of_order 1 ∷ []
unfolding finding_on right_numbers row_numbers filter all met compares misplaced misplaced_behind wrong_numbers elem lowest Option-elim
example = refl
