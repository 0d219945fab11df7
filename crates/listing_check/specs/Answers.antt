-- Checking a laboratory's answers (document 02, change 13): a listing in the new form, a list of conditions and the row numbers
-- that the laboratory gives. Assumes nothing.
use Rattle.refusals.specs.declared.Refusal.{Refusal}
use Rattle.std.specs.Prelude.{ℕ, suc, min, ◌≡◌, true, cond, not, drop, get_or, ltb, Result, Ok, Err, Some, None, Option as Optional}
use mathlib.Core.List.{List, [], ◌∷◌, ◌++◌, foldl}
use Rattle.std.proofs.Math.Option.{Option, none, some, Option-elim}
use Rattle.lists.specs.Lists.{filter, all, elem}
use Rattle.refusals.specs.Refusals.{check, first_refusal, Reply, refused, accepted, reply, number}
use Rattle.constraints.specs.declared.Constraint.{Constraint}
use Rattle.constraints.specs.Constraints.{known, met}
use Rattle.listing_spec.specs.Listings.{Listing, row_numbers, ParsesAs}
use Rattle.listing_check.specs.declared.Mistake.{Mistake}
use Rattle.listing_check.specs.declared.Mistake.TheVariants.{Misplaced, Wrong}

-- the numbers of "the rows of the listing that meet every condition": a row's first field is its number, followed by its cells
unfoldable pub right_numbers : List Constraint → Listing → List ℕ
right_numbers conditions l = row_numbers (filter (λ ns. all (met (drop 1 ns)) conditions) l.rows)

-- "the place, from 0, of the first number not above the one before", for numbers that start at `place` and follow `before`
unfoldable pub misplaced_behind : ℕ → ℕ → List ℕ → Option ℕ
misplaced_behind before place [] = none
misplaced_behind before place (n ∷ ns) = cond (ltb before n) (misplaced_behind n (suc place) ns) (some place)

unfoldable pub misplaced : List ℕ → Option ℕ
misplaced [] = none
misplaced (n ∷ ns) = misplaced_behind n 1 ns

-- the numbers "wrongly present", then those wrongly "absent". "A number without a row in the listing counts as wrongly
-- present": it is not among the right ones.
unfoldable pub wrong_numbers : List ℕ → List ℕ → List ℕ
wrong_numbers given right = filter (λ n. not (elem n right)) given ++ filter (λ n. not (elem n given)) right

unfoldable pub lowest : List ℕ → Option ℕ
lowest [] = none
lowest (n ∷ ns) = some (foldl min n ns)

-- the checker's answers: "It says yes"; "the place, from 0, of the first number not above the one before"; "the lowest row number wrongly
-- present or absent"
pub data Finding : Type 0 where
  correct : Finding
  out_of_order : ℕ → Finding
  lowest_wrong : ℕ → Finding

-- "or, if the list is not strictly rising, the place"; else "the lowest row number wrongly present or absent", and yes if there is none
unfoldable pub finding_on : List ℕ → List ℕ → Finding
finding_on given right = Option-elim (misplaced given) (Option-elim (lowest (wrong_numbers given right)) correct lowest_wrong) out_of_order

-- the reply that an answer represents: a finding for each mistake, and for none
unfoldable pub check_view : Result (Optional Mistake) Refusal → Reply Finding
check_view (Err r) = refused (number r)
check_view (Ok None) = accepted correct
check_view (Ok (Some (Misplaced place))) = accepted (out_of_order place)
check_view (Ok (Some (Wrong n))) = accepted (lowest_wrong n)

-- "After 11 comes 6, as for any condition"
unfoldable pub check_reply : Option Listing → List Constraint → List ℕ → Reply Finding
check_reply listing conditions given =
    Option-elim listing (refused 11) (λ l. reply (first_refusal (check (not (all (known (get_or l.head 0 0)) conditions)) 6 ∷ [])) (finding_on given (right_numbers conditions l)))

-- The contract of the check. It writes to no store.
pub record AnswersChecked (text : List ℕ) (conditions : List Constraint) (given : List ℕ) (answer : Result (Optional Mistake) Refusal) : Type 0 where
  pub listing : Option Listing
  pub shown : ParsesAs true text listing
  pub answers : check_view answer ≡ check_reply listing conditions given
