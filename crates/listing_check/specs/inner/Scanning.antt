-- The merge scan of a listing's rows against the numbers given, and the contract of each step. Assumes nothing.
use Rattle.refusals.specs.declared.Refusal.{Refusal}
use Rattle.std.specs.Prelude.{ℕ, ◌-◌, ◌≤◌, ◌<◌, min, ◌≡◌, Bool, true, cond, List, [], ◌∷◌, eqb, ltb, length, take, drop, Result, Ok, Some, None, Option as Optional}
use Rattle.std.proofs.Math.Option.{Option, none, some}
use Rattle.lists.specs.Lists.{filter, all, above}
use Rattle.constraints.specs.declared.Constraint.{Constraint}
use Rattle.constraints.specs.Constraints.{known, met, is_live, meets}
use Rattle.listing_spec.specs.Listings.{row_numbers}
use Rattle.listing_parse.specs.declared.Survey.{Survey}
use Rattle.listing_parse.specs.Laws.Steps.{rows_from, ValidRows}
use Rattle.listing_check.specs.declared.Mistake.{Mistake}
use Rattle.listing_check.specs.declared.Mistake.TheVariants.{Wrong}
use Rattle.listing_check.specs.declared.Row.{Row}
use Rattle.listing_check.specs.declared.CheckScan.{CheckScan}
use Rattle.listing_check.specs.Answers.{AnswersChecked}

-- the place of the first number not above the one before, as an option
unfoldable pub misplaced_place : Optional ℕ → Option ℕ
misplaced_place None = none
misplaced_place (Some place) = some place

-- the lowest number that exactly one of two rising lists has
unfoldable pub first_apart : List ℕ → List ℕ → Option ℕ
first_apart [] [] = none
first_apart [] (y ∷ ys) = some y
first_apart (x ∷ xs) [] = some x
first_apart (x ∷ xs) (y ∷ ys) = cond (eqb x y) (first_apart xs ys) (some (min x y))

-- the numbers of the given rows that meet every condition
unfoldable pub right_among : List Constraint → List (List ℕ) → List ℕ
right_among conditions rows = row_numbers (filter (λ ns. all (met (drop 1 ns)) conditions) rows)

-- an answer, unless a wrong number is still found
unfoldable pub unless_wrong : Result (Optional Mistake) Refusal → Option ℕ → Result (Optional Mistake) Refusal
unless_wrong answer none = answer
unless_wrong answer (some number) = Ok (Some (Wrong number))

-- there is a D line at an offset
pub record Due (columns : ℕ) (text : List ℕ) (start : ℕ) : Type 0 where
  pub narrow : (1 ≤ columns) × (columns ≤ 8)
  pub before : start < length text
  pub valid_rows : ValidRows true columns text start

-- that line is read
pub record RowRead (columns : ℕ) (text : List ℕ) (start : ℕ) (row : Row) : Type 0 where
  pub forward : start < row.next
  pub read : rows_from text start ≡ (row.number ∷ take columns row.cells) ∷ rows_from text row.next
  pub fits : row.number < 4294967296
  pub live : is_live (take columns row.cells) ≡ true
  pub rises : above row.number (row_numbers (rows_from text row.next)) ≡ true
  pub valid_rows : ValidRows true columns text row.next

-- the rows that are left
unfoldable pub rows_left : List ℕ → CheckScan → List (List ℕ)
rows_left text at = cond (ltb at.start at.end) (rows_from text at.start) []

-- loop invariant: scanning what is left gives the answer of the contract
pub record Underway (columns : ℕ) (text : List ℕ) (conditions : List Constraint) (given : List ℕ) (at : CheckScan) : Type 0 where
  pub whole : at.start < at.end → at.end ≡ length text
  pub due : at.start < at.end → Due columns text at.start
  pub comes : AnswersChecked text conditions given (unless_wrong at.answer (first_apart (drop at.place given) (right_among conditions (rows_left text at))))

-- no row and no number is left
abbrev pub finished_as : Result (Optional Mistake) Refusal → ℕ → CheckScan
finished_as answer count = record { answer = answer; start = 0; end = 0; place = count }

pub record Begun (s : Survey) (knows : Bool) (text given : List ℕ) (at : CheckScan) : Type 0 where
  pub begins : (conditions : List Constraint) → knows ≡ all (known s.columns) conditions → Underway s.columns text conditions given at

-- one row is processed; `meets-all` states whether it meets every condition
pub record Stepped (given : List ℕ) (at : CheckScan) (row : Row) (meets-all : Bool) (at' : CheckScan) : Type 0 where
  pub keeps : (columns : ℕ) (text : List ℕ) (conditions : List Constraint) → Underway columns text conditions given at → at.start < at.end → RowRead columns text at.start row
      → meets-all ≡ meets (take columns row.cells) conditions → Underway columns text conditions given at'
  pub nearer : at.start < at.end → at.start < row.next → at'.end - at'.start < at.end - at.start

-- no rows are left
unfoldable pub closed : CheckScan → List ℕ → Result (Optional Mistake) Refusal
closed at given = unless_wrong at.answer (first_apart (drop at.place given) [])
