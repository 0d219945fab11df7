-- Queries on rows (document 01, "Operations": refine by one and by a list, any match, page). They use only the header and the row
-- store, so their contracts hold for any table. A store without a primed name is lent shared and does not change. Assumes nothing.
use Rattle.refusals.specs.declared.Refusal.{Refusal}
use Rattle.std.specs.Prelude.{ℕ, ◌+◌, ◌-◌, min, ◌≡◌, Bool, cond, not, ◌||◌, List, [], ◌∷◌, ◌++◌, length, take, drop, ltb, Option as Maybe, Some, None, Result, Ok, Err}
use Rattle.std.proofs.Math.Option.{Option, none, some}
use Rattle.lists.specs.Lists.{splice, filter, count, all, any, row_at}
use Rattle.refusals.specs.Refusals.{Check, check, first_refusal, Reply, refused, accepted, reply, Effect, number, answer_view}
use Rattle.offsets.specs.declared.SubsetForm.{SubsetForm}
use Rattle.offsets.specs.Subsets.{Subset, well_formed, members, size, end_of, retain, narrowed}
use Rattle.offsets.specs.Answers.{Answered}
use Rattle.constraints.specs.declared.Constraint.{Constraint}
use Rattle.constraints.specs.Constraints.{known, is_live, meets}
use Rattle.table.specs.declared.Header.{Header}
use Rattle.table.specs.Refusing.{outside, rows_short}
use Rattle.query_spec.specs.declared.Page.{Page}

-- row `id` is live and meets the conditions
unfoldable pub matches : Header → List ℕ → List Constraint → ℕ → Bool
matches h rows conditions id = meets (row_at h.columns id rows) conditions

-- "how many of the visited ids were dead, apart from live rows that failed a condition": how many ids have a dead row
unfoldable pub dead_among : Header → List ℕ → List ℕ → ℕ
dead_among h rows ids = count (λ id. not (is_live (row_at h.columns id rows))) ids

-- "5, range end or last id plus one above the row count"
unfoldable pub past_rows : Header → Subset → Bool
past_rows h subset = ltb h.rows (end_of subset)

-- the checks that all queries share, 1, 2, 4, 5 and 6; `beyond` is test 5 of the query
unfoldable pub query_checks : Header → ℕ → Subset → Bool → List Constraint → List Check
query_checks h rows subset beyond conditions =
    check (outside h) 1
    ∷ check (rows_short h rows) 2
    ∷ check (not (well_formed subset)) 4
    ∷ check beyond 5
    ∷ check (not (all (known h.columns) conditions)) 6
    ∷ []

-- *Refine by one, by a list*: "2 again, output shorter than the subset"
unfoldable pub refine_refusal : Header → ℕ → Subset → List Constraint → ℕ → ℕ
refine_refusal h rows subset conditions output =
    first_refusal (query_checks h rows subset (past_rows h subset) conditions ++ (check (ltb output (size subset)) 2 ∷ []))

-- "any match has none"
unfoldable pub match_refusal : Header → ℕ → Subset → List Constraint → ℕ
match_refusal h rows subset conditions = first_refusal (query_checks h rows subset (past_rows h subset) conditions)

-- *Page*: 5 "also start place above the subset's size", "2 again, output shorter than the smaller of n and what remains"
unfoldable pub page_refusal : Header → ℕ → Subset → ℕ → ℕ → List Constraint → ℕ → ℕ
page_refusal h rows subset start n conditions output =
    first_refusal
    (query_checks h rows subset (past_rows h subset || ltb (size subset) start) conditions
    ++ (check (ltb output (min n (size subset - start))) 2 ∷ []))

-- refine by one is `retain`, refine by a list is `narrowed`
unfoldable pub refine_one_reply : Header → List ℕ → Subset → Constraint → ℕ → Reply Subset
refine_one_reply h rows subset c output =
    reply (refine_refusal h (length rows) subset (c ∷ []) output) (retain (matches h rows (c ∷ [])) subset)

unfoldable pub refine_list_reply : Header → List ℕ → Subset → List Constraint → ℕ → Reply Subset
refine_list_reply h rows subset conditions output =
    reply (refine_refusal h (length rows) subset conditions output) (narrowed (matches h rows conditions) subset)

-- *Page* (`scan_generic_bounded`): "Visits n ids from the start place"
unfoldable pub visited : Subset → ℕ → ℕ → List ℕ
visited subset start n = take n (drop start (members subset))

-- "writes the live matching ones"
unfoldable pub page_ids : Header → List ℕ → Subset → ℕ → ℕ → List Constraint → List ℕ
page_ids h rows subset start n conditions = filter (matches h rows conditions) (visited subset start n)

-- "the next place or *none*. n = 0 gives the start place back unless nothing remains"
unfoldable pub next_place : Subset → ℕ → ℕ → Option ℕ
next_place subset start n = cond (ltb (start + n) (size subset)) (some (start + n)) none

-- "answers how many were written and the next place or *none*", and (change 1) how many of the visited ids have a dead row
pub record PageResult : Type 0 where
  pub written : ℕ
  pub dead : ℕ
  pub next : Option ℕ

unfoldable pub page_of : Header → List ℕ → Subset → ℕ → ℕ → List Constraint → PageResult
page_of h rows subset start n conditions =
    record { written = length (page_ids h rows subset start n conditions); dead = dead_among h rows (visited subset start n); next = next_place subset start n }

-- the view of a page
unfoldable pub next_view : Maybe ℕ → Option ℕ
next_view None = none
next_view (Some place) = some place

unfoldable pub page_view : Result Page Refusal → Reply PageResult
page_view (Err refusal) = refused (number refusal)
page_view (Ok page) = accepted (record { written = page.written; dead = page.dead; next = next_view page.next })

-- the contracts

pub record RefinedOne (h : Header) (rows : List ℕ) (subset : Subset) (c : Constraint) (output : List ℕ) (answer : Result SubsetForm Refusal) (output' : List ℕ) : Type 0 where
  pub answered : Answered (refine_one_reply h rows subset c (length output)) output answer output'

pub record RefinedList (h : Header) (rows : List ℕ) (subset : Subset) (conditions : List Constraint) (output : List ℕ) (answer : Result SubsetForm Refusal) (output' : List ℕ) : Type 0 where
  pub answered : Answered (refine_list_reply h rows subset conditions (length output)) output answer output'

pub record Matched (h : Header) (rows : List ℕ) (subset : Subset) (conditions : List Constraint) (answer : Result Bool Refusal) : Type 0 where
  pub answers : answer_view answer ≡ reply (match_refusal h (length rows) subset conditions) (any (matches h rows conditions) (members subset))

pub record PageRead (h : Header) (rows : List ℕ) (subset : Subset) (start n : ℕ) (conditions : List Constraint) (output : List ℕ) (answer : Result Page Refusal) (output' : List ℕ) : Type 0 where
  pub effect : Effect (page_refusal h (length rows) subset start n conditions (length output)) (page_view answer) (page_of h rows subset start n conditions)
      output output' (splice output 0 (page_ids h rows subset start n conditions))
