-- A scan over places of a subset, row by row: what it tests, visits, keeps and counts, and how the queries use it. Assumes nothing.
use Rattle.std.specs.Prelude.{ℕ, zero, suc, ◌+◌, ◌-◌, ◌*◌, ◌≤◌, ◌<◌, min, ◌≡◌, Bool, true, false, cond, not, List, [], ◌∷◌, ◌++◌, ltb, eqb, length, get_or, Option, Some, None, Result, Ok, Err}
use Rattle.lists.specs.Lists.{splice, filter, all}
use Rattle.refusals.specs.declared.Refusal.{Refusal}
use Rattle.refusals.specs.Refusals.{accepted, number}
use Rattle.offsets.specs.declared.retain.RetainBuilder.{RetainBuilder}
use Rattle.offsets.specs.declared.SubsetForm.{SubsetForm}
use Rattle.offsets.specs.Subsets.{Subset, well_formed, members, size, narrowed}
use Rattle.offsets.specs.Answers.{Answered}
use Rattle.offsets.specs.inner.Writing.{Wrote}
use Rattle.offsets.specs.inner.RetainBuilder.{Builds, CanAdd, Adds, BuilderBegins}
use Rattle.constraints.specs.declared.Constraint.{Constraint}
use Rattle.constraints.specs.Constraints.{known}
use Rattle.table.specs.declared.Header.{Header}
use Rattle.query_spec.specs.declared.Page.{Page as Read}
use Rattle.query_scan.specs.declared.Scan.{Scan}
use Rattle.query_spec.specs.Queries.{refine_refusal, match_refusal, page_refusal, matches, dead_among, visited}
use Rattle.query_spec.specs.inner.Tests.{Queryable}
use Rattle.query_scan.specs.Visits.{QueryKind, Refine, Match, Page, ids_visited, Counted}

-- a row is within the store, and has a first cell
abbrev pub RowInStore : Header → ℕ → ℕ → Type 0
RowInStore h rows id = (0 < h.columns) × (id * h.columns + h.columns ≤ rows)

-- ---- what is visited

-- the ids up to and including the nth that passes a test; all if there are fewer
unfoldable pub up_to : ℕ → (ℕ → Bool) → List ℕ → List ℕ
up_to zero test ids = []
up_to (suc n) test [] = []
up_to (suc n) test (x ∷ xs) = x ∷ cond (test x) (up_to n test xs) (up_to (suc n) test xs)

unfoldable pub first_place : QueryKind → ℕ
first_place Refine = 0
first_place Match = 0
first_place (Page start n) = start

-- the number of ids that the output must have room for
unfoldable pub room_required : QueryKind → Subset → ℕ
room_required Refine subset = size subset
room_required Match subset = 0
room_required (Page start n) subset = min n (size subset - start)

unfoldable pub refusal_of : QueryKind → Header → ℕ → Subset → List Constraint → ℕ → ℕ
refusal_of Refine h rows subset conditions output = refine_refusal h rows subset conditions output
refusal_of Match h rows subset conditions output = match_refusal h rows subset conditions
refusal_of (Page start n) h rows subset conditions output = page_refusal h rows subset start n conditions output

-- ---- a scan

-- the ids that are still to be visited
unfoldable pub places : Subset → Scan → List ℕ
places subset s = visited subset s.next (s.end - s.next)

-- the ids that a scan which started as s₀ has visited
unfoldable pub scanned_ids : Subset → Scan → Scan → List ℕ
scanned_ids subset s₀ s = visited subset s₀.next (s.next - s₀.next)

-- a scan that starts at a place
pub record BeginsAt (subset : Subset) (next end most : ℕ) (s : Scan) : Type 0 where
  pub next_is : s.next ≡ next
  pub end_is : s.end ≡ end
  pub most_is : s.most ≡ most
  pub none_dead : s.dead ≡ 0
  pub none_found : BuilderBegins s.found
  pub id_is : s.next < s.end → s.id ≡ get_or (members subset) s.next 0

-- A scan can start: it wants an id, and the output has room for all ids that it may keep. A scan that keeps one id at most needs no
-- room, because the first id can be kept without being written.
pub record CanStart (h : Header) (rows : ℕ) (subset : Subset) (s : Scan) (output : List ℕ) : Type 0 where
  pub queryable : s.next < s.end → Queryable h rows subset
  pub order : s.next ≤ s.end
  pub within : s.end ≤ size subset
  pub wants : s.next < s.end → 0 < s.most
  pub room : 1 < s.most → s.end - s.next ≤ length output
  pub id_is : s.next < s.end → s.id ≡ get_or (members subset) s.next 0
  pub none_dead : s.dead ≡ 0
  pub none_found : BuilderBegins s.found

-- a scan that started as s₀ on output₀: of the ids visited so far it has kept those that pass the test, and counted those whose
-- rows are dead
pub record ScanInvariant (h : Header) (rows : List ℕ) (subset : Subset) (test : ℕ → Bool) (s₀ : Scan) (output₀ : List ℕ) (s : Scan) (output : List ℕ) : Type 0 where
  pub most_is : s.most ≡ s₀.most
  pub from : s₀.next ≤ s.next
  pub upto : s.next ≤ s.end
  pub within : s.end ≤ s₀.end
  pub wants : s.next < s.end → s.found.count < s.most
  pub id_is : s.next < s.end → s.id ≡ get_or (members subset) s.next 0
  pub visits_is : up_to s₀.most test (places subset s₀) ≡ scanned_ids subset s₀ s ++ up_to (s.most - s.found.count) test (places subset s)
  pub grows : Builds output₀ output s.found (filter test (scanned_ids subset s₀ s))
  pub dead_is : s.dead ≡ dead_among h rows (scanned_ids subset s₀ s)

-- an id is kept; the scan ends when the wanted number of ids is kept
pub record Keeps (s : Scan) (output : List ℕ) (s' : Scan) (output' : List ℕ) : Type 0 where
  pub next_is : s'.next ≡ s.next
  pub id_is : s'.id ≡ s.id
  pub most_is : s'.most ≡ s.most
  pub dead_is : s'.dead ≡ s.dead
  pub adds : Adds output s.found s.id s'.found output'
  pub stops : s'.found.count ≡ s.most → s'.end ≡ s.next + 1
  pub goes_on : (s'.found.count ≡ s.most → ⊥) → s'.end ≡ s.end

-- the scan moves to the next place
pub record CanMove (subset : Subset) (s : Scan) : Type 0 where
  pub id_is : s.id ≡ get_or (members subset) s.next 0
  pub more : s.next < s.end
  pub within : s.end ≤ size subset

pub record Moves (subset : Subset) (s s' : Scan) : Type 0 where
  pub next_is : s'.next ≡ s.next + 1
  pub end_is : s'.end ≡ s.end
  pub most_is : s'.most ≡ s.most
  pub dead_is : s'.dead ≡ s.dead
  pub found_is : s'.found ≡ s.found
  pub id_is : s'.next < s'.end → s'.id ≡ get_or (members subset) s'.next 0

-- a row is visited
pub record CanStep (h : Header) (rows : ℕ) (subset : Subset) (s : Scan) (hit : Bool) (output : List ℕ) : Type 0 where
  pub lies : RowInStore h rows s.id
  pub few : s.dead < 65536
  pub can_move : CanMove subset s
  pub can_add : hit ≡ true → CanAdd output s.found s.id

pub record ScanSteps (h : Header) (rows : List ℕ) (subset : Subset) (s : Scan) (hit : Bool) (output : List ℕ) (s' : Scan) (output' : List ℕ) : Type 0 where
  pub next_is : s'.next ≡ s.next + 1
  pub most_is : s'.most ≡ s.most
  pub dead_is : s'.dead ≡ s.dead + dead_among h rows (s.id ∷ [])
  pub id_is : s'.next < s'.end → s'.id ≡ get_or (members subset) s'.next 0
  pub adds : hit ≡ true → Adds output s.found s.id s'.found output'
  pub stops : hit ≡ true → s'.found.count ≡ s.most → s'.end ≡ s.next + 1
  pub goes_on : hit ≡ true → (s'.found.count ≡ s.most → ⊥) → s'.end ≡ s.end
  pub skips : hit ≡ false → (s'.found ≡ s.found) × (output' ≡ output) × (s'.end ≡ s.end)

-- a scan that has ended
pub record Finished (h : Header) (rows : List ℕ) (subset : Subset) (test : ℕ → Bool) (s₀ : Scan) (output₀ : List ℕ) (s : Scan) (output : List ℕ) : Type 0 where
  pub next_is : s.next ≡ s₀.next + length (up_to s₀.most test (places subset s₀))
  pub grows : Builds output₀ output s.found (filter test (up_to s₀.most test (places subset s₀)))
  pub dead_is : s.dead ≡ dead_among h rows (up_to s₀.most test (places subset s₀))

-- ---- a query

-- a query that is not refused starts over its places
pub record ScanBegun (query : QueryKind) (h : Header) (rows : ℕ) (subset : Subset) (knows : Bool) (output : ℕ) (s : Scan) : Type 0 where
  pub accepts : (conditions : List Constraint) → knows ≡ all (known h.columns) conditions → refusal_of query h rows subset conditions output ≡ 0
  pub queryable : Queryable h rows subset
  pub can_start : (output₀ : List ℕ) → length output₀ ≡ output → CanStart h rows subset s output₀
  pub first_is : s.next ≡ first_place query
  pub visits_is : (test : ℕ → Bool) → up_to s.most test (places subset s) ≡ ids_visited query test subset
  pub in_room : room_required query subset ≤ output

-- the start of a query: over its places, or refused
abbrev pub ScanStarts : QueryKind → Header → ℕ → Subset → Bool → ℕ → Result Scan Refusal → Type 0
ScanStarts query h rows subset knows output (Ok s) = ScanBegun query h rows subset knows output s
ScanStarts query h rows subset knows output (Err r) =
    (conditions : List Constraint) → knows ≡ all (known h.columns) conditions → number r ≡ refusal_of query h rows subset conditions output

-- a query that is not refused ends: its ids are visited, those that match are kept and the dead ones counted
pub record ScanDone (query : QueryKind) (h : Header) (rows : List ℕ) (subset : Subset) (conditions : List Constraint) (output : List ℕ) (s : Scan) (output' : List ℕ) : Type 0 where
  pub accepts : refusal_of query h (length rows) subset conditions (length output) ≡ 0
  pub queryable : Queryable h (length rows) subset
  pub in_room : room_required query subset ≤ length output
  pub within : first_place query ≤ size subset
  pub counted : Counted h rows (first_place query) (ids_visited query (matches h rows conditions) subset) s
  pub grows : Builds output output' s.found (filter (matches h rows conditions) (ids_visited query (matches h rows conditions) subset))

-- the end of a query: as above, or refused with nothing written
abbrev pub ScanAnswered : QueryKind → Header → List ℕ → Subset → List Constraint → List ℕ → Result Scan Refusal → List ℕ → Type 0
ScanAnswered query h rows subset conditions output (Ok s) output' = ScanDone query h rows subset conditions output s output'
ScanAnswered query h rows subset conditions output (Err r) output' =
    (number r ≡ refusal_of query h (length rows) subset conditions (length output)) × (output' ≡ output)

-- writing the ids kept: what it requires, and what it does
pub record CanWrite (output : List ℕ) (g : RetainBuilder) : Type 0 where
  pub output₀ : List ℕ
  pub kept : List ℕ
  pub grows : Builds output₀ output g kept
  pub room : length kept ≤ length output₀

pub record Writes (output : List ℕ) (g : RetainBuilder) (count : ℕ) (output' : List ℕ) : Type 0 where
  pub writes : (output₀ kept : List ℕ) → Builds output₀ output g kept → Wrote output₀ kept count output'

-- the end of a refine by a list: "a range stays only if all of it is kept, else a list"
pub record RefineClosed (subset : Subset) (s : Scan) (output : List ℕ) (form : SubsetForm) (output' : List ℕ) : Type 0 where
  pub narrows : (test : ℕ → Bool) (output₀ : List ℕ) → well_formed subset ≡ true
      → Builds output₀ output s.found (filter test (members subset))
      → Answered (accepted (narrowed test subset)) output₀ (Ok form) output'

-- the place to continue from after a page
unfoldable pub next_at : Subset → ℕ → Option ℕ
next_at subset next = cond (ltb next (size subset)) (Some next) None

-- the end of a page
pub record PageClosed (subset : Subset) (s : Scan) (output : List ℕ) (page : Read) (output' : List ℕ) : Type 0 where
  pub pages : (output₀ kept : List ℕ) → Builds output₀ output s.found kept
      → (page ≡ record { written = length kept; dead = s.dead; next = next_at subset s.next }) × (output' ≡ splice output₀ 0 kept)

-- the end of a search for a match
pub record MatchClosed (s : Scan) (found : Bool) : Type 0 where
  pub found_is : found ≡ not (eqb s.found.count 0)
