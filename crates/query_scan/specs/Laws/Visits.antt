-- "Whatever visits ids under the page, the refinements and the match test .. promises this too" (document 02, change 1): the loops
-- under the four queries visit exactly these ids, and the dead count that each returns is of exactly these. `query_scan::scan_one`
-- is the loop of refine by one, `query::loops::scan` that of the other three, which `scan_refine`, `scan_match` and `scan_page` of that
-- module begin. `ScanAnswered` is what these three and `scan_one` ensure. Assumes nothing.
use Rattle.std.specs.Prelude.{ℕ, List, [], ◌∷◌, take, drop, Ok}
use Rattle.offsets.specs.Subsets.{Subset, members}
use Rattle.constraints.specs.declared.Constraint.{Constraint}
use Rattle.table.specs.declared.Header.{Header}
use Rattle.query_spec.specs.Queries.{matches, visited}
use Rattle.query_scan.specs.declared.Scan.{Scan}
use Rattle.query_scan.specs.Visits.{Refine, Match, Page, up_to_first, ids_visited, Counted}
use Rattle.query_scan.specs.inner.Scanning.{first_place, ScanAnswered}

-- for any stores and any subset, if the query is not refused
pub record LoopsCount (h : Header) (rows : List ℕ) (subset : Subset) (output : List ℕ) (s : Scan) (output' : List ℕ) : Type 0 where
  pub refine_one : (c : Constraint) → ScanAnswered Refine h rows subset (c ∷ []) output (Ok s) output' → Counted h rows 0 (members subset) s
  pub refine_list : (conditions : List Constraint) → ScanAnswered Refine h rows subset conditions output (Ok s) output' → Counted h rows 0 (members subset) s
  pub any_match : (conditions : List Constraint) → ScanAnswered Match h rows subset conditions output (Ok s) output'
      → Counted h rows 0 (up_to_first (matches h rows conditions) (members subset)) s
  pub page : (start n : ℕ) (conditions : List Constraint) → ScanAnswered (Page start n) h rows subset conditions output (Ok s) output'
      → Counted h rows start (take n (drop start (members subset))) s

pub loops_count : (h : Header) (rows : List ℕ) (subset : Subset) (output : List ℕ) (s : Scan) (output' : List ℕ)
    → LoopsCount h rows subset output s output'
unfolding ids_visited first_place visited
loops_count h rows subset output s output' =
    record {
      refine_one = λ c a. a.counted;
      refine_list = λ conditions a. a.counted;
      any_match = λ conditions a. a.counted;
      page = λ start n conditions a. a.counted;
    }
