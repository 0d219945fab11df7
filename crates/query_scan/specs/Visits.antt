-- Which ids a query visits, and how many of them it counts as dead (document 02, change 1): "how many of the visited ids were dead,
-- apart from live rows that failed a condition. Whatever visits ids under the page, the refinements and the match test, however it
-- is done now, promises this too". Assumes nothing.
use Rattle.std.specs.Prelude.{ℕ, ◌+◌, ◌≡◌, Bool, cond, List, [], ◌∷◌, length}
use Rattle.offsets.specs.Subsets.{Subset, members}
use Rattle.table.specs.declared.Header.{Header}
use Rattle.query_spec.specs.Queries.{dead_among, visited}
use Rattle.query_scan.specs.declared.Scan.{Scan}

-- A query over a subset: a refinement, any match, or a page, which has its start place and the number of ids that it visits.
pub data QueryKind : Type 0 where
  Refine : QueryKind
  Match : QueryKind
  Page : ℕ → ℕ → QueryKind

-- the ids up to and including the first that passes the test; all if none does
unfoldable pub up_to_first : (ℕ → Bool) → List ℕ → List ℕ
up_to_first test [] = []
up_to_first test (id ∷ ids) = id ∷ cond (test id) [] (up_to_first test ids)

-- a refinement visits all members, any match the members up to and including the first that matches, a page n
-- members, or as many as remain, from its start place on
unfoldable pub ids_visited : QueryKind → (ℕ → Bool) → Subset → List ℕ
ids_visited Refine test subset = members subset
ids_visited Match test subset = up_to_first test (members subset)
ids_visited (Page start n) test subset = visited subset start n

-- a loop that started at a place has visited these ids, one at each place, and has counted those whose rows are dead
pub record Counted (h : Header) (rows : List ℕ) (from : ℕ) (ids : List ℕ) (s : Scan) : Type 0 where
  pub next : s.next ≡ from + length ids
  pub dead : s.dead ≡ dead_among h rows ids
