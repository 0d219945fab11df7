-- `key_index::nearest` meets its contract. The loop's invariant: of the slots looked at, those before the nearest fail the test.
-- Assumes nothing.
use Rattle.key_index.proofs.Prelude.{ℕ, ◌+◌, ◌≤◌, ◌<◌, false, get_or}
use Rattle.key_index.proofs.nearest.Given as goal

abbrev pub invariant-loop-i : goal.invariant-loop-i
invariant-loop-i g l =
    (l.near ≤ g.row.END) × ((k : ℕ) → l.i ≤ k → k < l.near → goal.F-post g l.test (get_or l.store (l.start + k) 0) false)
