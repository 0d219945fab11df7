-- `offsets::search::binary_search_cells` meets its contract. Assumes nothing.
use Rattle.offsets.proofs.Prelude.{◌-◌}
use Rattle.offsets.specs.inner.Search.{Bracketed}
use Rattle.offsets.proofs.search.binary_search_cells.Given as goal

abbrev pub invariant-loop-low : goal.invariant-loop-low
invariant-loop-low l = Bracketed l.cells l.width l.start l.end l.target l.low l.high

abbrev pub decreases-loop-low : goal.decreases-loop-low
decreases-loop-low l = l.high - l.low
