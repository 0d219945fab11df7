use Rattle.offsets.proofs.Prelude.{◌+◌, ◌-◌, ◌*◌, ◌/◌, ◌<◌, length, arith}
use Rattle.offsets.proofs.SearchSteps.{bracket, bracket_up, bracket_down, bracket_end}
use Rattle.offsets.proofs.search.binary_search_cells.Goals.{In-loop-low}
use Rattle.offsets.proofs.search.binary_search_cells.Goals as goal

-- the number in the middle is in the store
middle : (c : In-loop-low) → c.args.width * (c.loop-low.low + (c.loop-low.high - c.loop-low.low) / 2) < length c.args.cells.now
middle c =
    c.requires.0.inside (c.loop-low.low + (c.loop-low.high - c.loop-low.low) / 2) (omega (arith, c.loop-low-test.true, c.loop-low.invariant.upto))

pub loop-low-init : goal.loop-low-init
loop-low-init c = bracket _ _ _ _ _ c.requires.1

pub overflow_mul-width : goal.overflow_mul-width
overflow_mul-width c = omega (arith, middle c)

pub offset_bounds-cells-width : goal.offset_bounds-cells-width
offset_bounds-cells-width c = omega (arith, middle c)

pub bounds-cells-width : goal.bounds-cells-width
bounds-cells-width c = middle (goal.at.bounds-cells-width c).In-loop-low

pub loop-low-preserved-then-cells-width : goal.loop-low-preserved-then-cells-width
loop-low-preserved-then-cells-width c = bracket_up _ _ _ _ _ _ _ c.loop-low.invariant _ (omega arith) (omega arith) c.if-cells-width.true

pub loop-low-preserved : goal.loop-low-preserved
loop-low-preserved c = bracket_down _ _ _ _ _ _ _ c.loop-low.invariant _ (omega arith) (omega arith) c.if-cells-width.false

pub returns : goal.returns
returns c = bracket_end _ _ _ _ _ _ _ c.loop-low.invariant c.loop-low-test.false
