use Rattle.table_compact.proofs.Prelude.{arith}
use Rattle.table_compact.proofs.CompactionSteps.{iteration_begin, words_in, spaced, the_block, iteration_on, close_end}
use Rattle.table_compact.proofs.close_up.Goals as goal

pub loop-next-init : goal.loop-next-init
loop-next-init c = iteration_begin _ _ _ _ _

pub overflow_sub-h : goal.overflow_sub-h
overflow_sub-h c = omega (arith, c.loop-next-test.true)

pub overflow_add-next : goal.overflow_add-next
overflow_add-next c = omega (arith, c.block-count.ensures, c.loop-next-test.true)

pub bits_of_different_cells-word-requires : goal.bits_of_different_cells-word-requires
bits_of_different_cells-word-requires c = rw c.row_start-from.ensures (spaced c.requires c.loop-next.invariant c.loop-next-test.true _ c.block-count.ensures)

pub bounds-live-at : goal.bounds-live-at
bounds-live-at c = (words_in c.requires c.loop-next.invariant c.loop-next-test.true _ c.block-count.ensures).0

pub bounds-base-at : goal.bounds-base-at
bounds-base-at c = (words_in c.requires c.loop-next.invariant c.loop-next-test.true _ c.block-count.ensures).1

pub keep_block-kept-requires : goal.keep_block-kept-requires
keep_block-kept-requires c =
    the_block c.requires c.loop-next.invariant c.loop-next-test.true _ c.block-count.ensures _ (rw c.row_start-from.ensures at c.bits_of_different_cells-word.ensures)

pub loop-next-smaller : goal.loop-next-smaller
loop-next-smaller c = omega (arith, c.block-count.ensures, c.loop-next-test.true)

pub loop-next-preserved : goal.loop-next-preserved
loop-next-preserved c =
    iteration_on c.requires c.loop-next.invariant c.loop-next-test.true _ c.block-count.ensures _ (rw c.row_start-from.ensures at c.bits_of_different_cells-word.ensures) c.keep_block-kept.ensures

pub shape_of-rows : goal.shape_of-rows
shape_of-rows c = c.loop-next.invariant.closing.rows_same

pub shape_of-sorts : goal.shape_of-sorts
shape_of-sorts c = c.loop-next.invariant.closing.sorts_same

pub shape_of-live : goal.shape_of-live
shape_of-live c = c.loop-next.invariant.live_same

pub shape_of-base : goal.shape_of-base
shape_of-base c = c.loop-next.invariant.base_same

pub returns : goal.returns
returns c = close_end c.requires c.loop-next.invariant (omega (arith, c.loop-next-test.false))
