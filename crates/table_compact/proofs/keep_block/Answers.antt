use Rattle.table_compact.proofs.Prelude.{◌-◌, arith, and_le_r}
use Rattle.table_compact.proofs.CompactionSteps.{going_begin, going_lengths, going_end, row_in_block, going_keep, going_on}
use Rattle.table_compact.proofs.keep_block.Goals as goal

pub loop-word-init : goal.loop-word-init
loop-word-init c = λ b. going_begin b

pub overflow_add-row : goal.overflow_add-row
overflow_add-row c =
    let b = c.requires in
    omega (arith, row_in_block b (c.loop-word.invariant b) c.loop-word-test.true, b.movable.within.count, b.movable.within.most)

pub overflow_sub-word : goal.overflow_sub-word
overflow_sub-word c = omega (arith, c.loop-word-test.true)

pub keep_row-entries-requires : goal.keep_row-entries-requires
keep_row-entries-requires c = let b = c.requires in going_keep b (c.loop-word.invariant b) c.loop-word-test.true

pub overflow_add-kept : goal.overflow_add-kept
overflow_add-kept c =
    let b = c.requires in
    omega (arith, (going_keep b (c.loop-word.invariant b) c.loop-word-test.true).moves_down, row_in_block b (c.loop-word.invariant b) c.loop-word-test.true, b.movable.within.count, b.movable.within.most)

pub loop-word-smaller : goal.loop-word-smaller
loop-word-smaller c = let w = c.loop-word.word in omega (arith, and_le_r w (w - 1), c.loop-word-test.true)

pub loop-word-preserved : goal.loop-word-preserved
loop-word-preserved c = λ b. going_on b (c.loop-word.invariant b) c.loop-word-test.true c.keep_row-entries.ensures (omega arith) (omega arith)

pub shape_of-rows : goal.shape_of-rows
shape_of-rows c = let b = c.requires in (going_lengths b (c.loop-word.invariant b)).0

pub shape_of-sorts : goal.shape_of-sorts
shape_of-sorts c = let b = c.requires in (going_lengths b (c.loop-word.invariant b)).1

pub returns : goal.returns
returns c = record { on = λ b. going_end b (c.loop-word.invariant b) (omega (arith, c.loop-word-test.false)) }
