use Rattle.refresh.proofs.Prelude.{◌+◌, ◌-◌, ◌≤◌, arith, and_le_r, row_words}
use Rattle.refresh.proofs.StageSteps.{going_begin, going_length, going_end, row_below, going_row, used_few, going_on}
use Rattle.refresh.proofs.write_block.Goals.{In-loop-word}
use Rattle.refresh.proofs.write_block.Goals as goal

-- a turn begins
fits : (c : In-loop-word) → c.loop-word.used + row_words c.args.h ≤ 4294967295
fits c = used_few c.requires (c.loop-word.invariant c.requires) c.loop-word-test.true

pub loop-word-init : goal.loop-word-init
loop-word-init c = λ b. going_begin b

pub overflow_add-row : goal.overflow_add-row
overflow_add-row c = omega (arith, row_below c.requires (c.loop-word.invariant c.requires) c.loop-word-test.true)

pub overflow_sub-word : goal.overflow_sub-word
overflow_sub-word c = omega (arith, c.loop-word-test.true)

pub overflow_cast-used : goal.overflow_cast-used
overflow_cast-used c = omega (arith, fits (goal.at.overflow_cast-used c).In-loop-word)

pub write_row-requires : goal.write_row-requires
write_row-requires c = going_row c.requires (c.loop-word.invariant c.requires) c.loop-word-test.true

pub overflow_add-used : goal.overflow_add-used
overflow_add-used c = omega (arith, fits (goal.at.overflow_add-used c).In-loop-word)

pub overflow_add-used-in-loop-word : goal.overflow_add-used-in-loop-word
overflow_add-used-in-loop-word c = omega (arith, fits (goal.at.overflow_add-used-in-loop-word c).In-loop-word)

pub overflow_add-used-in-loop-word-2 : goal.overflow_add-used-in-loop-word-2
overflow_add-used-in-loop-word-2 c = omega (arith, fits (goal.at.overflow_add-used-in-loop-word-2 c).In-loop-word)

pub overflow_add-used-in-loop-word-3 : goal.overflow_add-used-in-loop-word-3
overflow_add-used-in-loop-word-3 c = omega (arith, fits (goal.at.overflow_add-used-in-loop-word-3 c).In-loop-word)

pub loop-word-smaller : goal.loop-word-smaller
loop-word-smaller c = let w = c.loop-word.word in omega (arith, and_le_r w (w - 1), c.loop-word-test.true)

pub loop-word-preserved : goal.loop-word-preserved
loop-word-preserved c = λ b. going_on b (c.loop-word.invariant b) c.loop-word-test.true c.write_row.ensures

pub shape_of-pending : goal.shape_of-pending
shape_of-pending c = going_length c.requires (c.loop-word.invariant c.requires)

pub returns : goal.returns
returns c = record { on = λ b. going_end b (c.loop-word.invariant b) (omega (arith, c.loop-word-test.false)) }
