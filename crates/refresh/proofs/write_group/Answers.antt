use Rattle.refresh.proofs.Prelude.{◌+◌, ◌-◌, ◌*◌, ◌<◌, arith, rules, and_le_r, count_trailing_zeros}
use Rattle.refresh.proofs.StageSteps.{grouped_begin, grouped_length, grouped_end, at_below, grouped_block, grouped_on}
use Rattle.refresh.proofs.write_group.Goals.{In-loop-flags}
use Rattle.refresh.proofs.write_group.Goals as goal

-- the next word that is flagged
inside : (c : In-loop-flags) → c.args.group * 64 + count_trailing_zeros 64 c.loop-flags.flags < 1024
inside c = let g = c.requires in at_below g (c.loop-flags.invariant g) c.loop-flags-test.true

pub overflow_add-flags : goal.overflow_add-flags
overflow_add-flags c = omega (arith, c.requires.below)

pub offset_bounds-words-group : goal.offset_bounds-words-group
offset_bounds-words-group c = omega (arith, c.requires.below)

pub bounds-words-group : goal.bounds-words-group
bounds-words-group c = let g = c.requires in omega (arith, g.below, g.bitmap.long)

pub loop-flags-init : goal.loop-flags-init
loop-flags-init c = λ g. grouped_begin g (search rules)

pub overflow_mul-at : goal.overflow_mul-at
overflow_mul-at c = omega (arith, c.requires.below)

pub overflow_add-at : goal.overflow_add-at
overflow_add-at c = omega (arith, inside c)

pub overflow_sub-flags : goal.overflow_sub-flags
overflow_sub-flags c = omega (arith, c.loop-flags-test.true)

pub overflow_cast-word : goal.overflow_cast-word
overflow_cast-word c = omega (arith, inside c)

pub offset_bounds-words-at : goal.offset_bounds-words-at
offset_bounds-words-at c = omega (arith, inside c)

pub bounds-words-at : goal.bounds-words-at
bounds-words-at c = omega (arith, inside (goal.at.bounds-words-at c).In-loop-flags, c.requires.bitmap.long)

pub overflow_mul-at-in-loop-flags : goal.overflow_mul-at-in-loop-flags
overflow_mul-at-in-loop-flags c = omega (arith, inside (goal.at.overflow_mul-at-in-loop-flags c).In-loop-flags)

pub write_block-used-requires : goal.write_block-used-requires
write_block-used-requires c = let g = c.requires in grouped_block g (c.loop-flags.invariant g) c.loop-flags-test.true

pub loop-flags-smaller : goal.loop-flags-smaller
loop-flags-smaller c = let w = c.loop-flags.flags in omega (arith, and_le_r w (w - 1), c.loop-flags-test.true)

pub loop-flags-preserved : goal.loop-flags-preserved
loop-flags-preserved c = λ g. grouped_on g (c.loop-flags.invariant g) c.loop-flags-test.true c.write_block-used.ensures

pub shape_of-pending : goal.shape_of-pending
shape_of-pending c = let g = c.requires in grouped_length g (c.loop-flags.invariant g)

pub returns : goal.returns
returns c = record { on = λ g. grouped_end g (c.loop-flags.invariant g) (omega (arith, c.loop-flags-test.false)) }
