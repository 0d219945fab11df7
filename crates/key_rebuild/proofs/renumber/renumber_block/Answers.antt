use Rattle.key_rebuild.proofs.Prelude.{◌+◌, ◌-◌, ◌<◌, arith, and_le_r, count_trailing_zeros}
use Rattle.key_rebuild.proofs.RenumberSteps.{left_begin, left_end, left_in, left_step}
use Rattle.key_rebuild.proofs.renumber.renumber_block.Goals.{In-loop-word}
use Rattle.key_rebuild.proofs.renumber.renumber_block.Goals as goal

-- the slot of the lowest set bit
inside : (c : In-loop-word) → let a = c.args in a.from + count_trailing_zeros 64 c.loop-word.word < a.from + a.count
inside c = left_in _ _ _ _ _ _ c.requires.1 _ _ c.loop-word.invariant c.loop-word-test.true

pub taken_bits-word-requires : goal.taken_bits-word-requires
taken_bits-word-requires c = let p = c.requires.1 in record { few = p.few; apart = omega arith; inside = omega (arith, p.inside) }

pub loop-word-init : goal.loop-word-init
loop-word-init c = left_begin _ _ _ _ _ _ _ c.taken_bits-word.ensures

pub overflow_add-at : goal.overflow_add-at
overflow_add-at c = omega (arith, inside c, c.requires.1.most)

pub overflow_cast-at : goal.overflow_cast-at
overflow_cast-at c = omega (arith, inside c, c.requires.1.most)

pub overflow_sub-word : goal.overflow_sub-word
overflow_sub-word c = omega (arith, c.loop-word-test.true)

pub offset_bounds-store-at : goal.offset_bounds-store-at
offset_bounds-store-at c = omega (arith, inside c, c.requires.1.most)

pub bounds-store-at : goal.bounds-store-at
bounds-store-at c = omega (arith, inside (goal.at.bounds-store-at c).In-loop-word, c.requires.1.inside, c.loop-word.invariant.same)

pub renumber_word-requires : goal.renumber_word-requires
renumber_word-requires c = c.requires.0

pub offset_bounds-store-at-in-loop-word : goal.offset_bounds-store-at-in-loop-word
offset_bounds-store-at-in-loop-word c = omega (arith, inside (goal.at.offset_bounds-store-at-in-loop-word c).In-loop-word, c.requires.1.most)

pub bounds-store-at-in-loop-word : goal.bounds-store-at-in-loop-word
bounds-store-at-in-loop-word c = omega (arith, inside (goal.at.bounds-store-at-in-loop-word c).In-loop-word, c.requires.1.inside, c.loop-word.invariant.same)

pub loop-word-smaller : goal.loop-word-smaller
loop-word-smaller c = let w = c.loop-word.word in omega (arith, and_le_r w (w - 1), c.loop-word-test.true)

pub loop-word-preserved : goal.loop-word-preserved
loop-word-preserved c = left_step _ _ _ _ _ _ c.requires.1 _ _ c.loop-word.invariant c.loop-word-test.true _ c.renumber_word.ensures

pub shape_of-store : goal.shape_of-store
shape_of-store c = c.loop-word.invariant.same

pub returns : goal.returns
returns c = left_end _ _ _ _ _ _ c.requires.1 _ _ c.loop-word.invariant (omega (arith, c.loop-word-test.false))
