use Rattle.bitmap.proofs.Prelude.{arith}
use Rattle.bitmap.proofs.MarkSteps.{marked_begin, word_below, place_in, marked_other, marked_same, marked_end}
use Rattle.bitmap.proofs.word.bits_of_different_cells.Goals as goal
use Rattle.bitmap.proofs.word.bits_of_different_cells.Goals.{then-cell-than, else-cell-than}

pub loop-bit-init : goal.loop-bit-init
loop-bit-init c = marked_begin _ _ _ _ _

pub offset_bounds-cells-at : goal.offset_bounds-cells-at
offset_bounds-cells-at c = omega (arith, place_in _ _ _ _ _ c.requires _ _ _ c.loop-bit.invariant c.loop-bit-test.true)

pub bounds-cells-at : goal.bounds-cells-at
bounds-cells-at c = (place_in _ _ _ _ _ c.requires _ _ _ c.loop-bit.invariant c.loop-bit-test.true).0

pub overflow_add-at : goal.overflow_add-at
overflow_add-at c = omega (arith, (place_in _ _ _ _ _ c.requires _ _ _ c.loop-bit.invariant c.loop-bit-test.true).1)

pub set_bit-word-requires : goal.set_bit-word-requires
set_bit-word-requires c = (omega (arith, c.requires.few, c.loop-bit-test.true), word_below _ _ _ _ _ c.requires _ _ _ c.loop-bit.invariant)

pub loop-bit-preserved : goal.loop-bit-preserved
loop-bit-preserved c =
    elim c.if-cell-than.branch [
      | then-cell-than w ↦ rw w.word-is (marked_other _ _ _ _ _ c.requires _ _ _ c.loop-bit.invariant c.loop-bit-test.true w.if-cell-than.true _ w.set_bit-word.ensures)
      | else-cell-than w ↦ rw w.word-is (marked_same _ _ _ _ _ c.requires _ _ _ c.loop-bit.invariant c.loop-bit-test.true w.if-cell-than.false)
    ]

pub returns : goal.returns
returns c = marked_end _ _ _ _ _ c.requires _ _ _ c.loop-bit.invariant c.loop-bit-test.false
