-- `listing_write::head_length` meets its contract. Assumes nothing.
use Rattle.listing_write.proofs.Prelude.{arith}
use Rattle.listing_write.specs.Laws.Lengths.{length_head}
use Rattle.listing_write.proofs.Steps.{head_numbered, head_plain}
use Rattle.listing_write.proofs.head_length.Goals as goal

pub overflow_add-result : goal.overflow_add-result
overflow_add-result c =
    let args = c.args in
    omega (arith, head_numbered args.h c.if-numbered.true c.numbers_length.ensures, length_head args.numbered args.h)

pub returns-then-numbered : goal.returns-then-numbered
returns-then-numbered c = head_numbered _ c.if-numbered.true c.numbers_length.ensures

pub overflow_add-result-2 : goal.overflow_add-result-2
overflow_add-result-2 c =
    let args = c.args in
    omega (arith, head_plain args.h c.if-numbered.false c.numbers_length-2.ensures, length_head args.numbered args.h)

pub returns : goal.returns
returns c = head_plain _ c.if-numbered.false c.numbers_length-2.ensures
