use Rattle.listing_read.proofs.Prelude.{arith, length_field}
use Rattle.listing_read.proofs.Lengths.{summing_begin, summing_few, summing_more, summing_end}
use Rattle.listing_read.proofs.numbers_length.Goals as goal

pub loop-number-init : goal.loop-number-init
loop-number-init c = summing_begin _

pub overflow_add-total : goal.overflow_add-total
overflow_add-total c = omega (arith, summing_few c.loop-number.invariant, c.loop-number.invariant.inside, c.number_length-total.ensures, length_field c.loop-number.number, c.requires)

pub loop-number-preserved : goal.loop-number-preserved
loop-number-preserved c = summing_more c.loop-number.invariant c.loop-number-test.true c.number_length-total.ensures

pub returns : goal.returns
returns c = summing_end c.loop-number.invariant c.loop-number-test.false
