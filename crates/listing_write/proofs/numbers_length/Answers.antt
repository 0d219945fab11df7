use Rattle.listing_write.proofs.Prelude.{arith, get_or, rules}
use Rattle.levels_text.specs.Laws.Decimals.{length_field}
use Rattle.listing_write.proofs.Steps.{counting_begin, counting_few, counting_again, counting_end}
use Rattle.listing_write.proofs.numbers_length.Goals as goal

pub loop-number-init : goal.loop-number-init
loop-number-init c = counting_begin _

pub overflow_add-total : goal.overflow_add-total
overflow_add-total c =
    let v = c.loop-number.invariant in
    omega (arith, counting_few v, v.inside, c.number_length-total.ensures, length_field (get_or c.args.numbers.now c.loop-number.number-index 0), c.requires)

pub loop-number-preserved : goal.loop-number-preserved
loop-number-preserved c = counting_again c.loop-number.invariant c.loop-number-test.true c.number_length-total.ensures

pub returns : goal.returns
returns c = counting_end c.loop-number.invariant (search rules)
