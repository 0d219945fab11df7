use Rattle.levels_text.proofs.Prelude.{arith, rules, numbering_begin, numbering_next, numbering_again, numbering_end}
use Rattle.levels_text.proofs.write.put_numbers.Goals as goal

pub loop-number-init : goal.loop-number-init
loop-number-init c = numbering_begin _ _ _

pub put_number-end-requires : goal.put_number-end-requires
put_number-end-requires c = omega (arith, numbering_next c.loop-number.invariant (search rules), c.loop-number.invariant.same_length, c.requires)

pub loop-number-preserved : goal.loop-number-preserved
loop-number-preserved c = numbering_again c.loop-number.invariant (search rules) (search rules) c.put_number-end.ensures

pub returns : goal.returns
returns c = numbering_end c.loop-number.invariant (search rules)
