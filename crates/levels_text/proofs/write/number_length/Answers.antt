-- `levels_text::write::number_length` meets its contract. Assumes nothing.
use Rattle.levels_text.proofs.Prelude.{arith, rules, few_digits, field_length}
use Rattle.levels_text.proofs.write.number_length.Goals as goal

pub overflow_add-result : goal.overflow_add-result
overflow_add-result c = omega (arith, few_digits _ _ (search rules) c.decimal-count.ensures.len)

pub returns : goal.returns
returns c =
    let d = c.decimal-count.ensures in
    omega (arith, field_length (search rules) (rw c.from.ensures at d.len) (rw c.from.ensures at d.digits), d.in_bounds)
