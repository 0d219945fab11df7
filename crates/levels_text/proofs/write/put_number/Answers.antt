-- `levels_text::write::put_number` meets its contract. Assumes nothing.
use Rattle.levels_text.proofs.Prelude.{arith, rules, field_length, field_some, appended_number}
use Rattle.levels_text.proofs.write.put_number.Goals as goal

pub put-end-requires : goal.put-end-requires
put-end-requires c = omega (arith, c.requires, field_some c.args.number)

pub put_bytes-requires : goal.put_bytes-requires
put_bytes-requires c =
    let d = c.decimal-count.ensures in
    omega (arith, field_length (search rules) (rw c.from.ensures at d.len) (rw c.from.ensures at d.digits), c.put-end.ensures.counted)

pub returns : goal.returns
returns c =
    let d = c.decimal-count.ensures in
    appended_number (search rules) (rw c.from.ensures at d.len) (rw c.from.ensures at d.digits) c.put-end.ensures c.put_bytes.ensures
