-- `levels_text::write::put_numbered` meets its contract. Assumes nothing.
use Rattle.levels_text.proofs.Prelude.{arith, length_numbered, appended_numbered}
use Rattle.levels_text.proofs.write.put_numbered.Goals as goal

pub put-lettered-requires : goal.put-lettered-requires
put-lettered-requires c =
    omega (arith, length_numbered c.args.letter c.args.number c.args.numbers.now, c.requires)

pub put_number-numbered-requires : goal.put_number-numbered-requires
put_number-numbered-requires c =
    omega (arith, length_numbered c.args.letter c.args.number c.args.numbers.now, c.requires, c.put-lettered.ensures.counted)

pub put_numbers-filled-requires : goal.put_numbers-filled-requires
put_numbers-filled-requires c =
    omega (arith, length_numbered c.args.letter c.args.number c.args.numbers.now, c.requires, c.put-lettered.ensures.counted, c.put_number-numbered.ensures.counted)

pub put-requires : goal.put-requires
put-requires c =
    omega (arith, length_numbered c.args.letter c.args.number c.args.numbers.now, c.requires, c.put-lettered.ensures.counted, c.put_number-numbered.ensures.counted, c.put_numbers-filled.ensures.counted)

pub returns : goal.returns
returns c = appended_numbered _ _ c.put-lettered.ensures c.put_number-numbered.ensures c.put_numbers-filled.ensures c.put.ensures
