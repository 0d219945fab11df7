-- `levels_text::write::put_line` meets its contract. Assumes nothing.
use Rattle.levels_text.proofs.Prelude.{arith, length_line, appended_line}
use Rattle.levels_text.proofs.write.put_line.Goals as goal

pub put-lettered-requires : goal.put-lettered-requires
put-lettered-requires c = omega (arith, length_line c.args.letter c.args.numbers.now, c.requires)

pub put_numbers-numbered-requires : goal.put_numbers-numbered-requires
put_numbers-numbered-requires c = omega (arith, length_line c.args.letter c.args.numbers.now, c.requires, c.put-lettered.ensures.counted)

pub put-requires : goal.put-requires
put-requires c =
    omega (arith, c.put_numbers-numbered.ensures.counted, c.put-lettered.ensures.counted, length_line c.args.letter c.args.numbers.now, c.requires)

pub returns : goal.returns
returns c = appended_line _ c.put-lettered.ensures c.put_numbers-numbered.ensures c.put.ensures
