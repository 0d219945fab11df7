-- `levels_text::write::write_line` meets its contract. Assumes nothing.
use Rattle.levels_text.proofs.Prelude.{line_wrote, arith, rules, length_written}
use Rattle.levels_text.proofs.write.write_line.Goals as goal

pub put_line-requires : goal.put_line-requires
put_line-requires c = omega (arith, length_written c.args.letter c.args.numbers.now, c.requires)

pub returns : goal.returns
returns c = line_wrote _ _ (search rules) c.put_line.ensures
