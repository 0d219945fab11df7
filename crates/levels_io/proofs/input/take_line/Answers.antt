-- `levels_io::input::take_line` meets its contract. Assumes nothing.
use Rattle.levels_io.proofs.Prelude.{line_taken, rules}
use Rattle.levels_io.proofs.input.take_line.Goals as goal

pub returns : goal.returns
returns c = line_taken _ _ c.requires.input_in c.requires.length_len_bound (search rules) c.scan_chunk-found.ensures
