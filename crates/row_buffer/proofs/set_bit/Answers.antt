-- `row_buffer::set_bit` meets its contract. Assumes nothing.
use Rattle.row_buffer.proofs.Laws.{marked}
use Rattle.row_buffer.proofs.set_bit.Goals as goal

pub returns : goal.returns
returns c = marked c.args.word c.args.bit c.requires.0 c.requires.1
