-- `crc32::entry` meets its contract. Assumes nothing.
use Rattle.crc32.proofs.Prelude.{◌%◌, arith}
use Rattle.crc32.proofs.entry.Goals as goal

pub returns : goal.returns
returns c = c.requires.0.entry c.args.table (c.args.number % 256) c.requires.1 (omega arith)
