-- `crc32::four_bytes` meets its contract. Assumes nothing.
use Rattle.crc32.proofs.Prelude.{ap₂, ◌∙◌, bit_xor}
use Rattle.crc32.proofs.Slices.{four_entries}
use Rattle.crc32.proofs.four_bytes.Goals as goal

pub returns : goal.returns
returns c =
    ap₂ bit_xor
    (ap₂ bit_xor (ap₂ bit_xor c.entry-first.ensures c.entry-second.ensures) c.entry-third.ensures)
    c.entry-fourth.ensures
    ∙ four_entries c.args.table c.args.word c.ranges.word.fits
