-- `crc32::after_two` meets its contract. Assumes nothing.
use Rattle.crc32.proofs.Prelude.{sym, ap₂, ◌∙◌, bit_xor}
use Rattle.crc32.proofs.Slices.{two_words}
use Rattle.crc32.proofs.after_two.Goals as goal

pub returns : goal.returns
returns c =
    ap₂ bit_xor c.four_bytes.ensures c.four_bytes-2.ensures
    ∙ sym (two_words c.args.register c.args.first c.args.second c.ranges.first.fits c.ranges.second.fits)
