-- `image_write::parts::write_checksum` meets its contract. Assumes nothing.
use Rattle.image_write.proofs.Prelude.{sym, ap, arith, set, length-take-le}
use Rattle.image_write.proofs.parts.write_checksum.Goals as goal

pub slice_bounds-crc_words-end-2 : goal.slice_bounds-crc_words-end-2
slice_bounds-crc_words-end-2 c = sym (length-take-le _ _ (omega arith))

pub returns : goal.returns
returns c = let a = c.args in ap (set a.output.now a.count) c.crc_words-sum.ensures
