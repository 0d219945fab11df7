-- `image_write::parts::text_word` meets its contract. Assumes nothing.
use Rattle.image_write.proofs.Prelude.{arith, get_d_packed}
use Rattle.image_write.proofs.parts.text_word.Goals as goal

pub returns : goal.returns
returns c =
    let a = c.args in
    omega (arith, get_d_packed a.text.now a.word, c.byte_at.ensures, c.byte_at-2.ensures, c.byte_at-3.ensures, c.byte_at-4.ensures, c.from_le_bytes.ensures)
