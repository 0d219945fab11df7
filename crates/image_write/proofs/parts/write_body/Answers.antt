-- `image_write::parts::write_body` meets its contract. Assumes nothing.
use Rattle.image_write.proofs.Prelude.{body_written}
use Rattle.image_write.proofs.parts.write_body.Goals as goal

pub returns : goal.returns
returns c =
    let a = c.args in
    body_written a.h a.rows.now a.sorts.now a.pending.now c.requires.0 a.text.now a.output.now c.packed_length-words.result
    c.packed_length-words.ensures c.requires.2 c.write_head.ensures c.write_text.ensures c.write_stores.ensures
