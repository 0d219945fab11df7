-- `image_write::parts::write_stores` meets its contract. Assumes nothing.
use Rattle.image_write.proofs.Prelude.{stores_written}
use Rattle.image_write.proofs.parts.write_stores.Goals as goal

pub returns : goal.returns
returns c =
    let a = c.args in
    stores_written a.h a.rows.now a.sorts.now a.pending.now c.requires.0 a.output.now a.at c.requires.1
    c.write_words.ensures c.write_words-2.ensures c.write_words-3.ensures
