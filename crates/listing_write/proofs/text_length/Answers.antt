-- `listing_write::text_length` meets its contract. Assumes nothing.
use Rattle.listing_write.proofs.Prelude.{arith}
use Rattle.listing_write.proofs.Steps.{text_bytes, text_few}
use Rattle.listing_write.proofs.text_length.Goals as goal

pub overflow_add-result : goal.overflow_add-result
overflow_add-result c = omega (arith, text_few _ _ _ c.requires c.head_length-head.ensures c.rows_length.ensures)

pub returns : goal.returns
returns c = text_bytes _ _ _ c.head_length-head.ensures c.rows_length.ensures
