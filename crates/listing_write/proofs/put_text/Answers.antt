-- `listing_write::put_text` meets its contract. Assumes nothing.
use Rattle.listing_write.proofs.Steps.{head_room, rows_room, text_put}
use Rattle.listing_write.proofs.put_text.Goals as goal

pub put_head-used-requires : goal.put_head-used-requires
put_head-used-requires c = head_room _ _ _ c.requires.rows_in_bounds

pub put_rows-requires : goal.put_rows-requires
put_rows-requires c =
    let pre = c.requires in
    record { columns_bound = pre.stored.narrow; columns_in_bounds = pre.stored.stored; rows_in_bounds = rows_room _ _ _ c.put_head-used.ensures c.put_head-used.auto.text pre.rows_in_bounds }

pub returns : goal.returns
returns c = text_put _ _ _ c.put_head-used.ensures c.put_rows.ensures
