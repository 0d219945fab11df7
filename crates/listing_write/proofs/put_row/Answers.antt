-- `listing_write::put_row` meets its contract. Assumes nothing.
use Rattle.listing_write.proofs.Prelude.{sym, ◌∙◌}
use Rattle.listing_write.proofs.Steps.{room_numbered, room_live, put_numbered_row, put_live_row, put_dead_row}
use Rattle.listing_write.proofs.put_row.Goals as goal

pub put_numbered-requires : goal.put_numbered-requires
put_numbered-requires c =
    room_numbered _ _ (sym c.is_live-live.ensures ∙ c.if-live.true) _ c.if-numbered.true c.requires

pub returns-then-numbered : goal.returns-then-numbered
returns-then-numbered c =
    put_numbered_row _ _ (sym c.is_live-live.ensures ∙ c.if-live.true) c.if-numbered.true c.put_numbered.ensures

pub put_line-requires : goal.put_line-requires
put_line-requires c =
    room_live c.args.number _ (sym c.is_live-live.ensures ∙ c.if-live.true) _ c.if-numbered.false c.requires

pub returns-then-live : goal.returns-then-live
returns-then-live c =
    put_live_row _ _ (sym c.is_live-live.ensures ∙ c.if-live.true) c.if-numbered.false c.put_line.ensures

pub returns : goal.returns
returns c = put_dead_row _ _ _ (sym c.is_live-live.ensures ∙ c.if-live.false)
