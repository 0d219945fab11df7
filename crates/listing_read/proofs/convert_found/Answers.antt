-- `listing_read::convert_found` meets its contract. Assumes nothing.
use Rattle.listing_read.proofs.Answers.{fields_fit, converted_missing, converted_short, converted_room, converted_done}
use borrow.Author.Rules.{rules}
use Rattle.listing_read.proofs.convert_found.Goals as goal

pub returns-then-lacks_row : goal.returns-then-lacks_row
returns-then-lacks_row c = converted_missing _ _ _ c.requires _ c.lacks_row.ensures c.if-lacks_row.true

pub lacks_room-requires : goal.lacks_room-requires
lacks_room-requires c = record { rows_bound = search rules; rows_bound_2 = fields_fit _ _ _ c.requires c.args.output.now c.lacks_row.ensures c.if-lacks_row.false }

pub returns-then-lacks_room : goal.returns-then-lacks_room
returns-then-lacks_room c = converted_short _ _ _ c.requires _ c.lacks_row.ensures c.if-lacks_row.false c.lacks_room.ensures c.if-lacks_room.true

pub write_converted-requires : goal.write_converted-requires
write_converted-requires c =
    record { listed = c.requires; text_in_bounds = converted_room _ _ _ c.requires c.args.output.now c.lacks_row.ensures c.if-lacks_row.false c.lacks_room.ensures c.if-lacks_room.false }

pub returns : goal.returns
returns c =
    converted_done _ _ _ c.requires _ c.lacks_row.ensures c.if-lacks_row.false c.lacks_room.ensures c.if-lacks_room.false c.write_converted.ensures
