-- `offsets_intersect::check_intersect` meets its contract. Assumes nothing.
use Rattle.offsets_intersect.proofs.Prelude.{sym, ◌∙◌, refusal_first, refusal_second, refusal_room, refusal_none}
use Rattle.offsets_intersect.proofs.check_intersect.Goals as goal

pub returns-then-not-is_well_formed : goal.returns-then-not-is_well_formed
returns-then-not-is_well_formed c = refusal_first _ _ _ (sym c.is_well_formed.ensures ∙ c.if-not-is_well_formed.true)

pub returns-then-not-is_well_formed-2 : goal.returns-then-not-is_well_formed-2
returns-then-not-is_well_formed-2 c = refusal_second _ _ _ (sym c.is_well_formed.ensures ∙ c.if-not-is_well_formed.false) (sym c.is_well_formed-2.ensures ∙ c.if-not-is_well_formed-2.true)

pub returns-then-output-room : goal.returns-then-output-room
returns-then-output-room c = refusal_room _ _ _ (sym c.is_well_formed.ensures ∙ c.if-not-is_well_formed.false) (sym c.is_well_formed-2.ensures ∙ c.if-not-is_well_formed-2.false) (rw c.room_needed-room.ensures at c.if-output-room.true)

pub returns : goal.returns
returns c = refusal_none _ _ _ (sym c.is_well_formed.ensures ∙ c.if-not-is_well_formed.false) (sym c.is_well_formed-2.ensures ∙ c.if-not-is_well_formed-2.false) (rw c.room_needed-room.ensures at c.if-output-room.false)
