-- `offsets_intersect::room_needed` meets its contract. Assumes nothing.
use Rattle.offsets.specs.Answers.{room_needed}
use Rattle.offsets.specs.Laws.Subsets.{range_is, list_is}
use Rattle.offsets_intersect.proofs.room_needed.Goals as goal

pub returns-in-Range-second : goal.returns-in-Range-second
unfolding room_needed
returns-in-Range-second c = rw (c.in-Range.is, range_is, c.in-Range-second.is, range_is)

pub returns-in-List-second : goal.returns-in-List-second
unfolding room_needed
returns-in-List-second c = rw (c.in-Range.is, range_is, c.in-List-second.is, list_is)

pub returns-in-List : goal.returns-in-List
unfolding room_needed
returns-in-List c = rw (c.in-List.is, list_is)
