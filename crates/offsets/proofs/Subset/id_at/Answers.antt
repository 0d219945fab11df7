-- `offsets::Subset::id_at` meets its contract. Assumes nothing.
use Rattle.offsets.proofs.Prelude.{sym}
use Rattle.std.proofs.Common.{rules}
use Rattle.offsets.specs.Laws.Forms.{size_range, size_list, get_d_range, members_list}
use Rattle.offsets.specs.Laws.Subsets.{range_is, list_is}
use Rattle.offsets.proofs.Subset.id_at.Goals as goal

pub overflow_add-result : goal.overflow_add-result
overflow_add-result c = let inside = rw (c.in-Range.is, range_is, size_range c.in-Range.start _) at c.requires in search rules

pub returns-in-Range : goal.returns-in-Range
returns-in-Range c = rw (c.in-Range.is, range_is) (sym (get_d_range _ _ _ 0 (rw (c.in-Range.is, range_is, size_range c.in-Range.start _) at c.requires)))

pub bounds-ids-place : goal.bounds-ids-place
bounds-ids-place c = rw (c.in-List.is, list_is, size_list c.in-List.ids.now) at c.requires

pub returns-in-List : goal.returns-in-List
returns-in-List c = rw (c.in-List.is, list_is, members_list c.in-List.ids.now)
