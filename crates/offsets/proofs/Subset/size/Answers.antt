-- `offsets::Subset::size` meets its contract. Assumes nothing.
use Rattle.offsets.proofs.Prelude.{sym, ◌∙◌}
use Rattle.offsets.specs.Laws.Forms.{size_range, size_list}
use Rattle.offsets.specs.Laws.Subsets.{range_is, list_is}
use Rattle.offsets.proofs.Subset.size.Goals as goal

pub returns-in-Range : goal.returns-in-Range
returns-in-Range c = rw (c.in-Range.is, range_is) (c.saturating_sub.ensures ∙ sym (size_range _ _))

pub returns-in-List : goal.returns-in-List
returns-in-List c = rw (c.in-List.is, list_is) (sym (size_list _))
