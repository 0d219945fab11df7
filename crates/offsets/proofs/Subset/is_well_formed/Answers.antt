-- `offsets::Subset::is_well_formed` meets its contract. Assumes nothing.
use Rattle.offsets.proofs.Prelude.{sym, ◌∙◌, and-false, and-true, length, le-leb, lt-leb}
use Rattle.offsets.specs.Subsets.{well_formed}
use Rattle.offsets.specs.Laws.Subsets.{range_is, list_is}
use Rattle.offsets.proofs.Subset.is_well_formed.Goals as goal

pub returns-in-Range : goal.returns-in-Range
unfolding well_formed
returns-in-Range c = rw (c.in-Range.is, range_is)

pub returns-then-ids-le-LONGEST_LIST : goal.returns-then-ids-le-LONGEST_LIST
unfolding well_formed
returns-then-ids-le-LONGEST_LIST c =
    rw (c.in-List.is, list_is, le-leb (length c.in-List.ids.now) 65536 c.if-ids-le-LONGEST_LIST.true) (c.is_rising.ensures ∙ sym (and-true _))

pub returns-else-ids-le-LONGEST_LIST : goal.returns-else-ids-le-LONGEST_LIST
unfolding well_formed
returns-else-ids-le-LONGEST_LIST c =
    rw (c.in-List.is, list_is, lt-leb (length c.in-List.ids.now) 65536 c.if-ids-le-LONGEST_LIST.false) (sym (and-false _))
