-- `query_scan::move_on` meets its contract. Assumes nothing.
use Rattle.std.proofs.Common.{rules, ◌≤◌, ◌+◌}
use Rattle.offsets.specs.Laws.Subsets.{range_is, list_is}
use Rattle.query_scan.proofs.Prelude.{refl}
use Rattle.query_scan.proofs.ScanSteps.{next_below, next_in_range, place_in_list, next_in_list}
use Rattle.query_scan.proofs.move_on.Goals as goal

pub overflow_add-n-in-Range : goal.overflow_add-n-in-Range
overflow_add-n-in-Range c = let below : c.args.s.id + 1 ≤ c.in-Range.field-1 = next_below c.in-Range.field-0 _ _ (rw (c.in-Range.is, range_is) at c.requires) in search rules

pub returns-in-Range : goal.returns-in-Range
returns-in-Range c =
    rw (c.in-Range.is, range_is)
    (record {
      next_is = refl;
      end_is = refl;
      most_is = refl;
      dead_is = refl;
      found_is = refl;
      id_is = next_in_range _ _ _ (rw (c.in-Range.is, range_is) at c.requires);
    })

pub bounds-ids-n : goal.bounds-ids-n
bounds-ids-n c = place_in_list _ _ (rw (c.in-List.is, list_is) at c.requires) c.if-n-s.true

pub returns-then-n-s : goal.returns-then-n-s
returns-then-n-s c =
    rw (c.in-List.is, list_is)
    (record {
      next_is = refl;
      end_is = refl;
      most_is = refl;
      dead_is = refl;
      found_is = refl;
      id_is = λ _. next_in_list _ _ (rw (c.in-List.is, list_is) at c.requires);
    })
