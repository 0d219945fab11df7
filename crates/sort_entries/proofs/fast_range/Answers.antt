-- `sort_entries::fast_range` meets its contract. Assumes nothing.
use Rattle.sort_entries.proofs.LawsSearch.{ranged}
use Rattle.sort_entries.proofs.fast_range.Goals as goal

pub returns-in-Ok : goal.returns-in-Ok
returns-in-Ok c = ranged _ _ _ _ _ _ _ _ c.binary_search_sort_val-standing.ensures c.in-Ok.is c.range_found.ensures

pub returns-in-Err : goal.returns-in-Err
returns-in-Err c = ranged _ _ _ _ _ _ _ _ c.binary_search_sort_val-standing.ensures c.in-Err.is c.range_absent.ensures
