-- `sort_entries::range_absent` meets its contract. Assumes nothing.
use Rattle.std.proofs.Common.{rules}
use mathlib.Core.Logic.{⊎_elim}
use Rattle.sort_entries.specs.Laws.Positions.{range_at}
use Rattle.sort_entries.proofs.LawsSearch.{absent_rest}
use Rattle.sort_entries.proofs.range_absent.Goals as goal

pub returns-in-1 : goal.returns-in-1
unfolding range_at
returns-in-1 c = rw c.in-1.is

pub returns-in-2 : goal.returns-in-2
unfolding range_at
returns-in-2 c = ⊎_elim (λ e. rw e) (λ e. rw e) c.in-2.is

pub returns-in_default : goal.returns-in_default
returns-in_default c = search (absent_rest, rules)
