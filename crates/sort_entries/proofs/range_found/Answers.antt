-- `sort_entries::range_found` meets its contract. Assumes nothing.
use Rattle.std.proofs.Common.{arith}
use borrow.Author.Tests.{ne_eqb}
use Rattle.sort_entries.specs.Laws.Positions.{range_at}
use Rattle.sort_entries.proofs.range_found.Goals as goal

pub returns-in-1 : goal.returns-in-1
unfolding range_at
returns-in-1 c = rw c.in-1.is

pub returns-in-2 : goal.returns-in-2
unfolding range_at
returns-in-2 c = rw c.in-2.is

pub returns-in-3 : goal.returns-in-3
unfolding range_at
returns-in-3 c = rw c.in-3.is

pub returns-in-4 : goal.returns-in-4
unfolding range_at
returns-in-4 c = rw c.in-4.is

pub returns-in_default : goal.returns-in_default
unfolding range_at
returns-in_default c = grind (arith, ne_eqb)
