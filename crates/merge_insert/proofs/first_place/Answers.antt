-- `merge_insert::first_place` meets its contract. Assumes nothing.
use Rattle.merge_insert.proofs.Prelude.{arith}
use Rattle.merge_insert.proofs.PassInserts.{first_here, first_later}
use Rattle.merge_insert.proofs.first_place.Goals as goal

pub returns-in_default : goal.returns-in_default
returns-in_default c = first_here

pub bounds-pending-0 : goal.bounds-pending-0
bounds-pending-0 c = omega (arith, c.in-Some.ensures, c.requires)

pub returns-then-pending-eq-INSERT : goal.returns-then-pending-eq-INSERT
returns-then-pending-eq-INSERT c = first_here

pub returns : goal.returns
returns c = first_later c.in-Some.ensures c.if-pending-eq-INSERT.false c.next_record.ensures
