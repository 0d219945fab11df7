-- `merge_insert::insert_next` meets its contract. Assumes nothing.
use Rattle.merge_insert.proofs.Prelude.{arith}
use Rattle.merge_insert.proofs.PassInserts.{inserted_other, inserted_next, inserted_stopped}
use Rattle.std.proofs.lemmas.Result.{err_from_is_err_and}
use Rattle.merge_insert.proofs.insert_next.Goals as goal

pub returns-then-pending-start-ne-INSERT : goal.returns-then-pending-start-ne-INSERT
returns-then-pending-start-ne-INSERT c = inserted_other c.requires c.if-pending-start-ne-INSERT.true

pub bounds-pending-start-2 : goal.bounds-pending-start-2
bounds-pending-start-2 c = let p = c.requires in omega (arith, p.ready.pending_fits, p.whole c.if-pending-start-ne-INSERT.false)

pub overflow_add-at : goal.overflow_add-at
overflow_add-at c = let p = c.requires in omega (arith, p.whole c.if-pending-start-ne-INSERT.false)

pub insert_row-requires : goal.insert_row-requires
insert_row-requires c = let p = c.requires in (p.ready, omega (arith, p.whole c.if-pending-start-ne-INSERT.false))

pub overflow_add-result : goal.overflow_add-result
overflow_add-result c = let p = c.requires in omega (arith, p.place_fits, p.inside)

pub returns-in_err-appended : goal.returns-in_err-appended
returns-in_err-appended c =
    let p = err_from_is_err_and c.from_residual.result c.from_residual.ensures.1 in
    rw (p.1, p.2) (inserted_stopped c.requires c.if-pending-start-ne-INSERT.false _ c.in_err-appended.ensures)

pub returns : goal.returns
returns c =
    rw c.unwrap_or.ensures (inserted_next c.requires c.if-pending-start-ne-INSERT.false _ c.in_ok-appended.ensures)
