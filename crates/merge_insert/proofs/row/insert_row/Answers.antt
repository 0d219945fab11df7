-- `merge_insert::row::insert_row` meets its contract. Assumes nothing.
use Rattle.merge_insert.proofs.Prelude.{arith, Ok, Err}
use Rattle.merge_insert.proofs.InsertSteps.{inserts_skipped, findable, can_append, found_row, found_slot, inserts_new, inserts_known}
use Rattle.std.proofs.lemmas.Result.{err_from_is_err_and}
use Rattle.merge_insert.proofs.row.insert_row.Goals as goal

pub returns-then-is_stale : goal.returns-then-is_stale
returns-then-is_stale c = let p = c.requires in inserts_skipped _ _ _ _ _ _ _ p.0 p.1 _ c.is_stale.ensures c.if-is_stale.true

pub look_up-requires : goal.look_up-requires
look_up-requires c =
    findable _ _ _ _ _ _ c.args.hash c.requires.0 c.requires.1 _ c.index_shape.ensures

pub slice_bounds-insert_new-end : goal.slice_bounds-insert_new-end
slice_bounds-insert_new-end c = let p = c.requires in omega (arith, p.0.pending_fits, p.1)

pub insert_new-requires : goal.insert_new-requires
insert_new-requires c =
    can_append _ _ _ _ _ _ c.args.hash c.requires.0 c.requires.1

pub insert_known-requires : goal.insert_known-requires
insert_known-requires c =
    let p = c.requires in
    let k = c.index_shape.ensures in
    let f = c.look_up.ensures in
    (p.0, p.1, found_row _ _ _ _ _ _ _ p.0 p.1 _ k _ f _ c.in-Some.is, found_slot _ _ _ _ _ _ _ p.0 p.1 _ k _ f _ c.in-Some.is)

pub returns-in_err-n-in-None : goal.returns-in_err-n-in-None
returns-in_err-n-in-None c =
    let p = c.requires in
    let d = c.insert_new in
    let e = err_from_is_err_and c.from_residual.result c.from_residual.ensures.1 in
    rw (e.1, e.2)
    (inserts_new _ _ _ _ _ _ _ p.0 p.1 _ c.index_shape.ensures _ c.look_up.ensures _ c.is_stale.ensures c.if-is_stale.false
    d.new.rows d.new.keys d.new.sorts c.in-None.is (Err _) c.in_err-n-in-None.ensures)

pub returns-in_ok-n-in-None : goal.returns-in_ok-n-in-None
returns-in_ok-n-in-None c =
    let p = c.requires in
    let d = c.insert_new in
    inserts_new _ _ _ _ _ _ _ p.0 p.1 _ c.index_shape.ensures _ c.look_up.ensures _ c.is_stale.ensures c.if-is_stale.false
    d.new.rows d.new.keys d.new.sorts c.in-None.is (Ok _) c.in_ok-n-in-None.ensures

pub returns-in-Some : goal.returns-in-Some
returns-in-Some c =
    let p = c.requires in
    let d = c.insert_known in
    inserts_known _ _ _ _ _ _ _ p.0 p.1 _ c.index_shape.ensures _ c.look_up.ensures _ c.is_stale.ensures c.if-is_stale.false
    d.new.rows d.new.keys d.new.sorts _ c.in-Some.is d.result d.ensures
