-- `merge_insert::row::insert_known` meets its contract. Assumes nothing.
use Rattle.merge_insert.proofs.Prelude.{refl, Ok, Err}
use Rattle.merge_insert.proofs.InsertSteps.{makeable, kept_old, known_of}
use Rattle.std.proofs.lemmas.Result.{err_from_is_err_and}
use Rattle.merge_insert.proofs.row.insert_known.Goals as goal

pub make_row-requires : goal.make_row-requires
make_row-requires c = let p = c.requires in makeable _ _ _ _ _ _ _ p.0 p.1 p.2 _ refl

pub returns-then-not-make_row : goal.returns-then-not-make_row
returns-then-not-make_row c = let p = c.requires in kept_old _ _ _ _ _ _ _ p.0 p.1 p.2 _ refl _ _ c.make_row.ensures c.if-not-make_row.true

pub returns-in_err-n : goal.returns-in_err-n
returns-in_err-n c =
    let p = c.requires in
    let d = c.replace_row in
    let e = err_from_is_err_and c.from_residual.result c.from_residual.ensures.1 in
    rw (e.1, e.2)
    (known_of _ _ _ _ _ _ _ p.0 p.1 p.2 _ refl _ _ c.make_row.ensures c.if-not-make_row.false c.args.hash c.args.slot
    d.new.rows d.new.keys d.new.sorts (Err _) c.in_err-n.ensures)

pub returns : goal.returns
returns c =
    let p = c.requires in
    let d = c.replace_row in
    known_of _ _ _ _ _ _ _ p.0 p.1 p.2 _ refl _ _ c.make_row.ensures c.if-not-make_row.false c.args.hash c.args.slot
    d.new.rows d.new.keys d.new.sorts (Ok _) c.in_ok-n.ensures
