-- `table_read::get_row` meets its contract. Assumes nothing.
use Rattle.std.proofs.lemmas.Result.{err_from_is_err_and}
use mathlib.Core.Path.{sym}
use Rattle.table_read.proofs.ReadingSteps.{lookup_pre, row_refused, row_none, row_some}
use Rattle.table_read.proofs.get_row.Goals as goal

pub returns-in_err-check_lookup : goal.returns-in_err-check_lookup
returns-in_err-check_lookup c =
    let p = err_from_is_err_and c.from_residual.result c.from_residual.ensures.1 in
    rw (p.1, p.2) (row_refused _ _ _ _ _ c.in_err-check_lookup.ensures)

pub look_up-found-requires : goal.look_up-found-requires
look_up-found-requires c = lookup_pre _ _ _ c.args.key.now _ c.index_shape.ensures (sym c.in_ok-check_lookup.ensures)

pub returns-in-None : goal.returns-in-None
returns-in-None c = row_none _ _ _ _ _ _ _ c.index_shape.ensures c.compact_hash.ensures c.look_up-found.ensures (sym c.in_ok-check_lookup.ensures) c.in-None.is

pub returns-in-Some : goal.returns-in-Some
returns-in-Some c = row_some _ _ _ _ _ _ _ c.index_shape.ensures c.compact_hash.ensures c.look_up-found.ensures _ (sym c.in_ok-check_lookup.ensures) c.in-Some.is
