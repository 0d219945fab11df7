-- `merge_insert::append::insert_new` meets its contract. Assumes nothing.
use Rattle.merge_insert.proofs.Prelude.{sym, ap, ◌∙◌, arith, IndexShape}
use Rattle.merge_insert.proofs.AppendSteps.{entering, rebuilds, unchanged_by_stop, new_entered, new_rebuilt}
use Rattle.std.proofs.lemmas.Result.{err_from_is_err_and}
use Rattle.merge_insert.proofs.append.insert_new.Goals as goal

pub write_row-requires : goal.write_row-requires
write_row-requires c = omega (arith, entering c.requires c.in_ok-entries.ensures.room)

pub is_outgrown-requires : goal.is_outgrown-requires
is_outgrown-requires c = omega (arith, entering c.requires c.in_ok-entries.ensures.room)

pub rebuild_grown-requires : goal.rebuild_grown-requires
rebuild_grown-requires c = rebuilds (entering c.requires c.in_ok-entries.ensures.room) _ c.rows-1.given 0 (omega arith)

pub returns-then-is_outgrown : goal.returns-then-is_outgrown
returns-then-is_outgrown c =
    new_rebuilt _ _ _ _ _ _ _ _ c.in_ok-entries.ensures _ _ c.keys-1.given (rw c.row_start.ensures at c.write_row.ensures) (sym c.is_outgrown.ensures ∙ c.if-is_outgrown.true) _ c.rebuild_grown.ensures

pub put-requires : goal.put-requires
put-requires c = omega (arith, ap (λ (t : IndexShape). t.room) c.index_shape.ensures, entering c.requires c.in_ok-entries.ensures.room)

pub grown-requires : goal.grown-requires
grown-requires c = omega (arith, entering c.requires c.in_ok-entries.ensures.room)

pub returns-in_err-entries : goal.returns-in_err-entries
returns-in_err-entries c =
    let p = err_from_is_err_and c.from_residual.result c.from_residual.ensures.1 in rw (p.1, p.2) (unchanged_by_stop _ _ _ _ _ _ _ c.in_err-entries.ensures)

pub returns : goal.returns
returns c =
    new_entered _ _ _ _ _ _ _ _ c.in_ok-entries.ensures _ _ c.keys-2-1.given (rw c.row_start.ensures at c.write_row.ensures) (sym c.is_outgrown.ensures ∙ c.if-is_outgrown.false) _ c.index_shape.ensures _ c.put.ensures _ c.grown.ensures
