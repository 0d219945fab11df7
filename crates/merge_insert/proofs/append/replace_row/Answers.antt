-- `merge_insert::append::replace_row` meets its contract. Assumes nothing.
use Rattle.merge_insert.proofs.Prelude.{ℕ, ◌*◌, sym, ap, ◌∙◌, List, arith, length, length-set, splice}
use Rattle.merge_insert.proofs.AppendSteps.{entering, old_place, rebuilds, unchanged_by_stop, replaced_stepped, replaced_rebuilt}
use Rattle.std.proofs.lemmas.Result.{err_from_is_err_and}
use Rattle.merge_insert.proofs.append.replace_row.Goals as goal

pub set_stale-requires : goal.set_stale-requires
set_stale-requires c = omega (arith, old_place (entering c.requires.0 c.in_ok-entries.ensures.room) _ c.requires.1, (entering c.requires.0 c.in_ok-entries.ensures.room).fits.some_columns)

pub write_row-requires : goal.write_row-requires
write_row-requires c =
    omega (arith, entering c.requires.0 c.in_ok-entries.ensures.room, simp length-set at (ap length c.set_stale.ensures.cells))

pub is_outgrown-requires : goal.is_outgrown-requires
is_outgrown-requires c = omega (arith, entering c.requires.0 c.in_ok-entries.ensures.room)

pub rebuild_grown-requires : goal.rebuild_grown-requires
rebuild_grown-requires c = rebuilds (entering c.requires.0 c.in_ok-entries.ensures.room) _ (c.rows-2-1.given ∙ c.rows-1.given) 1 (omega arith)

pub shape_of-sorts : goal.shape_of-sorts
shape_of-sorts c = c.in_ok-entries.ensures.same

pub returns-then-is_outgrown : goal.returns-then-is_outgrown
returns-then-is_outgrown c =
    let a = c.args in
    replaced_rebuilt _ _ _ _ _ _ _ _ c.in_ok-entries.ensures _ _ c.keys-1.given a.old a.slot
    (rw c.row_start-2.ensures at c.write_row.ensures ∙ ap (λ (l : List ℕ). splice l (a.h.rows * a.h.columns) a.cells.now) (rw c.row_start.ensures at c.set_stale.ensures.cells))
    (sym c.is_outgrown.ensures ∙ c.if-is_outgrown.true) _ c.rebuild_grown.ensures

pub replace-requires : goal.replace-requires
replace-requires c = omega (arith, entering c.requires.0 c.in_ok-entries.ensures.room, c.requires.2)

pub grown-requires : goal.grown-requires
grown-requires c = omega (arith, entering c.requires.0 c.in_ok-entries.ensures.room)

pub returns-in_err-entries : goal.returns-in_err-entries
returns-in_err-entries c =
    let p = err_from_is_err_and c.from_residual.result c.from_residual.ensures.1 in rw (p.1, p.2) (unchanged_by_stop _ _ _ _ _ _ _ c.in_err-entries.ensures)

pub returns : goal.returns
returns c =
    let a = c.args in
    replaced_stepped _ _ _ _ _ _ _ _ c.in_ok-entries.ensures _ _ c.keys-2-1.given a.old a.slot
    (rw c.row_start-2.ensures at c.write_row.ensures ∙ ap (λ (l : List ℕ). splice l (a.h.rows * a.h.columns) a.cells.now) (rw c.row_start.ensures at c.set_stale.ensures.cells))
    (sym c.is_outgrown.ensures ∙ c.if-is_outgrown.false) c.requires.2 c.replace.ensures _ c.grown.ensures
