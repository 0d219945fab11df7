-- `vault::rearrange` meets its contract. Assumes nothing.
use Rattle.vault.proofs.Prelude.{sym, arith}
use Rattle.std.proofs.lemmas.Result.{err_from_is_err_and}
use Rattle.vault.proofs.Answers.{rearranged_refused, shaped, all_written}
use Rattle.vault.proofs.rearrange.Goals as goal

pub returns-in_err-check_columns : goal.returns-in_err-check_columns
returns-in_err-check_columns g c =
    let p = err_from_is_err_and c.from_residual.result c.from_residual.ensures.1 in
    rw (p.1, p.2) (rearranged_refused _ _ _ _ _ c.in_err-check_columns.ensures)

pub nonzero_div-rows : goal.nonzero_div-rows
nonzero_div-rows g c = let a = c.args in omega (arith, (shaped a.width a.cells.now a.output.now (sym c.in_ok-check_columns.ensures)).some)

pub rearrange_rows-requires : goal.rearrange_rows-requires
rearrange_rows-requires g c = shaped _ _ _ (sym c.in_ok-check_columns.ensures)

pub shape_of-output : goal.shape_of-output
shape_of-output g c = c.rearrange_rows.ensures.same

pub returns : goal.returns
returns g c = all_written _ _ _ (sym c.in_ok-check_columns.ensures) g.D.Direction.laws _ c.rearrange_rows.ensures
