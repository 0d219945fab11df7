-- `table::refusing::check_cell` meets its contract. Assumes nothing.
use Rattle.std.proofs.lemmas.Result.{err_from_is_err_and}
use Rattle.refusals.specs.Laws.Numbers.{number_some}
use Rattle.table.proofs.Prelude.{sym, ◌∙◌}
use Rattle.table.proofs.RefusingSteps.{cell_lookup, cell_above_lem, cell_none}
use Rattle.table.proofs.refusing.check_cell.Goals as goal

pub returns-in_err-check_lookup : goal.returns-in_err-check_lookup
returns-in_err-check_lookup c =
    let e = c.in_err-check_lookup in
    let p = err_from_is_err_and c.from_residual.result c.from_residual.ensures.1 in
    rw (p.1, p.2) (e.ensures ∙ cell_lookup _ _ _ _ _ (λ z. number_some e.field-0.0 (e.ensures ∙ z)))

pub returns-then-h-column : goal.returns-then-h-column
returns-then-h-column c = cell_above_lem _ _ _ _ _ (sym c.in_ok-check_lookup.ensures) c.if-h-column.true

pub returns : goal.returns
returns c = cell_none _ _ _ _ _ (sym c.in_ok-check_lookup.ensures) c.if-h-column.false
