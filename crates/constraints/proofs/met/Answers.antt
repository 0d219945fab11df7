-- `constraints::met` meets its contract. Assumes nothing.
use Rattle.constraints.proofs.Prelude.{◌∙◌, eq-eqb, ne_eqb}
use Rattle.constraints.proofs.Laws.{met_by}
use Rattle.constraints.proofs.met.Goals as goal
use Rattle.constraints.proofs.met.Goals.{then-c-eq-EQUAL_COLUMNS, else-c-eq-EQUAL_COLUMNS}

pub returns : goal.returns
returns c =
    let a = c.args in
    c.compares.ensures ∙ met_by a.row.now a.c _ _ c.cell-first.ensures
    (elim c.if-c-eq-EQUAL_COLUMNS.branch [
      | then-c-eq-EQUAL_COLUMNS w ↦ rw (eq-eqb _ _ w.if-c-eq-EQUAL_COLUMNS.true) (w.other-is ∙ w.cell-other.ensures)
      | else-c-eq-EQUAL_COLUMNS w ↦ rw (ne_eqb _ _ w.if-c-eq-EQUAL_COLUMNS.false) w.other-is
    ])
