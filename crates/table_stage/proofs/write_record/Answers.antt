-- `table_stage::write_record` meets its contract: the cells behind the head. Assumes nothing.
use Rattle.table_stage.proofs.Prelude.{ℕ, ◌+◌, ap, ◌∙◌, List, [], ◌∷◌, arith, splice, splice_then}
use Rattle.table_stage.proofs.write_record.Goals as goal

pub returns : goal.returns
returns c =
    let a = c.args in
    c.write_row.ensures
    ∙ ap (λ (l : List ℕ). splice l (a.at + 2) a.cells.now) c.write_head.ensures
    ∙ splice_then a.pending.now (a.kind ∷ a.hash ∷ []) a.cells.now a.at (omega arith)
