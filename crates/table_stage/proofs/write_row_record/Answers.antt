-- `table_stage::write_row_record` meets its contract: the key behind the head. Assumes nothing.
use Rattle.table_stage.proofs.Prelude.{ℕ, ◌+◌, ap, ◌∙◌, List, [], ◌∷◌, arith, splice, splice_then}
use Rattle.table_stage.proofs.write_row_record.Goals as goal

pub returns : goal.returns
returns c =
    let a = c.args in
    c.write_row.ensures
    ∙ ap (λ (l : List ℕ). splice l (a.at + 3) a.key.now) c.write_row_head.ensures
    ∙ splice_then a.pending.now (2 ∷ a.hash ∷ a.row ∷ []) a.key.now a.at (omega arith)
