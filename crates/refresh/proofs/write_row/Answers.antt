-- `refresh::write_row` meets its contract. Assumes nothing.
use Rattle.refresh.proofs.Prelude.{ℕ, ◌+◌, ap, ◌∙◌, List, arith, set, splice, row_at, insert, record_words}
use Rattle.refresh.proofs.WriteSteps.{within, both_words}
use Rattle.refresh.proofs.write_row.Goals as goal

pub overflow_add-h : goal.overflow_add-h
overflow_add-h c = omega (arith, within c.requires.0)

pub returns : goal.returns
returns c =
    let a = c.args in
    c.write_restamped.ensures
    ∙ ap (λ (l : List ℕ). splice l (a.at + (a.h.keys + 3)) (record_words a.h.keys (insert (set (row_at a.h.columns a.row a.rows.now) a.h.sort a.stamp)))) c.write_removal.ensures
    ∙ both_words c.requires.0 a.stamp a.pending.now a.at c.requires.1
