-- `refresh_index::write_front` meets its contract. Assumes nothing.
use Rattle.refresh_index.proofs.Prelude.{◌∙◌, ap, List, ℕ, set, splice}
use Rattle.refresh_index.specs.inner.Entries.{fronted}
use Rattle.refresh_index.proofs.write_front.Goals as goal

pub returns : goal.returns
unfolding fronted
returns c =
    let a = c.args in
    ap (λ (l : List ℕ). set l 12 a.buckets) (c.write_row-2.ensures ∙ ap (λ (l : List ℕ). splice l 4 a.columns.now) c.write_row.ensures)
