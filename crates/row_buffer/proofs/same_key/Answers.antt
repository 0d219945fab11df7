-- `row_buffer::same_key` meets its contract. Assumes nothing.
use Rattle.row_buffer.proofs.Prelude.{ℕ, ap, ◌∙◌, length, List, same, part_width}
use Rattle.row_buffer.proofs.same_key.Goals as goal

pub returns : goal.returns
returns c =
    let a = c.args in
    c.same_cells.ensures ∙ ap (λ (cells : List ℕ). same cells a.key.now) (part_width a.rows.now a.at (length a.key.now))
