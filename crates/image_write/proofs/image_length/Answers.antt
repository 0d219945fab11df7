-- `image_write::image_length` meets its contract. Assumes nothing.
use Rattle.image_write.proofs.Prelude.{ℕ, ◌+◌, ◌*◌, ap, arith, inside_few}
use Rattle.image_spec.specs.Image.{image_length}
use Rattle.image_write.proofs.image_length.Goals as goal

pub overflow_mul-cells : goal.overflow_mul-cells
overflow_mul-cells c = omega (arith, inside_few _ c.requires.0)

pub overflow_add-result-2 : goal.overflow_add-result-2
overflow_add-result-2 c = omega (arith, inside_few _ c.requires.0)

pub overflow_add-result-3 : goal.overflow_add-result-3
overflow_add-result-3 c = omega (arith, inside_few _ c.requires.0)

pub overflow_add-result-4 : goal.overflow_add-result-4
overflow_add-result-4 c = omega (arith, inside_few _ c.requires.0, c.requires.1)

pub returns : goal.returns
unfolding image_length
returns c =
    let h = c.args.h in
    ap (λ (words : ℕ). 16 + words + h.rows * h.columns + 2 * h.entries + h.pending) c.packed_length.ensures
