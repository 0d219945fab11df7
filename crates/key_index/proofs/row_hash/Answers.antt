-- `key_index::row_hash` meets its contract. Assumes nothing.
use Rattle.key_index.proofs.Prelude.{ℕ, ap, ◌∙◌, List, arith, Inside, row_inside, key_part}
use Rattle.cells.specs.Cells.{compact_hash, key_hash}
use Rattle.key_index.proofs.row_hash.Goals.{Start}
use Rattle.key_index.proofs.row_hash.Goals as goal

lies : (s : Start) → Inside s.args.rows.now s.args.t.columns s.args.row
lies s = row_inside _ _ _ s.requires.0 s.requires.1

pub overflow_add-to : goal.overflow_add-to
overflow_add-to c = omega (arith, lies (goal.at.overflow_add-to c).Start)

pub offset_bounds-rows-from : goal.offset_bounds-rows-from
offset_bounds-rows-from c = omega (arith, lies (goal.at.offset_bounds-rows-from c).Start)

pub slice_bounds-compact_hash-end : goal.slice_bounds-compact_hash-end
slice_bounds-compact_hash-end c = omega (arith, lies (goal.at.slice_bounds-compact_hash-end c).Start)

pub returns : goal.returns
returns c =
    rw c.row_start-from.ensures at c.compact_hash.ensures ∙ ap (λ (key : List ℕ). compact_hash (key_hash key)) (key_part c.args.t c.args.rows.now c.args.row c.requires.0.most_keys)
