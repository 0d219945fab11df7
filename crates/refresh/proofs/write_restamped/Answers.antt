-- `refresh::write_restamped` meets its contract. Assumes nothing.
use Rattle.refresh.proofs.Prelude.{ℕ, refl, sym, ap, ◌∙◌, List, arith, length-take-le, splice}
use Rattle.refresh.proofs.WriteSteps.{within, part_fits, cells_fit, key_fits, restamped_words}
use Rattle.refresh.proofs.write_restamped.Goals as goal

pub overflow_add-from : goal.overflow_add-from
overflow_add-from c = omega (arith, within c.requires.0)

pub offset_bounds-rows-from : goal.offset_bounds-rows-from
offset_bounds-rows-from c = omega (arith, within c.requires.0)

pub slice_bounds-write_row-end-2 : goal.slice_bounds-write_row-end-2
slice_bounds-write_row-end-2 c = omega (arith, within c.requires.0)

pub write_row-requires : goal.write_row-requires
write_row-requires c = rw c.row_start-from.ensures (part_fits c.requires.0)

pub bounds-restamped-h : goal.bounds-restamped-h
bounds-restamped-h c = omega (arith, within c.requires.0)

pub slice_bounds-restamped-end : goal.slice_bounds-restamped-end
slice_bounds-restamped-end c = key_fits c.requires.0 _ _ _ refl (rw c.row_start-from.ensures at c.write_row.ensures)

pub slice_bounds-compact_hash-end : goal.slice_bounds-compact_hash-end
slice_bounds-compact_hash-end c = sym (length-take-le _ _ (key_fits c.requires.0 _ _ _ refl (rw c.row_start-from.ensures at c.write_row.ensures)))

pub slice_bounds-write_record-end : goal.slice_bounds-write_record-end
slice_bounds-write_record-end c = cells_fit c.requires.0 _ _ _ refl (rw c.row_start-from.ensures at c.write_row.ensures)

pub returns : goal.returns
returns c =
    c.write_record.ensures
    ∙ ap (λ (w : List ℕ). splice c.args.pending.now c.args.at w) (restamped_words c.requires.0 _ _ _ refl (rw c.row_start-from.ensures at c.write_row.ensures) _ c.compact_hash-hash.ensures)
