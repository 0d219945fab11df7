-- `refresh::write_removal` meets its contract. Assumes nothing.
use Rattle.refresh.proofs.Prelude.{ℕ, ap, ◌∙◌, List, arith, splice}
use Rattle.refresh.proofs.WriteSteps.{within, removal_words}
use Rattle.refresh.proofs.write_removal.Goals as goal

pub overflow_add-end : goal.overflow_add-end
overflow_add-end c = omega (arith, within c.requires.0)

pub offset_bounds-rows-from : goal.offset_bounds-rows-from
offset_bounds-rows-from c = omega (arith, within c.requires.0)

pub slice_bounds-key-end : goal.slice_bounds-key-end
slice_bounds-key-end c = omega (arith, within c.requires.0)

pub returns : goal.returns
returns c =
    let e = c.row_start-from.ensures in
    rw e at c.write_row_record.ensures ∙ ap (λ (w : List ℕ). splice c.args.pending.now c.args.at w) (removal_words c.requires.0 _ (rw e at c.compact_hash-hash.ensures))
