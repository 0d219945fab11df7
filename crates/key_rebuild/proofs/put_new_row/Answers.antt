-- `key_rebuild::put_new_row` meets its contract. Assumes nothing.
use Rattle.key_rebuild.proofs.Prelude.{sym, ◌∙◌, arith, rules, Inside, row_inside, key_part}
use Rattle.key_rebuild.proofs.UniqueSteps.{earlier_fit, new_row_dead, new_row_live}
use Rattle.key_rebuild.proofs.put_new_row.Goals.{Start}
use Rattle.key_rebuild.proofs.put_new_row.Goals as goal

lies : (s : Start) → Inside s.args.rows.now s.args.t.columns s.args.row
lies s = row_inside _ _ _ s.requires.0.within s.requires.1

pub is_dead-requires : goal.is_dead-requires
is_dead-requires c = omega (arith, lies (goal.at.is_dead-requires c).Start, c.requires.0.some_columns)

pub returns-then-is_dead : goal.returns-then-is_dead
returns-then-is_dead c = new_row_dead _ _ _ c.args.row c.requires.0 c.requires.1 (sym (rw c.row_start-from.ensures at c.is_dead.ensures) ∙ c.if-is_dead.true)

pub overflow_add-to : goal.overflow_add-to
overflow_add-to c = omega (arith, lies (goal.at.overflow_add-to c).Start, c.requires.0.within)

pub row_hash-hash-requires : goal.row_hash-hash-requires
row_hash-hash-requires c = let p = c.requires in (p.0.within, p.1)

pub offset_bounds-rows-from : goal.offset_bounds-rows-from
offset_bounds-rows-from c = omega (arith, lies (goal.at.offset_bounds-rows-from c).Start, c.requires.0.within)

pub slice_bounds-put_new-end : goal.slice_bounds-put_new-end
slice_bounds-put_new-end c = omega (arith, lies (goal.at.slice_bounds-put_new-end c).Start, c.requires.0.within)

pub put_new-requires : goal.put_new-requires
put_new-requires c =
    (earlier_fit _ _ _ c.requires.0 c.args.row (omega (arith, c.requires.1)), search rules, omega (arith, c.requires.1, c.requires.0.within))

pub returns : goal.returns
returns c =
    let t = c.args.t in
    new_row_live t c.args.rows.now c.args.store.now c.args.row c.requires.0 c.requires.1 (sym (rw c.row_start-from.ensures at c.is_dead.ensures) ∙ c.if-is_dead.false) _ c.row_hash-hash.ensures _ _
    (rw (c.row_start-from.ensures, key_part t c.args.rows.now c.args.row c.requires.0.within.most_keys) at c.put_new.ensures)
