-- `key_rebuild::put_row` meets its contract. Assumes nothing.
use Rattle.key_rebuild.proofs.Prelude.{sym, ◌∙◌, arith, rows_in_lem, Inside, row_inside}
use Rattle.key_rebuild.proofs.RebuildSteps.{row_dead, row_live}
use Rattle.key_rebuild.proofs.put_row.Goals.{Start}
use Rattle.key_rebuild.proofs.put_row.Goals as goal

lies : (s : Start) → Inside s.args.rows.now s.args.t.columns s.args.row
lies s = row_inside _ _ _ (rows_in_lem _ _ _ s.requires.0) s.requires.1

pub is_dead-requires : goal.is_dead-requires
is_dead-requires c = omega (arith, lies (goal.at.is_dead-requires c).Start, c.requires.0.some_columns)

pub returns-then-is_dead : goal.returns-then-is_dead
returns-then-is_dead c =
    row_dead _ _ _ c.args.row c.requires.0 c.requires.1 (sym (rw c.row_start-at.ensures at c.is_dead.ensures) ∙ c.if-is_dead.true)

pub row_hash-hash-requires : goal.row_hash-hash-requires
row_hash-hash-requires c = (rows_in_lem _ _ _ c.requires.0, c.requires.1)

pub returns : goal.returns
returns c =
    row_live _ _ _ c.args.row c.requires.0 c.requires.1 _ _ _ (sym (rw c.row_start-at.ensures at c.is_dead.ensures) ∙ c.if-is_dead.false) c.row_hash-hash.ensures c.put.ensures
