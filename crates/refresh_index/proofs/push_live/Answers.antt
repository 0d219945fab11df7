-- `refresh_index::push_live` meets its contract. Assumes nothing.
use Rattle.refresh_index.proofs.Prelude.{sym, ap, ◌∙◌, not, arith, length, live_first, Inside}
use Rattle.refresh_index.proofs.Sizes.{Small, small, readable, row_inside}
use Rattle.refresh_index.proofs.Fills.{push_dead}
use Rattle.refresh_index.proofs.push_live.Goals.{Start}
use Rattle.refresh_index.proofs.push_live.Goals as goal

cell : (s : Start) → let a = s.args in Inside a.rows.now a.h.columns a.row
cell s = row_inside (readable s.requires.0.lendable) _ s.requires.1

sizes : (s : Start) → Small s.args.h (length s.args.columns.now)
sizes s = let l = s.requires.0.lendable in small _ _ l.inside l.columns_few

pub is_dead-requires : goal.is_dead-requires
is_dead-requires c = omega (arith, cell (goal.at.is_dead-requires c).Start, sizes (goal.at.is_dead-requires c).Start)

pub returns-then-is_dead : goal.returns-then-is_dead
returns-then-is_dead c =
    push_dead _ _ _ c.args.row (live_first _ c.args.row _ (sizes (goal.at.returns-then-is_dead c).Start).some_columns ∙ ap not (sym (rw c.row_start.ensures at c.is_dead.ensures) ∙ c.if-is_dead.true)) _ _
