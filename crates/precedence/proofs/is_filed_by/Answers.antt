-- `precedence::is_filed_by` meets its contract. Assumes nothing.
use Rattle.precedence.proofs.Prelude.{arith}
use Rattle.precedence.proofs.Steps.{RowInStore, lookup_pre, found_in_store, found_none, found_at}
use Rattle.precedence.proofs.is_filed_by.Goals.{After-row_start}
use Rattle.precedence.proofs.is_filed_by.Goals as goal

-- the row that was found
lies : (c : After-row_start) → let a = c.args in RowInStore a.h a.rows.now c.in-Some.hit.row
lies c = found_in_store _ _ _ _ _ _ _ c.index_shape.ensures c.look_up-found.ensures c.requires.0 _ c.in-Some.is

pub look_up-found-requires : goal.look_up-found-requires
look_up-found-requires c = lookup_pre _ _ _ c.args.key.now _ c.index_shape.ensures c.requires.0 c.requires.1

pub overflow_add-at : goal.overflow_add-at
overflow_add-at c = omega (arith, lies (goal.at.overflow_add-at c).After-row_start)

pub offset_bounds-rows-at : goal.offset_bounds-rows-at
offset_bounds-rows-at c = omega (arith, lies (goal.at.offset_bounds-rows-at c).After-row_start)

pub bounds-rows-at : goal.bounds-rows-at
bounds-rows-at c = omega (arith, lies (goal.at.bounds-rows-at c).After-row_start)

pub returns-in-None : goal.returns-in-None
returns-in-None c = found_none _ _ _ _ _ _ _ c.index_shape.ensures c.look_up-found.ensures c.compact_hash.ensures _ c.in-None.is

pub returns-in-Some : goal.returns-in-Some
returns-in-Some c =
    rw c.row_start.ensures (found_at _ _ _ _ _ _ _ c.index_shape.ensures c.look_up-found.ensures c.compact_hash.ensures _ c.requires.0 _ c.in-Some.is)
