-- `table_open::open_table` meets its contract. Assumes nothing.
use Rattle.std.proofs.lemmas.Result.{err_from_is_err_and}
use mathlib.Core.Path.{sym}
use mathlib.Core.List.{[]}
use native.Mathlib.Omega.{arith}
use Rattle.key_index.specs.Laws.SizeClasses.{size_class_most, size_class_some}
use Rattle.plain_table.specs.Staged.{Opening}
use Rattle.table.specs.Outcomes.{lengths}
use Rattle.table.proofs.Laws.Refusals.{open_accepted}
use Rattle.table.proofs.Laws.Opening.{opened_refused, opened_done}
use Rattle.table_open.proofs.open_table.Goals as goal

pub returns-in_err-check_open : goal.returns-in_err-check_open
returns-in_err-check_open c =
    let a = c.args in
    let o : Opening = record { columns = a.columns; keys = a.key_columns; sort = a.sort; rule = a.rule; capacity = a.capacity } in
    let p = err_from_is_err_and c.from_residual.result c.from_residual.ensures.1 in
    rw (p.1, p.2) (opened_refused o a.generation a.rows.now a.keys.now a.sorts.now a.pending.now _ c.in_err-check_open.ensures)

pub empty-requires : goal.empty-requires
empty-requires c =
    let a = c.args in
    let o : Opening = record { columns = a.columns; keys = a.key_columns; sort = a.sort; rule = a.rule; capacity = a.capacity } in
    let k = open_accepted o (lengths a.rows.now a.keys.now a.sorts.now a.pending.now [] []) (sym c.in_ok-check_open.ensures) in
    omega (arith, k, size_class_some a.capacity 0 k.bounds.capacity_some, size_class_most a.capacity 0, c.size_class_for.ensures)

pub returns : goal.returns
returns c =
    let a = c.args in
    let o : Opening = record { columns = a.columns; keys = a.key_columns; sort = a.sort; rule = a.rule; capacity = a.capacity } in
    opened_done o a.generation a.rows.now a.keys.now a.sorts.now a.pending.now _
    (sym c.in_ok-check_open.ensures) (omega (arith, c.ranges)) (rw c.size_class_for.ensures at c.empty.ensures)
