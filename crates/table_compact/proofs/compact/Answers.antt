-- `table_compact::compact` meets its contract. Assumes nothing.
use Rattle.std.proofs.lemmas.Result.{err_from_is_err_and}
use Rattle.table_compact.proofs.Prelude.{arith, sym}
use Rattle.table_compact.proofs.CompactionSteps.{compact_next, compact_refused, compact_lendable, compact_none, compact_done}
use Rattle.table_compact.proofs.compact.Goals as goal

pub returns-in_err-check_compact : goal.returns-in_err-check_compact
returns-in_err-check_compact c =
    let p = err_from_is_err_and c.from_residual.result c.from_residual.ensures.1 in
    rw (p.1, p.2) (compact_refused _ _ _ _ _ _ _ c.in_err-check_compact.ensures)

pub next_generation-requires : goal.next_generation-requires
next_generation-requires c = compact_next _ _ (sym c.in_ok-check_compact.ensures) (omega arith)

pub returns-then-h-eq0 : goal.returns-then-h-eq0
returns-then-h-eq0 c =
    let e = sym c.in_ok-check_compact.ensures in
    compact_done _ _ _ _ _ _ e _ _ _ _ _ _ (compact_none _ _ _ _ _ _ e c.if-h-eq0.true (omega arith) _ c.next_generation.ensures)

pub compact_rows-requires : goal.compact_rows-requires
compact_rows-requires c = compact_lendable _ _ _ _ _ _ (sym c.in_ok-check_compact.ensures) (omega arith)

pub returns : goal.returns
returns c =
    compact_done _ _ _ _ _ _ (sym c.in_ok-check_compact.ensures) _ _ _ _ _ _ c.compact_rows.ensures
