-- `table_open::clear` meets its contract. Assumes nothing.
use Rattle.std.proofs.lemmas.Result.{err_from_is_err_and}
use mathlib.Core.Path.{sym}
use native.Mathlib.Omega.{arith}
use lib.ListN.{length}
use Rattle.key_index.specs.Laws.SizeClasses.{size_class_most, size_class_some}
use Rattle.table.proofs.Laws.Refusals.{clear_accepted}
use Rattle.table.proofs.Laws.Opening.{next_fits, clear_refused, clear_pending, clear_all}
use Rattle.table_open.proofs.clear.Goals as goal

pub returns-in_err-check_clear : goal.returns-in_err-check_clear
returns-in_err-check_clear c =
    let a = c.args in
    let p = err_from_is_err_and c.from_residual.result c.from_residual.ensures.1 in
    rw (p.1, p.2) (clear_refused a.h a.keys.now _ c.in_err-check_clear.ensures)

pub returns-then-h-eq0 : goal.returns-then-h-eq0
returns-then-h-eq0 c =
    let a = c.args in
    clear_pending a.h a.keys.now (sym c.in_ok-check_clear.ensures) c.if-h-eq0.true

pub empty-requires : goal.empty-requires
empty-requires c =
    let a = c.args in
    let k = clear_accepted a.h (length a.keys.now) (sym c.in_ok-check_clear.ensures) in
    omega (arith, k, size_class_some a.h.capacity 0 k.inside.bounds.capacity_some, size_class_most a.h.capacity 0, c.size_class_for.ensures)

pub overflow_add-n : goal.overflow_add-n
overflow_add-n c =
    let a = c.args in
    let k = clear_accepted a.h (length a.keys.now) (sym c.in_ok-check_clear.ensures) in
    omega (arith, next_fits a.h.generation a.h.rows (omega arith) k.last_empty (omega (arith, c.if-h-eq0.false)))

pub returns : goal.returns
returns c =
    let a = c.args in
    clear_all a.h a.keys.now _ (sym c.in_ok-check_clear.ensures) (omega (arith, c.if-h-eq0.false)) (rw c.size_class_for.ensures at c.empty.ensures)
