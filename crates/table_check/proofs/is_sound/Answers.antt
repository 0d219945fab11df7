-- `table_check::is_sound` meets its contract. Assumes nothing.
use Rattle.std.proofs.lemmas.Result.{err_from_is_err_and}
use Rattle.table_check.proofs.Prelude.{sym}
use Rattle.table_check.proofs.CheckingSteps.{checked_refused, checked_answered}
use Rattle.table_check.proofs.is_sound.Goals as goal

pub returns-in_err-check_sound : goal.returns-in_err-check_sound
returns-in_err-check_sound c =
    let p = err_from_is_err_and c.from_residual.result c.from_residual.ensures.1 in
    rw (p.1, p.2) (checked_refused _ _ _ _ _ _ c.in_err-check_sound.ensures)

pub stores_sound-requires : goal.stores_sound-requires
stores_sound-requires c = sym c.in_ok-check_sound.ensures

pub returns : goal.returns
returns c = checked_answered _ _ _ _ _ (sym c.in_ok-check_sound.ensures) _ c.stores_sound.ensures
