-- `image_check::check_image` meets its contract. Assumes nothing.
use Prim.Native.Nat.{ℕ}
use mathlib.Core.Path.{refl}
use native.Mathlib.Omega.{arith}
use lib.ListN.{length-replicate}
use Rattle.std.proofs.lemmas.Result.{err_from_is_err_and}
use Rattle.image_check.proofs.CheckingSteps.{checked_refused, checked_sound}
use Rattle.image_check.proofs.check_image.Goals as goal

pub decode-requires : goal.decode-requires
decode-requires c = omega (arith, length-replicate {A = ℕ} 131072 0)

pub returns-in_err-l : goal.returns-in_err-l
returns-in_err-l c =
    let p = err_from_is_err_and c.from_residual.result c.from_residual.ensures.1 in
    rw (p.1, p.2) (checked_refused _ _ _ c.in_err-l.ensures _ refl)

pub returns : goal.returns
returns c = checked_sound _ _ _ c.in_ok-l.ensures _ refl
