-- `image_read::read_image` meets its contract. Assumes nothing.
use mathlib.Core.Path.{refl}
use Rattle.std.proofs.lemmas.Result.{err_from_is_err_and}
use Rattle.image_read.proofs.LoadingSteps.{read_refused, read_loaded}
use Rattle.image_read.proofs.Prelude.{ℕ, arith, length-replicate, body}
use Rattle.image_read.proofs.read_image.Goals as goal

pub decode-requires : goal.decode-requires
decode-requires c = omega (arith, length-replicate {A = ℕ} 131072 0)

pub load-requires : goal.load-requires
load-requires c =
    let d = c.in_ok-l.ensures in
    ((d.sound_at _ refl).there, d.built _ refl, omega (arith, length-replicate {A = ℕ} 131072 0))

pub returns-in_err-l : goal.returns-in_err-l
returns-in_err-l c =
    let a = c.args in
    let p = err_from_is_err_and c.from_residual.result c.from_residual.ensures.1 in
    rw (p.1, p.2) (read_refused _ a.capacity (body a.rows.now a.keys.now a.sorts.now) a.pending.now _ _ c.in_err-l.ensures _ refl)

pub returns : goal.returns
returns c =
    let a = c.args in
    let m = c.load.new in
    read_loaded _ a.capacity (body a.rows.now a.keys.now a.sorts.now) a.pending.now _ _ c.in_ok-l.ensures _ refl
    _ (body m.rows m.keys m.sorts) m.pending c.load.ensures
