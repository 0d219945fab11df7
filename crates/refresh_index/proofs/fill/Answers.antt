use Rattle.refresh_index.proofs.Prelude.{◌≡◌, suc-mul, add-one, arith}
use Rattle.refresh_index.proofs.Fills.{push_then}
use Rattle.refresh_index.proofs.Fronts.{filled}
use Rattle.refresh_index.proofs.fill.Goals as goal

pub loop-row-preserved : goal.loop-row-preserved
loop-row-preserved c = push_then c.loop-row.invariant (rw (add-one, suc-mul) c.push_live.ensures)

pub returns : goal.returns
returns c =
    let l = c.loop-row in
    let e : l.row ≡ c.args.h.rows = omega arith in
    filled _ _ _ _ _ _ _ _ c.requires.0 l.auto.index (rw e at l.invariant) c.write_front.ensures
