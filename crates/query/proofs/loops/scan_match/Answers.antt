-- `query::loops::scan_match` meets its contract. Assumes nothing.
use Rattle.std.proofs.lemmas.Result.{err_from_is_err_and}
use Rattle.query.proofs.Prelude.{refl, scanned_all}
use Rattle.query.proofs.loops.scan_match.Goals as goal

pub returns-in_err-begun : goal.returns-in_err-begun
returns-in_err-begun c =
    let p = err_from_is_err_and c.from_residual.result c.from_residual.ensures.1 in
    rw (p.1, p.2) ((c.in_err-begun.ensures _) _ c.are_known-known.ensures, refl)

pub scan-requires : goal.scan-requires
scan-requires c = (c.in_ok-begun.ensures _).can_start _ refl

pub returns : goal.returns
returns c = scanned_all _ _ _ _ _ _ _ _ c.are_known-known.ensures (c.in_ok-begun.ensures _) _ _ c.scan.ensures
