-- `listing_read::read_numbered` meets its contract. Assumes nothing.
use Rattle.std.proofs.lemmas.Result.{err_from_is_err_and}
use Rattle.listing_read.proofs.Reading.{numbered_refused, numbered_found}
use Rattle.listing_read.proofs.read_numbered.Goals as goal

pub returns-in_err-s : goal.returns-in_err-s
returns-in_err-s c =
    let p = err_from_is_err_and c.from_residual.result c.from_residual.ensures.1 in
    rw (p.1, p.2) (numbered_refused _ c.in_err-s.ensures)

pub returns : goal.returns
returns c = numbered_found _ c.in_ok-s.ensures
