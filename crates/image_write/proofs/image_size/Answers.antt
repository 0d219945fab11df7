-- `image_write::image_size` meets its contract. Assumes nothing.
use Rattle.std.proofs.lemmas.Result.{err_from_is_err_and}
use Rattle.image_write.proofs.Prelude.{sym, size_accepted}
use Rattle.image_write.proofs.Answers.{sized_refused, sized_accepted}
use Rattle.image_write.proofs.image_size.Goals as goal

pub returns-in_err-check_size : goal.returns-in_err-check_size
returns-in_err-check_size c =
    let p = err_from_is_err_and c.from_residual.result c.from_residual.ensures.1 in
    rw (p.1, p.2) (sized_refused _ _ _ c.in_err-check_size.ensures)

pub image_length-requires : goal.image_length-requires
image_length-requires c = size_accepted _ _ (sym c.in_ok-check_size.ensures)

pub returns : goal.returns
returns c = sized_accepted _ _ _ (sym c.in_ok-check_size.ensures) c.image_length.ensures
