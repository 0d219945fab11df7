-- `image_write::write_image` meets its contract. Assumes nothing.
use Rattle.std.proofs.lemmas.Result.{err_from_is_err_and}
use Rattle.image_write.proofs.Prelude.{◌+◌, ◌-◌, ◌≡◌, sym, arith, length, image_length, write_refusal, image_written, length_is, Accepted, write_accepted, accepted_holds}
use Rattle.image_write.proofs.Answers.{written_refused, written_accepted}
use Rattle.image_write.proofs.write_image.Goals.{In_ok-check_write}
use Rattle.image_write.proofs.write_image.Goals as goal

-- what holds once nothing is refused
none : (c : In_ok-check_write) → let a = c.args in
    write_refusal a.h (length a.rows.now) (length a.sorts.now) (length a.pending.now) (length a.text.now) (length a.output.now) ≡ 0
none c = sym c.in_ok-check_write.ensures

accepted : (c : In_ok-check_write) → let a = c.args in
    Accepted a.h (length a.rows.now) (length a.sorts.now) (length a.pending.now) (length a.text.now) (length a.output.now)
accepted c = write_accepted _ _ _ _ _ _ (none c)

pub returns-in_err-check_write : goal.returns-in_err-check_write
returns-in_err-check_write c =
    let a = c.args in
    let p = err_from_is_err_and c.from_residual.result c.from_residual.ensures.1 in
    rw (p.1, p.2) (written_refused a.h a.rows.now a.sorts.now a.pending.now a.text.now a.output.now _ c.in_err-check_write.ensures)

pub image_length-length-requires : goal.image_length-length-requires
image_length-length-requires c = let k = accepted c in (k.inside, k.text_short)

pub write_body-requires : goal.write_body-requires
write_body-requires c =
    let a = c.args in
    let k = accepted (goal.at.write_body-requires c).In_ok-check_write in
    let room = k.room in (accepted_holds a.h a.rows.now a.sorts.now a.pending.now _ _ k, k.text_short, omega (arith, room, length_is a.h (length a.text.now)))

pub overflow_sub-length : goal.overflow_sub-length
overflow_sub-length c =
    let a = c.args in
    omega (arith, c.image_length-length.ensures, length_is a.h (length a.text.now))

pub write_checksum-requires : goal.write_checksum-requires
write_checksum-requires c =
    let a = c.args in
    omega (arith, c.image_length-length.ensures, length_is a.h (length a.text.now), (accepted (goal.at.write_checksum-requires c).In_ok-check_write).room, c.write_body.auto)

pub returns : goal.returns
returns c =
    let a = c.args in
    let k = accepted (goal.at.returns c).In_ok-check_write in
    let n = c.image_length-length.result - 1 in
    let m : n + 1 ≡ image_length a.h (length a.text.now) = omega (arith, c.image_length-length.ensures, length_is a.h (length a.text.now)) in
    written_accepted a.h a.rows.now a.sorts.now a.pending.now a.text.now a.output.now _ _ (none (goal.at.returns c).In_ok-check_write) c.image_length-length.ensures
    (image_written a.h a.rows.now a.sorts.now a.pending.now (accepted_holds a.h a.rows.now a.sorts.now a.pending.now _ _ k) a.text.now a.output.now n m k.room
    c.write_body.ensures c.write_checksum.ensures)
