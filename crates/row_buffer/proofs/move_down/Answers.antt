-- `row_buffer::move_down` meets its contract: the effect of the copier on its part, stated for the whole store. Assumes nothing.
use Rattle.row_buffer.proofs.Prelude.{◌-◌, ap, ◌∙◌, length, put_mid}
use Rattle.row_buffer.proofs.Laws.{moved_part, moved_nowhere}
use Rattle.row_buffer.proofs.move_down.Goals as goal

pub returns-then-to-from : goal.returns-then-to-from
returns-then-to-from c = moved_nowhere _ _ _ _ c.if-to-from.true c.requires.1

pub returns : goal.returns
returns c =
    let a = c.args in
    ap (put_mid a.to (length a.rows.now - a.to) a.rows.now) c.move_row.ensures
    ∙ moved_part a.rows.now a.to a.from a.width c.requires.0 c.requires.1
