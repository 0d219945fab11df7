-- `row_buffer::write_row` meets its contract: the effect of the copier on its part, stated for the whole store. Assumes nothing.
use Rattle.row_buffer.proofs.Prelude.{◌-◌, ap, ◌∙◌, length, put_mid, put_part}
use Rattle.row_buffer.proofs.write_row.Goals as goal

pub returns : goal.returns
returns c =
    let a = c.args in
    ap (put_mid a.at (length a.rows.now - a.at) a.rows.now) c.copy_row.ensures
    ∙ put_part a.rows.now a.row.now a.at
