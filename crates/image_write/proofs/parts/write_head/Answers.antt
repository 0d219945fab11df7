-- `image_write::parts::write_head` meets its contract. Assumes nothing.
use Rattle.image_write.proofs.Prelude.{ℕ, ◌≡◌, ap, ◌∙◌, List, arith, length, set, length-set, splice, length_header, head_written}
use Rattle.image_write.proofs.parts.write_head.Goals as goal

pub bounds-output-1 : goal.bounds-output-1
bounds-output-1 c = simp length-set (omega arith)

pub write_row-requires : goal.write_row-requires
write_row-requires c =
    let n : length c.encode_header-header.result ≡ 12 = ap length c.encode_header-header.ensures ∙ length_header c.args.h in
    simp length-set (omega (arith, n, c.requires.1))

pub shape_of-output : goal.shape_of-output
shape_of-output c = simp length-set (c.write_row.auto.rows ∙ simp length-set)

pub returns : goal.returns
returns c =
    let a = c.args in
    ap (λ (x : List ℕ). set x 14 a.text) c.write_row.ensures
    ∙ ap (λ (x : List ℕ). set (splice (set (set a.output.now 0 1112819533) 1 1) 2 x) 14 a.text) c.encode_header-header.ensures
    ∙ head_written a.output.now a.h a.text (omega arith)
