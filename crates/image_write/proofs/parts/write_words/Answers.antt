-- `image_write::parts::write_words` meets its contract. Assumes nothing.
use Rattle.image_write.proofs.Prelude.{◌≡◌, sym, arith, length, take, length-take-le}
use Rattle.image_write.proofs.parts.write_words.Goals as goal

pub slice_bounds-write_row-end : goal.slice_bounds-write_row-end
slice_bounds-write_row-end c = sym (length-take-le _ _ (omega arith))

pub write_row-requires : goal.write_row-requires
write_row-requires c =
    let n : length (take c.args.count c.args.store.now) ≡ c.args.count = length-take-le _ _ c.requires.0 in
    omega (arith, c.requires.1)
