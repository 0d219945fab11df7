-- `key_rebuild::renumber::taken_bits` meets its contract. Assumes nothing.
use Rattle.key_rebuild.proofs.Prelude.{◌≡◌, sym, ap, ◌∙◌, arith, bitmap_word, other_at}
use Rattle.key_rebuild.proofs.RenumberSteps.{word_halves}
use Rattle.key_rebuild.proofs.renumber.taken_bits.Goals as goal

pub half_bits-low-requires : goal.half_bits-low-requires
half_bits-low-requires c = omega (arith, c.requires.inside, c.if-count.false)

pub overflow_add-from : goal.overflow_add-from
overflow_add-from c = let p = c.requires in omega (arith, p.inside, c.if-count.false)

pub half_bits-high-requires : goal.half_bits-high-requires
half_bits-high-requires c = let p = c.requires in omega (arith, p.inside, c.if-count.false)

pub returns : goal.returns
returns c =
    let all : c.args.count ≡ 64 = omega (arith, c.requires.few, c.if-count.false) in
    word_halves _ _ _ _ c.half_bits-low.ensures c.half_bits-high.ensures ∙ sym (ap (bitmap_word (other_at c.args.store.now c.args.from 1 0)) all)
