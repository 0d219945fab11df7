use Rattle.crc32.proofs.Prelude.{ℕ, refl, sym, ap, ◌∙◌, ◌*◌, ◌/◌, ◌≡◌, foldl, arith, length, drop}
use Rattle.crc32.specs.Crc.{byte_step, bytes_of}
use Rattle.crc32.proofs.Words.{pair_next, word_next, none_left}
use Rattle.crc32.proofs.after_words.Goals as goal

pub loop-pair-init : goal.loop-pair-init
loop-pair-init c = refl

pub loop-pair-preserved : goal.loop-pair-preserved
loop-pair-preserved c =
    let l = c.loop-pair in
    let k = c.as_chunks.ensures in
    let half : length c.as_chunks.result.0.now ≡ length c.args.words.now / 2 = k.front_len in
    l.invariant
    ∙ pair_next c.args.words.now _ (length c.args.words.now / 2) l.pair-index l.register k.front (omega (arith, c.loop-pair-test.true, half)) (omega arith)
    ∙ rw c.after_two-register.ensures

pub loop-word-init : goal.loop-word-init
loop-word-init c =
    let l = c.loop-pair in
    let k = c.as_chunks.ensures in
    let half : length c.as_chunks.result.0.now ≡ length c.args.words.now / 2 = k.front_len in
    let e : l.pair-index ≡ length c.args.words.now / 2 = omega (arith, c.loop-pair-test.false, l.auto.pair-index-end, half) in
    l.invariant ∙ ap (λ (i : ℕ). foldl byte_step l.register (bytes_of (drop (i * 2) c.args.words.now))) e ∙ rw k.back

pub loop-word-preserved : goal.loop-word-preserved
loop-word-preserved c =
    let l = c.loop-word in l.invariant ∙ word_next _ l.word-index l.register c.loop-word-test.true ∙ rw c.after_word-register.ensures

pub returns : goal.returns
returns c = let l = c.loop-word in sym (l.invariant ∙ none_left _ l.word-index l.register c.loop-word-test.false)
