use Rattle.image_read.proofs.Prelude.{ℕ, ◌≡◌, refl, ap, ◌∙◌, List, arith, length, take, set, length-take-le}
use Rattle.image_read.proofs.TextSteps.{text_before, text_step, text_end}
use Rattle.image_read.proofs.write_text.Goals as goal

pub loop-i-init : goal.loop-i-init
loop-i-init c = refl

pub byte_at-requires : goal.byte_at-requires
byte_at-requires c =
    let a = c.args in
    let n : length (take a.count a.output.now) ≡ a.count = length-take-le a.count a.output.now c.requires.1 in
    text_before _ a.count _ c.requires.0 (omega (arith, c.loop-i-test.true))

pub loop-i-preserved : goal.loop-i-preserved
loop-i-preserved c =
    let a = c.args in
    let l = c.loop-i in
    let n : length (take a.count a.output.now) ≡ a.count = length-take-le a.count a.output.now c.requires.1 in
    ap (λ (o : List ℕ). set o l.i c.byte_at.result) l.invariant
    ∙ text_step a.words.now a.count c.requires.0 (take a.count a.output.now) l.i _ (omega (arith, c.loop-i-test.true)) (omega arith) c.byte_at.ensures

pub returns : goal.returns
returns c =
    let a = c.args in
    let l = c.loop-i in
    let n : length (take a.count a.output.now) ≡ a.count = length-take-le a.count a.output.now c.requires.1 in
    text_end a.words.now a.count c.requires.0 a.output.now l.i _ c.requires.1 (omega (arith, l.auto.i-end, c.loop-i-test.false)) l.invariant
