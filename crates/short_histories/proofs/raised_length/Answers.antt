-- `short_histories::raised_length` meets its contract. Assumes nothing.
use Rattle.short_histories.proofs.Prelude.{ℕ, length, ap, ◌∙◌, sym, arith, known_short}
use Rattle.short_histories.specs.inner.Raised.{raised}
use Rattle.short_histories.proofs.RaisingSteps.{length_longer, length_same}
use Rattle.short_histories.proofs.raised_length.Goals as goal

pub overflow_add-result : goal.overflow_add-result
overflow_add-result c = omega (arith, known_short _ c.requires.is_known)

pub returns-then-end-eq0 : goal.returns-then-end-eq0
returns-then-end-eq0 c = length_longer c.args.sequence.now ∙ ap (λ (n : ℕ). length (raised c.args.sequence.now n)) (sym c.if-end-eq0.true)

pub returns : goal.returns
returns c = length_same _ _ (omega (arith, c.if-end-eq0.false)) c.requires.ended.inside
