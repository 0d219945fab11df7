use Rattle.key_check.proofs.Prelude.{ℕ, ◌+◌, ◌≡◌, refl, sym, ap, ◌∙◌, arith, tally_yes, tally_no, tally_le, is_taken_lem, not_taken}
use Rattle.key_check.specs.inner.Check.{tally, is_taken}
use Rattle.key_check.proofs.count_taken.Goals as goal

pub loop-slot-init : goal.loop-slot-init
loop-slot-init c = (omega arith, unfold tally in refl)

pub overflow_add-taken : goal.overflow_add-taken
overflow_add-taken c =
    let l = c.loop-slot in
    omega (arith, l.invariant.1, tally_le (is_taken c.args.store.now) l.slot, c.loop-slot-test.true)

pub loop-slot-preserved-then-word-gt0 : goal.loop-slot-preserved-then-word-gt0
loop-slot-preserved-then-word-gt0 c =
    (omega arith, ap (λ (n : ℕ). n + 1) c.loop-slot.invariant.1 ∙ sym (tally_yes _ _ (is_taken_lem c.args.store.now _ c.if-word-gt0.true)))

pub loop-slot-preserved : goal.loop-slot-preserved
loop-slot-preserved c = (omega arith, c.loop-slot.invariant.1 ∙ sym (tally_no _ _ (not_taken c.args.store.now _ c.if-word-gt0.false)))

pub returns : goal.returns
returns c =
    let l = c.loop-slot in
    let e : l.slot ≡ c.args.n = omega (arith, l.invariant.0, c.loop-slot-test.false) in
    l.invariant.1 ∙ ap (tally _) e
