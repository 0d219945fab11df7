use Rattle.levels_text.proofs.Prelude.{◌≡◌, ◌+◌, ◌-◌, ◌*◌, ℕ, arith, rules, sym, subst, ◌∙◌, get_or, inl, inr}
use Rattle.levels_text.proofs.Digits.{Read, no_digit, zero_led, value_begin, byte_below, byte_above, value_large, value_more, value_read}
use Rattle.levels_text.proofs.decimal.Goals.{else-field-eq48-via-then-field-eq48+else-field-gt1, else-field-eq48-via-else-field-eq48}
use Rattle.levels_text.proofs.decimal.Goals as goal

pub returns-then-is_empty : goal.returns-then-is_empty
returns-then-is_empty c = sym (no_digit _ (search rules))

pub returns-then-field-gt1 : goal.returns-then-field-gt1
returns-then-field-gt1 c = sym (zero_led _ c.if-field-gt1.true c.if-field-eq48.true)

pub loop-byte-init : goal.loop-byte-init
loop-byte-init c = value_begin _

pub returns-then-not-is_ascii_digit : goal.returns-then-not-is_ascii_digit
returns-then-not-is_ascii_digit c =
    elim c.if-not-is_ascii_digit.ensures.cases [
      | inl low ↦ sym (byte_below c.loop-byte.invariant c.loop-byte-test.true low)
      | inr high ↦ sym (byte_above c.loop-byte.invariant c.loop-byte-test.true high)
    ]

pub returns-in_err-checked_mul : goal.returns-in_err-checked_mul
returns-in_err-checked_mul c =
    c.from_residual.ensures
    ∙ sym (value_large c.loop-byte.invariant c.loop-byte-test.true (omega (arith, c.in_err-checked_mul.ensures)))

pub returns-in_err-value : goal.returns-in_err-value
returns-in_err-value c =
    c.from_residual-in_err-value.ensures
    ∙ sym (value_large c.loop-byte.invariant c.loop-byte-test.true (omega (arith, c.in_err-value.ensures, c.in_ok-checked_mul.ensures, c.from.ensures)))

pub loop-byte-preserved : goal.loop-byte-preserved
loop-byte-preserved c =
    let digit = c.if-not-is_ascii_digit.ensures.cases in
    let sum = c.in_ok-value.ensures in
    let product = c.in_ok-checked_mul.ensures in
    let more : c.in_ok-value.value ≡ 10 * c.loop-byte.value + (get_or c.args.field.now c.loop-byte.byte-index 0 - 48) = omega (arith, c.from.ensures, sum.1, product.1) in
    subst (λ (v : ℕ). Read c.args.field.now v (c.loop-byte.byte-index + 1)) (sym more)
    (value_more c.loop-byte.invariant c.loop-byte-test.true digit.0 digit.1 (omega (arith, more, sum.0, sum.1)))

pub returns : goal.returns
returns c =
    sym (value_read c.loop-byte.invariant c.loop-byte-test.false (omega arith) (search rules)
    (λ long zero. elim c.else-field-eq48.branch [
      | else-field-eq48-via-then-field-eq48+else-field-gt1 w ↦ omega (arith, w.if-field-gt1.false)
      | else-field-eq48-via-else-field-eq48 w ↦ w.if-field-eq48.false zero
    ]))
