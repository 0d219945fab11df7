use Rattle.listing_parse.proofs.Prelude.{sym, ◌∙◌, arith}
use Rattle.levels_text.specs.Laws.Digits.{digits_begin}
use Rattle.listing_parse.proofs.Digits.{decimal_digit, decimal_more, decimal_large, decimal_empty, decimal_zero, decimal_read}
use Rattle.listing_parse.proofs.decimal_at.Goals.{then-text-start-eq48+else-start-at, else-text-start-eq48}
use Rattle.listing_parse.proofs.decimal_at.Goals as goal

pub loop-value-init : goal.loop-value-init
loop-value-init c = (digits_begin _ _, c.requires.start_in_bounds)

pub bounds-text-at : goal.bounds-text-at
bounds-text-at c = c.loop-value.invariant.1

pub overflow_mul-value : goal.overflow_mul-value
overflow_mul-value c = omega (arith, c.loop-value.invariant.0.small)

pub bounds-text-at-in-loop-value : goal.bounds-text-at-in-loop-value
bounds-text-at-in-loop-value c = c.loop-value.invariant.1

pub overflow_sub-value : goal.overflow_sub-value
overflow_sub-value c = (decimal_digit _ c.loop-value.invariant.0 c.loop-value.invariant.1 (sym c.is_digit.ensures ∙ c.loop-value-test.true)).0

pub overflow_cast-value : goal.overflow_cast-value
overflow_cast-value c = let v = c.loop-value.invariant in omega (arith, (decimal_digit _ v.0 v.1 (sym c.is_digit.ensures ∙ c.loop-value-test.true)).1)

pub overflow_add-value : goal.overflow_add-value
overflow_add-value c = let v = c.loop-value.invariant in omega (arith, v.0.small, (decimal_digit _ v.0 v.1 (sym c.is_digit.ensures ∙ c.loop-value-test.true)).1)

pub returns-then-value-gt4294967295 : goal.returns-then-value-gt4294967295
returns-then-value-gt4294967295 c = let v = c.loop-value.invariant in decimal_large _ v.0 v.1 (sym c.is_digit.ensures ∙ c.loop-value-test.true) c.if-value-gt4294967295.true c.no_number.ensures

pub loop-value-smaller : goal.loop-value-smaller
loop-value-smaller c = omega (arith, c.loop-value.invariant.1)

pub loop-value-preserved : goal.loop-value-preserved
loop-value-preserved c = let v = c.loop-value.invariant in decimal_more _ v.0 v.1 (sym c.is_digit.ensures ∙ c.loop-value-test.true) c.requires.text_value c.if-value-gt4294967295.false

pub returns-then-at-start : goal.returns-then-at-start
returns-then-at-start c = let v = c.loop-value.invariant in decimal_empty _ v.0 v.1 (sym c.is_digit.ensures ∙ c.loop-value-test.false) c.if-at-start.true c.no_number-then-at-start.ensures

pub bounds-text-start : goal.bounds-text-start
bounds-text-start c = c.requires.start_in_bounds

pub returns-then-start-at : goal.returns-then-start-at
returns-then-start-at c = let v = c.loop-value.invariant in decimal_zero _ v.0 v.1 (sym c.is_digit.ensures ∙ c.loop-value-test.false) c.if-at-start.false c.if-text-start-eq48.true c.if-start-at.true c.no_number-then-start-at.ensures

pub returns : goal.returns
returns c =
    let v = c.loop-value.invariant in
    decimal_read _ v.0 v.1 (sym c.is_digit.ensures ∙ c.loop-value-test.false) c.if-at-start.false
    (λ zero. elim c.if-text-start-eq48.branch [
      | then-text-start-eq48+else-start-at w ↦ w.if-start-at.false
      | else-text-start-eq48 w ↦ absurd (w.if-text-start-eq48.false zero)
    ])
