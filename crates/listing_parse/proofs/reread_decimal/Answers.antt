use Rattle.listing_parse.proofs.Prelude.{arith}
use Rattle.levels_text.specs.Laws.Digits.{digits_begin}
use Rattle.listing_parse.proofs.Digits.{reread_inside, reread_small, reread_more, reread_end}
use Rattle.listing_parse.proofs.reread_decimal.Goals as goal

pub loop-at-init : goal.loop-at-init
loop-at-init c = digits_begin _ _

pub bounds-text-at : goal.bounds-text-at
bounds-text-at c = reread_inside _ c.loop-at.invariant c.requires.text_value c.requires.text_in_bounds

pub overflow_mul-value : goal.overflow_mul-value
overflow_mul-value c = omega (arith, reread_small _ c.loop-at.invariant c.requires.text_value c.requires.text_in_bounds c.loop-at-test.true)

pub bounds-text-at-in-loop-at : goal.bounds-text-at-in-loop-at
bounds-text-at-in-loop-at c = reread_inside _ c.loop-at.invariant c.requires.text_value c.requires.text_in_bounds

pub overflow_sub-value : goal.overflow_sub-value
overflow_sub-value c = c.loop-at-test.true

pub overflow_cast-value : goal.overflow_cast-value
overflow_cast-value c = omega (arith, reread_small _ c.loop-at.invariant c.requires.text_value c.requires.text_in_bounds c.loop-at-test.true)

pub overflow_add-value : goal.overflow_add-value
overflow_add-value c = omega (arith, reread_small _ c.loop-at.invariant c.requires.text_value c.requires.text_in_bounds c.loop-at-test.true)

pub loop-at-smaller : goal.loop-at-smaller
loop-at-smaller c = omega (arith, reread_inside _ c.loop-at.invariant c.requires.text_value c.requires.text_in_bounds)

pub loop-at-preserved : goal.loop-at-preserved
loop-at-preserved c = reread_more _ c.loop-at.invariant c.requires.text_value c.requires.text_in_bounds c.loop-at-test.true

pub returns : goal.returns
returns c = reread_end _ c.loop-at.invariant c.requires.text_value c.requires.text_in_bounds c.loop-at-test.false
