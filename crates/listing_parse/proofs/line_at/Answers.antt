use Rattle.listing_parse.proofs.Prelude.{arith, rules}
use Rattle.listing_parse.proofs.Digits.{goes_on}
use Rattle.listing_parse.proofs.Lines.{reading_begin, reading_more, line_letter, line_comma_missing, line_no_decimal, line_newline_missing, line_found}
use Rattle.listing_parse.proofs.line_at.Goals as goal

pub bounds-text-start : goal.bounds-text-start
bounds-text-start c = c.requires.start_in_bounds

pub returns-then-text-start : goal.returns-then-text-start
returns-then-text-start c = line_letter _ _ _ _ _ c.requires.start_in_bounds c.if-text-start.true

pub loop-count-init : goal.loop-count-init
loop-count-init c =
    let p = c.requires in
    reading_begin _ _ _ _ _ p.start_in_bounds p.lt_letter.0 p.lt_letter.1 p.width_in_bounds c.if-text-start.false
    (goes_on _ _ p.start_in_bounds p.text_value (λ e. omega (arith, e, c.if-text-start.false, p.lt_letter.0)))

pub bounds-text-at : goal.bounds-text-at
bounds-text-at c = c.loop-count.invariant.passed.inside

pub shape_of-numbers-then-text-at-ne44 : goal.shape_of-numbers-then-text-at-ne44
shape_of-numbers-then-text-at-ne44 c = c.loop-count.invariant.same

pub returns-then-text-at-ne44 : goal.returns-then-text-at-ne44
returns-then-text-at-ne44 c = line_comma_missing c.loop-count.invariant c.loop-count-test.true c.if-text-at-ne44.true

pub decimal_at-number-requires : goal.decimal_at-number-requires
decimal_at-number-requires c = let p = c.requires in record { start_in_bounds = goes_on _ _ c.loop-count.invariant.passed.inside p.text_value (λ e. omega (arith, e, c.if-text-at-ne44.false)); text_value = p.text_value }

pub shape_of-numbers-then-number-eq0 : goal.shape_of-numbers-then-number-eq0
shape_of-numbers-then-number-eq0 c = c.loop-count.invariant.same

pub returns-then-number-eq0 : goal.returns-then-number-eq0
returns-then-number-eq0 c = line_no_decimal c.loop-count.invariant c.loop-count-test.true c.if-text-at-ne44.false (c.decimal_at-number.ensures.wrong c.if-number-eq0.true)

pub offset_bounds-numbers-count : goal.offset_bounds-numbers-count
offset_bounds-numbers-count c = omega (arith, c.loop-count-test.true, c.requires.lt_letter.1)

pub bounds-numbers-count : goal.bounds-numbers-count
bounds-numbers-count c = omega (arith, c.loop-count.invariant.room, c.loop-count.invariant.same, c.loop-count-test.true)

pub loop-count-preserved : goal.loop-count-preserved
loop-count-preserved c = reading_more c.loop-count.invariant c.loop-count-test.true c.if-text-at-ne44.false _ (c.decimal_at-number.ensures.found (search rules))

pub bounds-text-at-2 : goal.bounds-text-at-2
bounds-text-at-2 c = c.loop-count.invariant.passed.inside

pub shape_of-numbers-then-text-at-ne10 : goal.shape_of-numbers-then-text-at-ne10
shape_of-numbers-then-text-at-ne10 c = c.loop-count.invariant.same

pub returns-then-text-at-ne10 : goal.returns-then-text-at-ne10
returns-then-text-at-ne10 c = line_newline_missing c.loop-count.invariant c.loop-count-test.false c.if-text-at-ne10.true

pub shape_of-numbers : goal.shape_of-numbers
shape_of-numbers c = c.loop-count.invariant.same

pub returns : goal.returns
returns c = line_found c.loop-count.invariant c.loop-count-test.false c.if-text-at-ne10.false
