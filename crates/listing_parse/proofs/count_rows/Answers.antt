use Rattle.listing_parse.proofs.Prelude.{arith, rules}
use Rattle.listing_parse.proofs.Counting.{counting_begin, counting_full, counting_wrong, counting_more, counting_end}
use Rattle.listing_parse.proofs.count_rows.Goals as goal

pub loop-at-init : goal.loop-at-init
loop-at-init c = counting_begin _ _ _ _ _ _ c.requires.start_in_bounds

pub shape_of-numbers-then-rows-eq-MOST_ROWS : goal.shape_of-numbers-then-rows-eq-MOST_ROWS
shape_of-numbers-then-rows-eq-MOST_ROWS c = c.loop-at.invariant.same

pub returns-then-rows-eq-MOST_ROWS : goal.returns-then-rows-eq-MOST_ROWS
returns-then-rows-eq-MOST_ROWS c = counting_full _ _ _ _ _ _ c.loop-at.invariant c.loop-at-test.true c.if-rows-eq-MOST_ROWS.true

pub row_at-at-requires : goal.row_at-at-requires
row_at-at-requires c =
    let p = c.requires in
    record { le_columns = p.le_columns; start_in_bounds = c.loop-at-test.true; text_value = p.text_value; in_bounds = omega (arith, c.loop-at.invariant.same, p.in_bounds) }

pub returns-then-at-eq0 : goal.returns-then-at-eq0
returns-then-at-eq0 c = counting_wrong _ _ _ _ _ _ c.loop-at.invariant c.row_at-at.ensures c.if-at-eq0.true

pub loop-at-smaller : goal.loop-at-smaller
loop-at-smaller c = let f = c.row_at-at.ensures.found (search rules) in omega (arith, f.forward, f.inside)

pub loop-at-preserved : goal.loop-at-preserved
loop-at-preserved c = counting_more _ _ _ _ _ _ c.loop-at.invariant c.if-rows-eq-MOST_ROWS.false (c.row_at-at.ensures.found (search rules)) (search rules)

pub shape_of-numbers : goal.shape_of-numbers
shape_of-numbers c = c.loop-at.invariant.same

pub returns : goal.returns
returns c = counting_end _ _ _ _ _ _ c.loop-at.invariant c.loop-at-test.false
