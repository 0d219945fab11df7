use Rattle.listing_parse.proofs.Prelude.{refl, arith}
use Rattle.listing_parse.proofs.Lines.{rereading_line, reading_comma, reading_decimal, reading_inside, reading_again, line_again}
use Rattle.listing_parse.proofs.reread_line.Goals as goal

pub loop-count-init : goal.loop-count-init
loop-count-init c = let p = c.requires in rereading_line _ _ _ _ _ p.start_in_bounds (omega arith) p.width_bound p.width_in_bounds p.text_value

pub reread_decimal-number-requires : goal.reread_decimal-number-requires
reread_decimal-number-requires c =
    let r = c.loop-count.invariant in
    let good = c.requires.text_value in
    let less = c.loop-count-test.true in
    let comma = reading_comma r less good in
    record { text_value = reading_decimal r less comma good; text_in_bounds = reading_inside r less comma good }

pub offset_bounds-numbers-count : goal.offset_bounds-numbers-count
offset_bounds-numbers-count c = omega (arith, c.loop-count-test.true, c.requires.width_bound)

pub bounds-numbers-count : goal.bounds-numbers-count
bounds-numbers-count c = omega (arith, c.loop-count.invariant.room, c.loop-count.invariant.same, c.loop-count-test.true)

pub loop-count-preserved : goal.loop-count-preserved
loop-count-preserved c =
    let r = c.loop-count.invariant in
    let good = c.requires.text_value in
    let less = c.loop-count-test.true in
    reading_again r less (reading_comma r less good) good _ c.reread_decimal-number.ensures

pub shape_of-numbers : goal.shape_of-numbers
shape_of-numbers c = c.loop-count.invariant.same

pub returns : goal.returns
returns c = line_again c.loop-count.invariant c.loop-count-test.false refl c.requires.text_value
