-- `listing_parse::first_line` meets its contract. Assumes nothing.
use Rattle.listing_spec.specs.Listings.{head_letter, head_width}
use Rattle.listing_parse.proofs.Prelude.{arith, rules}
use Rattle.listing_parse.proofs.Digits.{ends_some}
use Rattle.listing_parse.proofs.first_line.Goals as goal

pub line_at-requires : goal.line_at-requires
unfolding head_letter head_width
line_at-requires c = let p = c.requires in record { start_in_bounds = ends_some _ p.text_value; text_value = p.text_value; lt_letter = (omega arith, omega arith); width_in_bounds = omega (arith, p.in_bounds) }

pub shape_of-numbers-then-numbered : goal.shape_of-numbers-then-numbered
unfolding head_letter head_width
shape_of-numbers-then-numbered c = search rules

pub returns-then-numbered : goal.returns-then-numbered
unfolding head_letter head_width
returns-then-numbered c = rw c.if-numbered.true c.line_at.ensures

pub line_at-requires-2 : goal.line_at-requires-2
unfolding head_letter head_width
line_at-requires-2 c = let p = c.requires in record { start_in_bounds = ends_some _ p.text_value; text_value = p.text_value; lt_letter = (omega arith, omega arith); width_in_bounds = omega (arith, p.in_bounds) }

pub shape_of-numbers : goal.shape_of-numbers
unfolding head_letter head_width
shape_of-numbers c = search rules

pub returns : goal.returns
unfolding head_letter head_width
returns c = rw c.if-numbered.false c.line_at-2.ensures
