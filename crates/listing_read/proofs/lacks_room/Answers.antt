-- `listing_read::lacks_room` meets its contract. Assumes nothing.
use Rattle.listing_read.proofs.Prelude.{arith, length_field}
use Rattle.listing_read.proofs.Lengths.{numbers_few, fields_sum}
use Rattle.listing_read.proofs.Answers.{length_back, length_under, length_forth}
use Rattle.listing_read.proofs.lacks_room.Goals as goal

pub overflow_add-fields : goal.overflow_add-fields
overflow_add-fields c = omega (arith, c.numbers_length.ensures, c.number_length.ensures, length_field c.args.rows, numbers_few c.args.rows, c.requires.rows_bound)

pub overflow_sub-result : goal.overflow_sub-result
overflow_sub-result c = omega (arith, c.requires.rows_bound_2 c.if-numbered.true, fields_sum c.args.rows c.number_length.ensures c.numbers_length.ensures)

pub returns-then-numbered : goal.returns-then-numbered
returns-then-numbered c = length_back _ _ _ _ (fields_sum _ c.number_length.ensures c.numbers_length.ensures) c.if-numbered.true

pub returns-then-output-text : goal.returns-then-output-text
returns-then-output-text c = length_under _ _ _ _ (fields_sum _ c.number_length.ensures c.numbers_length.ensures) c.if-numbered.false c.if-output-text.true

pub returns : goal.returns
returns c = length_forth _ _ _ _ (fields_sum _ c.number_length.ensures c.numbers_length.ensures) c.if-numbered.false c.if-output-text.false
