use Rattle.merge_insert.proofs.Prelude.{arith, rules}
use Rattle.merge_insert.proofs.PassInserts.{filling_begin, filling_requires, filling_again, filling_stop, filling_end}
use Rattle.merge_insert.proofs.insert_all.Goals as goal

pub first_place-at-requires : goal.first_place-at-requires
first_place-at-requires c = let p = c.requires in omega (arith, p.fits, p.pending_fits)

pub record_length-requires : goal.record_length-requires
record_length-requires c = let p = c.requires in omega (arith, p.fits, p.pending_fits, c.loop-words.invariant.inside)

pub loop-words-init : goal.loop-words-init
loop-words-init c = filling_begin c.requires c.first_place-at.ensures

pub insert_next-requires : goal.insert_next-requires
insert_next-requires c = filling_requires c.requires c.loop-words.invariant c.in-Some.ensures

pub returns-in-Err : goal.returns-in-Err
returns-in-Err c = filling_stop c.requires c.loop-words.invariant c.in-Some.ensures c.in-Err.ensures

pub overflow_add-at : goal.overflow_add-at
overflow_add-at c = omega (arith, c.in-Some.ensures.fits)

pub loop-words-smaller : goal.loop-words-smaller
loop-words-smaller c = omega (arith, c.in-Some.ensures.some, c.in-Some.ensures.inside)

pub loop-words-preserved : goal.loop-words-preserved
loop-words-preserved c =
    filling_again c.requires c.loop-words.invariant c.in-Some.ensures c.in-Ok.ensures (search rules) (search rules) (search rules)

pub shape_of-rows : goal.shape_of-rows
shape_of-rows c = c.loop-words.invariant.rows_same

pub shape_of-keys : goal.shape_of-keys
shape_of-keys c = c.loop-words.invariant.keys_same

pub shape_of-sorts : goal.shape_of-sorts
shape_of-sorts c = c.loop-words.invariant.sorts_same

pub returns : goal.returns
returns c = filling_end c.requires c.loop-words.invariant c.in_default.ensures
