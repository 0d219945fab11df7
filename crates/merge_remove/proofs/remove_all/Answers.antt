use Rattle.merge_remove.proofs.Prelude.{arith, rules}
use Rattle.merge_remove.proofs.PassRemovals.{removing_begin, removing_long, removing_requires, removing_passes, removing_again, removing_end, died_counted}
use Rattle.merge_remove.proofs.remove_all.Goals as goal

pub record_length-requires : goal.record_length-requires
record_length-requires c = omega (arith, c.requires.fits, c.requires.pending_fits, c.loop-words.invariant.inside)

pub loop-words-init : goal.loop-words-init
loop-words-init c = removing_begin c.requires

pub remove_next-died-requires : goal.remove_next-died-requires
remove_next-died-requires c = removing_requires c.requires c.loop-words.invariant c.in-Some.ensures

pub overflow_add-dead : goal.overflow_add-dead
overflow_add-dead c =
    let p = c.requires in
    let v = c.loop-words.invariant in
    let here = c.in-Some.ensures in
    omega (arith, p.dead_few, v.few, removing_long p v here, here.inside, c.remove_next-died.ensures.few, c.from-dead.ensures, died_counted c.remove_next-died.result)

pub next_record-at-requires : goal.next_record-at-requires
next_record-at-requires c = removing_passes c.requires c.loop-words.invariant c.in-Some.ensures

pub loop-words-smaller : goal.loop-words-smaller
loop-words-smaller c =
    let n = c.next_record-at.ensures in
    omega (arith, c.in-Some.ensures.some, n.on, n.inside)

pub loop-words-preserved : goal.loop-words-preserved
loop-words-preserved c =
    rw (c.from-dead.ensures, died_counted _)
    (removing_again c.requires c.loop-words.invariant c.in-Some.ensures c.remove_next-died.ensures c.next_record-at.ensures (search rules) (search rules))

pub shape_of-rows : goal.shape_of-rows
shape_of-rows c = c.loop-words.invariant.rows_same

pub shape_of-keys : goal.shape_of-keys
shape_of-keys c = c.loop-words.invariant.keys_same

pub returns : goal.returns
returns c = removing_end c.requires c.loop-words.invariant c.in_default.ensures
