use Rattle.key_index.proofs.Prelude.{◌+◌, ◌≡◌, refl, length, length-set, slots, spread}
use Rattle.key_index.proofs.ScanSteps.{ScannedSlots, begin_past, on, on_run}
use Rattle.key_index.proofs.PutSteps.{put_here, put_none}
use Rattle.key_index.proofs.WindowSteps.{Taken}
use Rattle.key_index.proofs.put.Goals.{After-next_slot-place}
use Rattle.key_index.proofs.put.Goals as goal

-- the invariant after one more slot
passed_one : (c : After-next_slot-place)
    → let a = c.args in
    (length c.loop-taken.store ≡ length a.store.now) × (c.loop-taken.store ≡ a.store.now)
    × ScannedSlots (slots a.t) a.store.now Taken (spread (slots a.t) a.hash) c.next_slot-place.result (c.loop-taken.taken + 1)
passed_one c = (
  c.loop-taken.invariant.0,
  c.loop-taken.invariant.1,
  on _ _ _ _ c.loop-taken.place c.loop-taken.taken _ c.loop-taken.invariant.2 c.loop-taken-test.true (rw c.loop-taken.invariant.1 at c.if-store-place-eq0.false) c.next_slot-place.ensures.value,
)

pub loop-taken-init : goal.loop-taken-init
loop-taken-init c = let r = c.taken_run-taken.ensures in (refl, refl, begin_past _ _ _ _ _ _ c.home_slot-home.ensures.value r.below r.each)

pub shape_of-store-then-store-place-eq0 : goal.shape_of-store-then-store-place-eq0
shape_of-store-then-store-place-eq0 c = simp length-set c.loop-taken.invariant.0

pub returns-then-store-place-eq0 : goal.returns-then-store-place-eq0
returns-then-store-place-eq0 c =
    let e = c.loop-taken.invariant.1 in
    rw e (put_here _ _ _ _ c.loop-taken.place c.loop-taken.taken c.loop-taken.invariant.2 c.loop-taken-test.true (rw e at c.if-store-place-eq0.true) _ c.slot_word.ensures)

pub loop-taken-preserved-then-taken-eq0 : goal.loop-taken-preserved-then-taken-eq0
loop-taken-preserved-then-taken-eq0 c =
    let i = passed_one (goal.at.loop-taken-preserved-then-taken-eq0 c).After-next_slot-place in
    let r = rw i.1 at c.skip_taken-run.ensures in
    (i.0, i.1, on_run _ _ _ _ _ _ _ i.2 r.below r.each)

pub loop-taken-preserved : goal.loop-taken-preserved
loop-taken-preserved c = passed_one (goal.at.loop-taken-preserved c).After-next_slot-place

pub returns : goal.returns
returns c = let l = c.loop-taken in rw l.invariant.1 (put_none _ _ _ _ l.place l.taken l.invariant.2 c.loop-taken-test.false)
