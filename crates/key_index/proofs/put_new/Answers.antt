use Rattle.key_index.proofs.Prelude.{◌+◌, ◌≡◌, ◌≤◌, refl, arith, length, length-set, slots, spread}
use Rattle.key_index.proofs.ScanSteps.{ScannedSlots, begin, on, on_run}
use Rattle.key_index.proofs.FindSteps.{past_bits}
use Rattle.key_index.proofs.NewPutSteps.{Other, new_put, new_known, new_none}
use Rattle.key_index.proofs.put_new.Goals.{After-next_slot-at, Start}
use Rattle.key_index.proofs.put_new.Goals as goal

few : (s : Start) → s.args.t.rows ≤ 65536
few s = omega (arith, s.requires.0.within)

-- the invariant after one more slot
passed_one : (c : After-next_slot-at)
    → let a = c.args in
    (length c.loop-passed.store ≡ length a.store.now) × (c.loop-passed.store ≡ a.store.now)
    × ScannedSlots (slots a.t) a.store.now (Other a.t a.rows.now a.key.now a.hash) (spread (slots a.t) a.hash) c.next_slot-at.result (c.loop-passed.passed + 1)
passed_one c =
    let l = c.loop-passed in
    let p : Other _ _ _ _ _ = record { taken = c.if-word-eq0.false; past = record { other = c.is_hit.ensures.no c.if-is_hit.false } } in
    (l.invariant.0, l.invariant.1, on _ _ _ _ l.at l.passed _ l.invariant.2 c.loop-passed-test.true (rw l.invariant.1 at p) c.next_slot-at.ensures.value)

pub loop-passed-init : goal.loop-passed-init
loop-passed-init c = (refl, refl, begin _ _ _ _ _ c.home_slot-at.ensures.value c.home_slot-at.ensures.upper_bound)

pub shape_of-store-then-word-eq0 : goal.shape_of-store-then-word-eq0
shape_of-store-then-word-eq0 c = simp length-set c.loop-passed.invariant.0

pub returns-then-word-eq0 : goal.returns-then-word-eq0
returns-then-word-eq0 c =
    let l = c.loop-passed in
    rw l.invariant.1 (new_put _ _ _ _ _ (few (goal.at.returns-then-word-eq0 c).Start) l.at l.passed _ l.invariant.2 c.loop-passed-test.true (rw l.invariant.1 at c.if-word-eq0.true) _ c.slot_word.ensures)

pub is_hit-requires : goal.is_hit-requires
is_hit-requires c = let p = c.requires in (p.0.within, p.1)

pub returns-then-is_hit : goal.returns-then-is_hit
returns-then-is_hit c =
    let l = c.loop-passed in
    new_known _ _ _ _ _ (few (goal.at.returns-then-is_hit c).Start) l.at l.passed _ _ _ l.invariant.2 (rw l.invariant.1 at (c.is_hit.ensures.yes c.if-is_hit.true)) (rw l.invariant.1 at c.if-word-eq0.false)

pub loop-passed-preserved-then-passed-eq0 : goal.loop-passed-preserved-then-passed-eq0
loop-passed-preserved-then-passed-eq0 c =
    let i = passed_one (goal.at.loop-passed-preserved-then-passed-eq0 c).After-next_slot-at in
    let r = rw i.1 at c.skip_other_keys-run.ensures in
    (i.0, i.1, on_run _ _ _ _ _ _ _ i.2 r.taken.below (λ e h. record { taken = r.taken.each e h; past = past_bits _ _ _ _ _ (few (goal.at.loop-passed-preserved-then-passed-eq0 c).Start) (r.others e h) }))

pub loop-passed-preserved : goal.loop-passed-preserved
loop-passed-preserved c = passed_one (goal.at.loop-passed-preserved c).After-next_slot-at

pub returns : goal.returns
returns c = let l = c.loop-passed in new_none _ _ _ _ _ (few (goal.at.returns c).Start) l.at l.passed _ _ l.invariant.2 c.loop-passed-test.false c.requires.0
