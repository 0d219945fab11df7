use Rattle.key_index.proofs.Prelude.{◌+◌, ◌≤◌, arith, slots, spread, rows_in_lem}
use Rattle.key_index.proofs.ScanSteps.{ScannedSlots, begin, on, on_run}
use Rattle.key_index.proofs.FindSteps.{Past, past_bits, leads_some, found_free, found_round, found_row}
use Rattle.key_index.proofs.scan.Goals.{After-next_slot-at, Start}
use Rattle.key_index.proofs.scan.Given.{Over}
use Rattle.key_index.proofs.scan.Goals as goal

few : (g : Over) (s : Start g) → s.args.t.rows ≤ 65536
few g s = omega (arith, s.requires)

-- the invariant after one more slot
passed_one : (g : Over) (c : After-next_slot-at g)
    → let a = c.args in
    ScannedSlots (slots a.t) a.store.now (Past a.t a.rows.now a.key.now a.hash) (spread (slots a.t) a.hash) c.next_slot-at.result (c.loop-passed.passed + 1)
passed_one g c =
    let l = c.loop-passed in
    let p : Past _ _ _ _ _ = record { other = c.is_hit.ensures.no c.if-is_hit.false } in
    on _ _ _ _ l.at l.passed _ l.invariant c.loop-passed-test.true p c.next_slot-at.ensures.value

pub loop-passed-init : goal.loop-passed-init
loop-passed-init g c = begin _ _ _ _ _ c.home_slot-at.ensures.value c.home_slot-at.ensures.upper_bound

pub returns-then-word-eq0 : goal.returns-then-word-eq0
returns-then-word-eq0 g c = let l = c.loop-passed in found_free _ _ _ _ _ (few g (goal.at.returns-then-word-eq0 g c).Start) l.at l.passed l.invariant c.if-word-eq0.true

pub is_hit-requires : goal.is_hit-requires
is_hit-requires g c = let p = c.requires in (rows_in_lem _ _ _ p.0, p.1)

pub overflow_sub-row : goal.overflow_sub-row
overflow_sub-row g c = omega (arith, leads_some _ _ _ _ _ _ (few g (goal.at.overflow_sub-row g c).Start) (c.is_hit.ensures.yes c.if-is_hit.true))

pub returns-then-is_hit : goal.returns-then-is_hit
returns-then-is_hit g c =
    let l = c.loop-passed in
    found_row _ _ _ _ _ (few g (goal.at.returns-then-is_hit g c).Start) l.at l.passed _ l.invariant (c.is_hit.ensures.yes c.if-is_hit.true) (omega arith)

pub loop-passed-preserved-then-passed-eq0 : goal.loop-passed-preserved-then-passed-eq0
loop-passed-preserved-then-passed-eq0 g c =
    let r = c.skip_other_keys-run.ensures in
    on_run _ _ _ _ _ _ _ (passed_one g (goal.at.loop-passed-preserved-then-passed-eq0 g c).After-next_slot-at) r.taken.below (λ e h. past_bits _ _ _ _ _ (few g (goal.at.loop-passed-preserved-then-passed-eq0 g c).Start) (r.others e h))

pub loop-passed-preserved : goal.loop-passed-preserved
loop-passed-preserved g c = passed_one g (goal.at.loop-passed-preserved g c).After-next_slot-at

pub returns : goal.returns
returns g c = let l = c.loop-passed in found_round _ _ _ _ _ (few g (goal.at.returns g c).Start) l.at l.passed l.invariant c.loop-passed-test.false
