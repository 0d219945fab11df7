-- `key_index::look_up` meets its contract. Assumes nothing.
use Rattle.key_index.proofs.Prelude.{◌+◌, ◌%◌, ◌^◌, ◌≤◌, ◌<◌, arith, get_or, rows_in_lem}
use Rattle.key_index.proofs.ScanSteps.{begin}
use Rattle.key_index.proofs.FindSteps.{leads_some, found_free, passed_to, found_row}
use Rattle.key_index.proofs.look_up.Goals.{Start, Then-is_hit, Then-is_hit-2}
use Rattle.key_index.proofs.look_up.Goals as goal

few : (s : Start) → s.args.t.rows ≤ 65536
few s = omega (arith, s.requires.0)

-- the home slot's word names a row
named : (c : Then-is_hit) → 0 < get_or c.args.store.now c.home_slot-home.result 0 % 2 ^ 17
named c = let few : c.args.t.rows ≤ 65536 = omega (arith, c.requires.0) in leads_some _ _ _ _ _ _ few (c.is_hit.ensures.yes c.if-is_hit.true)

-- the word ahead names a row
named_ahead : (c : Then-is_hit-2) → 0 < get_or c.args.store.now (c.home_slot-home.result + c.bits_ahead.result) 0 % 2 ^ 17
named_ahead c = let few : c.args.t.rows ≤ 65536 = omega (arith, c.requires.0) in leads_some _ _ _ _ _ _ few (c.is_hit-2.ensures.yes c.if-is_hit-2.true)

pub is_hit-requires : goal.is_hit-requires
is_hit-requires c = let p = c.requires in (rows_in_lem _ _ _ p.0, p.1)

pub overflow_sub-row : goal.overflow_sub-row
overflow_sub-row c = omega (arith, named (goal.at.overflow_sub-row c).Then-is_hit)

pub returns-then-is_hit : goal.returns-then-is_hit
returns-then-is_hit c =
    let h = c.home_slot-home in
    found_row _ _ _ _ _ (few (goal.at.returns-then-is_hit c).Start) h.result 0 _ (begin _ _ _ _ _ h.ensures.value h.ensures.upper_bound) (c.is_hit.ensures.yes c.if-is_hit.true) (omega (arith, named (goal.at.returns-then-is_hit c).Then-is_hit))

pub returns-then-is_missing : goal.returns-then-is_missing
returns-then-is_missing c =
    let h = c.home_slot-home in
    let f = c.is_missing.ensures c.if-is_missing.true in
    let w = passed_to _ _ _ _ _ (few (goal.at.returns-then-is_missing c).Start) h.result f.0 h.ensures.value (c.is_hit.ensures.no c.if-is_hit.false) f.1.ahead in
    found_free _ _ _ _ _ (few (goal.at.returns-then-is_missing c).Start) _ _ w f.1.free

pub overflow_add-slot : goal.overflow_add-slot
overflow_add-slot c = omega (arith, c.bits_ahead.ensures.below, c.requires.0)

pub overflow_cast-next : goal.overflow_cast-next
overflow_cast-next c = omega (arith, c.bits_ahead.ensures.below, c.requires.0)

pub offset_bounds-store-slot : goal.offset_bounds-store-slot
offset_bounds-store-slot c = omega (arith, c.bits_ahead.ensures.below, c.requires.0)

pub bounds-store-slot : goal.bounds-store-slot
bounds-store-slot c = omega (arith, c.bits_ahead.ensures.below, c.requires.0)

pub is_hit-requires-2 : goal.is_hit-requires-2
is_hit-requires-2 c = let p = c.requires in (rows_in_lem _ _ _ p.0, p.1)

pub overflow_sub-row-then-is_hit-2 : goal.overflow_sub-row-then-is_hit-2
overflow_sub-row-then-is_hit-2 c = omega (arith, named_ahead (goal.at.overflow_sub-row-then-is_hit-2 c).Then-is_hit-2)

pub returns-then-is_hit-2 : goal.returns-then-is_hit-2
returns-then-is_hit-2 c =
    let h = c.home_slot-home in
    let a = c.bits_ahead in
    let w = passed_to _ _ _ _ _ (few (goal.at.returns-then-is_hit-2 c).Start) h.result a.result h.ensures.value (c.is_hit.ensures.no c.if-is_hit.false) a.ensures in
    found_row _ _ _ _ _ (few (goal.at.returns-then-is_hit-2 c).Start) _ _ _ w (c.is_hit-2.ensures.yes c.if-is_hit-2.true) (omega (arith, named_ahead (goal.at.returns-then-is_hit-2 c).Then-is_hit-2))

pub returns : goal.returns
returns c = c.scan.ensures
