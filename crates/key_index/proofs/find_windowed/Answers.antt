-- `key_index::find_windowed` meets its contract. Assumes nothing.
use Rattle.key_index.proofs.Prelude.{◌≤◌, arith}
use Rattle.key_index.proofs.WordSteps.{leads_bits}
use Rattle.key_index.proofs.FindSteps.{found_free, passed_to}
use Rattle.key_index.proofs.find_windowed.Goals.{Start}
use Rattle.key_index.proofs.find_windowed.Goals as goal

few : (s : Start) → s.args.t.rows ≤ 65536
few s = omega (arith, s.requires.0)

pub returns-then-is_absent : goal.returns-then-is_absent
returns-then-is_absent c =
    let h = c.home_slot-home in
    let f = c.is_absent.ensures c.if-is_absent.true in
    let w = passed_to _ _ _ _ _ (few (goal.at.returns-then-is_absent c).Start) h.result f.1.0 h.ensures.value (λ i l. f.0 (leads_bits _ _ _ _ _ _ (few (goal.at.returns-then-is_absent c).Start) l)) f.1.1.ahead in
    found_free _ _ _ _ _ (few (goal.at.returns-then-is_absent c).Start) _ _ w f.1.1.free

pub returns : goal.returns
returns c = c.find.ensures
