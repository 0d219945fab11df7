-- `merge::apply_pending` meets its contract. Assumes nothing.
use native.Mathlib.Omega.{arith}
use Rattle.merge.proofs.MergingSteps.{second_ready, third_ready, passed}
use Rattle.merge.proofs.apply_pending.Goals as goal

pub remove_all-without_rows-requires : goal.remove_all-without_rows-requires
remove_all-without_rows-requires c =
    second_ready _ _ _ _ _ c.requires.0 c.requires.1 (omega arith) _ _ _ c.remove_all-without_keys.ensures c.rows-1.given c.keys-1.given

pub insert_all-requires : goal.insert_all-requires
insert_all-requires c =
    third_ready _ _ _ _ _ c.requires.0 c.requires.1 (omega arith) _ _ _ c.remove_all-without_keys.ensures _ _ _ c.remove_all-without_rows.ensures (omega arith) (omega arith)

pub returns : goal.returns
returns c =
    passed _ _ _ _ _ c.requires.0 c.requires.1 (omega arith) _ _ _ c.remove_all-without_keys.ensures _ _ _ c.remove_all-without_rows.ensures _ _ _ _ c.insert_all.ensures
