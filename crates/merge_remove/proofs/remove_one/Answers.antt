-- `merge_remove::remove_one` meets its contract. Assumes nothing.
use Rattle.merge_remove.proofs.Prelude.{sym, ◌∙◌, arith}
use Rattle.merge_remove.proofs.RemovalSteps.{find_fits, kill_fits, absent, left_alone, dead_one}
use Rattle.merge_remove.proofs.remove_one.Goals as goal

pub find_windowed-found-requires : goal.find_windowed-found-requires
find_windowed-found-requires c = find_fits c.args.h c.index_shape-t.ensures c.requires

pub returns-then-is_spared : goal.returns-then-is_spared
returns-then-is_spared c =
    left_alone _ _ _ _ _ _ c.index_shape-t.ensures _ c.find_windowed-found.ensures _ c.in-Some.is _ _ (sym c.is_spared.ensures ∙ c.if-is_spared.true)

pub kill-requires : goal.kill-requires
kill-requires c =
    kill_fits c.args.h _ c.index_shape-t.ensures c.requires.0 c.find_windowed-found.ensures c.in-Some.is

pub returns-in-None : goal.returns-in-None
returns-in-None c =
    absent _ _ _ _ _ _ c.index_shape-t.ensures _ c.find_windowed-found.ensures _ _ c.in-None.is

pub returns-else-is_spared : goal.returns-else-is_spared
returns-else-is_spared c =
    dead_one _ _ _ _ _ _ c.index_shape-t.ensures _ c.find_windowed-found.ensures _ c.in-Some.is _ _ _
    (omega (arith, c.requires.0.long)) c.kill.ensures
    _ _ (sym c.is_spared.ensures ∙ c.if-is_spared.false)
