-- `refresh::refresh_by_index` meets its contract. Assumes nothing.
use Rattle.refresh.proofs.Prelude.{length, bitmap_none, Lendable}
use Rattle.refresh.proofs.TestSteps.{Passed, passed, lendable}
use Rattle.refresh.proofs.FindSteps.{found_caught, lendable_caught}
use Rattle.refresh.proofs.RefreshSteps.{found_fit, stageable, done}
use Rattle.refresh.proofs.refresh_by_index.Goals.{Start}
use Rattle.refresh.proofs.refresh_by_index.Goals as goal

-- no test before 7 refuses it
accepts : (s : Start) → let a = s.args in Passed a.h (length a.rows.now) (length a.pending.now) (length a.index.now) (record { columns = a.columns.now; values = a.values.now; stamp = a.stamp })
accepts s = passed _ _ _ _ _ s.requires.0.checked

lent : (s : Start) → let a = s.args in Lendable a.h a.rows.now a.columns.now a.index.now
lent s = lendable _ _ _ _ _ (accepts s)

pub catch_up-requires : goal.catch_up-requires
catch_up-requires c = (lent (goal.at.catch_up-requires c).Start, c.requires.0.continues)

pub mark_listed-count-requires : goal.mark_listed-count-requires
mark_listed-count-requires c =
    let a = c.args in
    let up = c.catch_up.ensures in
    (lendable_caught a.h a.rows.now a.index.now a.columns.now a.values.now (lent (goal.at.mark_listed-count-requires c).Start) up.0.length_same, up.1.usable_now, bitmap_none.long)

pub stage_marked-requires : goal.stage_marked-requires
stage_marked-requires c =
    let a = c.args in
    let marks = found_caught a.h a.rows.now a.index.now a.columns.now a.values.now (lent (goal.at.stage_marked-requires c).Start) c.catch_up.ensures c.mark_listed-count.ensures in
    let fit = found_fit a.h a.rows.now a.pending.now a.index.now _ (accepts (goal.at.stage_marked-requires c).Start) marks c.requires.1 in
    stageable a.h a.rows.now a.pending.now a.index.now _ (accepts (goal.at.stage_marked-requires c).Start) marks fit

pub returns : goal.returns
returns c =
    let a = c.args in
    let up = c.catch_up.ensures in
    let marks = found_caught a.h a.rows.now a.index.now a.columns.now a.values.now (lent (goal.at.returns c).Start) up c.mark_listed-count.ensures in
    let fit = found_fit a.h a.rows.now a.pending.now a.index.now _ (accepts (goal.at.returns c).Start) marks c.requires.1 in
    done a.h a.rows.now a.pending.now a.index.now _ (accepts (goal.at.returns c).Start) marks fit up c.stage_marked.ensures
