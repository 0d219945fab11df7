-- `refresh::refresh_by_scan` meets its contract. Assumes nothing.
use Rattle.refresh.proofs.Prelude.{sym, ◌∙◌, arith, length, bitmap_none, Lendable}
use Rattle.refresh.proofs.TestSteps.{Passed, passed, lendable}
use Rattle.refresh.proofs.RefreshSteps.{WordsFew, words_few, refused_full, stageable, done}
use Rattle.refresh.proofs.refresh_by_scan.Goals.{After-mark_mentioning-count, Start}
use Rattle.refresh.proofs.refresh_by_scan.Goals as goal

-- no test before 7 refuses it
accepts : (s : Start) → let a = s.args in Passed a.h (length a.rows.now) (length a.pending.now) (length a.index.now) (record { columns = a.columns.now; values = a.values.now; stamp = a.stamp })
accepts s = passed _ _ _ _ _ s.requires.checked

lent : (s : Start) → let a = s.args in Lendable a.h a.rows.now a.columns.now a.index.now
lent s = lendable _ _ _ _ _ (accepts s)

fits : (c : After-mark_mentioning-count) → WordsFew c.args.h c.mark_mentioning-count.result
fits c =
    let a = c.args in
    let p : Passed a.h (length a.rows.now) (length a.pending.now) (length a.index.now) (record { columns = a.columns.now; values = a.values.now; stamp = a.stamp }) = passed _ _ _ _ _ c.requires.checked in
    words_few a.h a.rows.now a.pending.now a.index.now _ p c.mark_mentioning-count.ensures

pub mark_mentioning-count-requires : goal.mark_mentioning-count-requires
mark_mentioning-count-requires c = (lent (goal.at.mark_mentioning-count-requires c).Start, c.requires.continues, bitmap_none)

pub overflow_add-removals : goal.overflow_add-removals
overflow_add-removals c = omega (arith, fits (goal.at.overflow_add-removals c).After-mark_mentioning-count)

pub overflow_mul-removals : goal.overflow_mul-removals
overflow_mul-removals c = omega (arith, fits (goal.at.overflow_mul-removals c).After-mark_mentioning-count)

pub overflow_add-inserts : goal.overflow_add-inserts
overflow_add-inserts c = omega (arith, fits (goal.at.overflow_add-inserts c).After-mark_mentioning-count)

pub overflow_mul-inserts : goal.overflow_mul-inserts
overflow_mul-inserts c = omega (arith, fits (goal.at.overflow_mul-inserts c).After-mark_mentioning-count)

pub returns-then-is_overfull : goal.returns-then-is_overfull
returns-then-is_overfull c = refused_full _ _ _ _ _ (accepts (goal.at.returns-then-is_overfull c).Start) c.mark_mentioning-count.ensures (sym c.is_overfull.ensures ∙ c.if-is_overfull.true)

pub catch_up-requires : goal.catch_up-requires
catch_up-requires c = (lent (goal.at.catch_up-requires c).Start, c.requires.continues)

pub stage_marked-requires : goal.stage_marked-requires
stage_marked-requires c =
    let a = c.args in
    let free = sym c.is_overfull.ensures ∙ c.if-is_overfull.false in
    stageable a.h a.rows.now a.pending.now a.index.now _ (accepts (goal.at.stage_marked-requires c).Start) c.mark_mentioning-count.ensures free

pub returns : goal.returns
returns c =
    let free = sym c.is_overfull.ensures ∙ c.if-is_overfull.false in
    done _ _ _ _ _ (accepts (goal.at.returns c).Start) c.mark_mentioning-count.ensures free c.catch_up.ensures c.stage_marked.ensures
