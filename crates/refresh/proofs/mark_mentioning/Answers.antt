-- `refresh::mark_mentioning` meets its contract. Assumes nothing.
use Rattle.refresh.proofs.Prelude.{◌≡◌, sym, ◌∙◌, true, arith, usable, usable_is}
use Rattle.refresh_spec.specs.Index.{rows_seen}
use Rattle.refresh.proofs.FindSteps.{scannable, listed_long, found_restarted, found_both, both_few}
use Rattle.refresh.proofs.mark_mentioning.Goals.{Else-not-goes_on}
use Rattle.refresh.proofs.mark_mentioning.Goals as goal

-- the index store is of use
used : (c : Else-not-goes_on) → let a = c.args in usable a.h a.columns.now a.index.now ≡ true
used c = sym c.requires.1 ∙ c.if-not-goes_on.false

pub mark_unlisted-requires : goal.mark_unlisted-requires
mark_unlisted-requires c = scannable _ _ _ _ c.args.values.now c.requires.0 (omega arith) c.requires.2.long

pub returns-then-not-goes_on : goal.returns-then-not-goes_on
returns-then-not-goes_on c = found_restarted _ _ _ _ _ c.mark_unlisted.ensures

pub bounds-index-2 : goal.bounds-index-2
bounds-index-2 c = omega (arith, c.requires.0.index_long)

pub mark_listed-listed-requires : goal.mark_listed-listed-requires
mark_listed-listed-requires c = (c.requires.0, used (goal.at.mark_listed-listed-requires c).Else-not-goes_on, c.requires.2.long)

pub mark_unlisted-requires-2 : goal.mark_unlisted-requires-2
unfolding rows_seen
mark_unlisted-requires-2 c = scannable _ _ _ _ c.args.values.now c.requires.0 (usable_is _ _ _ (used (goal.at.mark_unlisted-requires-2 c).Else-not-goes_on)).seen (listed_long _ _ _ _ _ c.mark_listed-listed.ensures c.requires.2.long)

pub overflow_add-result : goal.overflow_add-result
overflow_add-result c = omega (arith, both_few _ _ _ _ _ c.requires.2 c.mark_listed-listed.ensures c.mark_unlisted-2.ensures)

pub returns : goal.returns
unfolding rows_seen
returns c = found_both _ _ _ _ _ c.requires.0 (used (goal.at.returns c).Else-not-goes_on) c.mark_listed-listed.ensures c.mark_unlisted-2.ensures
