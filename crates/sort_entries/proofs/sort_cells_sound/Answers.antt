use Rattle.sort_entries.proofs.Prelude.{sym, ◌∙◌}
use Rattle.sort_entries.proofs.LawsCheck.{rest_begins, rest_breaks, rest_steps, rest_ends}
use Rattle.sort_entries.proofs.sort_cells_sound.Goals as goal

pub loop-row-init : goal.loop-row-init
loop-row-init c = rest_begins _ _ _ _ _ _

pub returns-then-not-cell_sound : goal.returns-then-not-cell_sound
returns-then-not-cell_sound c = rest_breaks _ _ _ _ _ _ _ _ c.loop-row.invariant c.loop-row-test.true _ _ c.advance-at.ensures c.value_from-value.ensures (sym c.cell_sound.ensures ∙ c.if-not-cell_sound.true)

pub loop-row-preserved : goal.loop-row-preserved
loop-row-preserved c = rest_steps _ _ _ _ _ _ _ _ c.loop-row.invariant c.loop-row-test.true _ _ c.advance-at.ensures c.value_from-value.ensures (sym c.cell_sound.ensures ∙ c.if-not-cell_sound.false)

pub returns : goal.returns
returns c = rest_ends _ _ _ _ _ _ _ _ c.loop-row.invariant c.loop-row-test.false
