-- `sort_entries::entry_sound` meets its contract. Assumes nothing.
use Rattle.sort_entries.proofs.LawsCheck.{past_rows_lem, first_entry, no_rise, next_entry}
use Rattle.sort_entries.proofs.entry_sound.Goals as goal

pub returns-then-rows-row : goal.returns-then-rows-row
returns-then-rows-row c = past_rows_lem _ _ _ c.if-rows-row.true

pub returns-then-i-eq0 : goal.returns-then-i-eq0
returns-then-i-eq0 c = first_entry _ _ _ c.if-rows-row.false c.if-i-eq0.true

pub returns-then-value-value_before : goal.returns-then-value-value_before
returns-then-value-value_before c = no_rise _ _ _ c.if-i-eq0.false c.if-value-value_before.true

pub returns : goal.returns
returns c = next_entry _ _ _ c.if-rows-row.false c.if-i-eq0.false c.if-value-value_before.false
