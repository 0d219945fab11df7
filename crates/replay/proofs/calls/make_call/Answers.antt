-- `replay::calls::make_call` meets its contract. Assumes nothing.
use Rattle.replay.proofs.Prelude.{staging_made, merging_made, compacting_made, clearing_made, refreshing_made}
use Rattle.replay.proofs.calls.make_call.Goals as goal

pub returns-in-Insert : goal.returns-in-Insert
returns-in-Insert c = let a = c.args in (staging_made (rw c.in-Insert.is) c.stage_insert.ensures c.header_after.ensures).made _ _ _ a.live.now a.base.now a.index.now

pub returns-in-RemoveKey : goal.returns-in-RemoveKey
returns-in-RemoveKey c = let a = c.args in (staging_made (rw c.in-RemoveKey.is) c.stage_remove.ensures c.header_after-in-RemoveKey.ensures).made _ _ _ a.live.now a.base.now a.index.now

pub returns-in-RemoveRow : goal.returns-in-RemoveRow
returns-in-RemoveRow c = let a = c.args in (staging_made (rw c.in-RemoveRow.is) c.stage_remove_row.ensures c.header_after-in-RemoveRow.ensures).made _ _ _ a.live.now a.base.now a.index.now

pub returns-in-Merge : goal.returns-in-Merge
returns-in-Merge c = merging_made _ _ _ (rw c.in-Merge.is) c.merge.ensures c.header_merged.ensures

pub returns-in-Compact : goal.returns-in-Compact
returns-in-Compact c = compacting_made _ _ _ (rw c.in-Compact.is) c.compact.ensures c.header_after-in-Compact.ensures

pub returns-in-Clear : goal.returns-in-Clear
returns-in-Clear c = let a = c.args in clearing_made a.live.now a.base.now a.index.now (rw c.in-Clear.is) c.clear.ensures c.header_after-in-Clear.ensures

pub returns-in-Refresh : goal.returns-in-Refresh
returns-in-Refresh c = let a = c.args in (refreshing_made (rw c.in-Refresh.is) c.refresh_rows_for_values-answer.ensures c.header_refreshed.ensures).made a.keys.now a.sorts.now a.live.now a.base.now
