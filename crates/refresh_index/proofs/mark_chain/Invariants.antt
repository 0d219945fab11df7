-- `refresh_index::mark_chain` meets its contract. The loop's invariant: of the rows that the value leads to, those of the entries that
-- the link leads to are yet to be marked. Assumes nothing.
use Rattle.refresh_index.proofs.Prelude.{◌*◌, ◌≤◌, ◌≡◌, length, get_or}
use Rattle.refresh_spec.specs.Index.{chain, entries_under}
use Rattle.refresh_spec.specs.inner.Finding.{leads}
use Rattle.refresh_index.proofs.Goings.{Going}
use Rattle.refresh_index.proofs.mark_chain.Given as goal

abbrev pub invariant-loop-link : goal.invariant-loop-link
invariant-loop-link l = (l.limit ≤ get_or l.index 2 0 * length l.columns) × (length l.words ≡ length l.initial.words)
    × Going (leads l.h l.rows l.columns l.value (entries_under l.h.capacity l.index l.value)) (leads l.h l.rows l.columns l.value (chain l.index l.limit l.link)) l.initial.words l.words l.marked

abbrev pub decreases-loop-link : goal.decreases-loop-link
decreases-loop-link l = l.limit
