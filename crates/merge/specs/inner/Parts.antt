-- Contracts of the two halves of a merge: the pending records are applied; then pending is emptied, and a compaction may follow.
-- Assumes nothing.
use Rattle.std.specs.Prelude.{ℕ, ◌+◌, ◌*◌, ◌/◌, ◌≤◌, ◌≡◌, cond, List, [], ltb}
use Rattle.plain_table.specs.Plain.{Plain, applied, live, dead, compacted, unstaged, compacts_after}
use Rattle.table.specs.declared.Header.{Header}
use Rattle.table.specs.declared.Merge.{Merge}
use Rattle.merge_insert.specs.declared.MergeProgress.{MergeProgress}
use Rattle.merge_insert.specs.inner.Insertions.{stop_status, stop_place}
use Rattle.table.specs.Stores.{header_of, row_store, sort_store}
use Rattle.table.specs.Outcomes.{Stores, stores, Represents, SamePast}
use Rattle.merge_pending.specs.inner.Becoming.{Becomes, with_counts}

-- ---- the passes over the pending records

-- the table after the passes, and their answer
pub record AppliedTable (p : Plain) (s s' : Stores) (m : MergeProgress) : Type 0 where
  pub steps : Becomes p (applied p).table s s'
  pub status : stop_status m.stopped ≡ (applied p).status
  pub place : stop_place m.stopped ≡ (applied p).place

pub record Applying (h : Header) (rows keys sorts pending : List ℕ) (m : MergeProgress) (rows' keys' sorts' : List ℕ) : Type 0 where
  pub past : SamePast (2 * h.capacity) keys keys'
  pub counts : m.header ≡ with_counts h m.header.rows m.header.dead m.header.entries m.header.largest
  pub rows_fit : m.header.rows ≤ h.capacity
  pub table : (p : Plain) → Represents p (stores h rows keys sorts pending)
      → AppliedTable p (stores h rows keys sorts pending) (stores m.header rows' keys' sorts' pending) m

-- ---- after the passes

-- pending is emptied; if the merge did not stop, dead rows are dropped if that is due
abbrev pub finished : ℕ → Plain → Plain
finished status p = cond (compacts_after status p) (compacted (unstaged p)) (unstaged p)

-- the result of the passes, given the row count before them, with the final header and the numbers of rows kept and dropped
abbrev pub finished_as : MergeProgress → ℕ → Header → ℕ → ℕ → Merge
finished_as m before h kept dropped =
    record { header = h; status = stop_status m.stopped; place = stop_place m.stopped; added = ltb before m.header.rows; kept = kept; dropped = dropped }

-- the same for a plain table
abbrev pub answer_of : MergeProgress → ℕ → Plain → Merge
answer_of m before p =
    finished_as m before (header_of (finished (stop_status m.stopped) p)) (cond (compacts_after (stop_status m.stopped) p) (live p) 0) (cond (compacts_after (stop_status m.stopped) p) (dead p) 0)

module _ (m : MergeProgress) (before : ℕ) (rows keys sorts live-words base : List ℕ) (r : Merge) (rows' keys' sorts' live-words' base' : List ℕ) where
  pub record FinishedTable (pending : List ℕ) (p : Plain) : Type 0 where
    pub answer : r ≡ answer_of m before p
    pub rows_after : rows' ≡ cond (compacts_after (stop_status m.stopped) p) (row_store (compacted (unstaged p)) [] rows) rows
    pub sorts_after : sorts' ≡ cond (compacts_after (stop_status m.stopped) p) (sort_store (compacted (unstaged p)) sorts) sorts
    pub represents : Represents (finished (stop_status m.stopped) p) (stores r.header rows' keys' sorts' pending)
    pub words : (finished (stop_status m.stopped) p).generation ≡ p.generation → (live-words' ≡ live-words) × (base' ≡ base)

  pub record Finishing : Type 0 where
    pub past : SamePast (2 * m.header.capacity) keys keys'
    pub words_past : SamePast ((m.header.capacity + 63) / 64) live-words live-words' × SamePast ((m.header.capacity + 63) / 64) base base'
    pub table : (pending : List ℕ) (p : Plain) → Represents p (stores m.header rows keys sorts pending) → FinishedTable pending p
