-- The numbers of rows that a merge appends, keeps and drops add up, and its compaction keeps no more rows than it drops. Assumes
-- nothing.
use Rattle.plain_table.proofs.Laws.Prelude.{ℕ, ◌+◌, ◌/◌, ◌≤◌, ◌<◌, max, ◌≡◌, refl, inl, inr, List, le-max_right, arith, eqb, length, drop, length-map, length-drop, ltb-true, split, and_left, and_right, count_split, length_filter}
use Rattle.plain_table.specs.Staged.{compaction_due}
use Rattle.plain_table.specs.Plain.{Row, Plain, applied, live, dead, compacted, unstaged, compacts_after, merged, merge_keeps, merge_drops}
use Rattle.plain_table.specs.Appending.{merge_appends}
use Rattle.plain_table.proofs.Laws.Counts.{applied_longer}

-- each row is either live or dead
pub live_dead : (p : Plain) → live p + dead p ≡ length p.rows
unfolding live dead
live_dead p = omega (arith, count_split (λ row. row.live) p.rows)

-- a compaction keeps exactly the live rows
pub compacted_live : (p : Plain) → length (compacted p).rows ≡ live p
unfolding compacted live
compacted_live p = length_filter (λ row. row.live) p.rows

-- the row count before a merge's compaction
applied_rows : (p : Plain) → length (applied p).table.rows ≡ length p.rows + length (merge_appends p)
unfolding merge_appends
applied_rows p =
    let n : ℕ = length p.rows in
    let rows : List Row = (applied p).table.rows in
    omega (arith, length-map (drop n rows) (λ (row : Row). row.cells), length-drop n rows, applied_longer p)

-- each row that existed before a merge or was appended by it is in the table after it or was dropped
pub merged_rows : (p : Plain) → length p.rows + length (merge_appends p) ≡ length (merged p).table.rows + merge_drops p
unfolding merged merge_drops unstaged
merged_rows p =
    let q : Plain = (applied p).table in
    elim (split (compacts_after (applied p).status q)) [
      | inl e ↦ rw e (omega (arith, applied_rows p, compacted_live (unstaged q), live_dead q, unstaged_live q))
      | inr e ↦ rw e (omega (arith, applied_rows p))
    ]
  where
    unstaged_live : (q : Plain) → live (unstaged q) ≡ live q
    unstaged_live q = unfold live unstaged in refl

-- if more than half of the rows are dropped, no more rows are kept than dropped
more_dead : (kept dropped rows : ℕ) → kept + dropped ≡ rows → max 16 (rows / 2) < dropped → kept ≤ dropped
more_dead kept dropped rows e h = omega (arith, le-max_right 16 (rows / 2))

-- a merge's compaction keeps no more rows than it drops
pub merged_price : (p : Plain) → merge_keeps p ≤ merge_drops p
unfolding merge_keeps merge_drops compacts_after compaction_due
merged_price p =
    let q : Plain = (applied p).table in
    elim (split (compacts_after (applied p).status q)) [
      | inl e ↦
          let h = ltb-true _ _ (and_left _ _ (and_right (eqb (applied p).status 0) _ e)) in
          rw e (more_dead (live q) (dead q) (length q.rows) (live_dead q) h)
      | inr e ↦ rw e (omega arith)
    ]
