-- The live rows, the dead rows and compaction. Assumes nothing.
use Rattle.plain_table.proofs.Laws.Prelude.{ℕ, suc, ◌≤◌, ◌≡◌, refl, sym, ap, ◌∙◌, inl, inr, not, List, [], ◌∷◌, map, length, split, count_le, all_filter, filter_again, count_not}
use Rattle.lists.specs.Lists.{filter}
use Rattle.plain_table.specs.Plain.{Row, Plain, live_from, live_rows, dead, compacted}

-- the cells of the live rows do not depend on the first row number
pub cells_live_from : (n : ℕ) (rows : List Row) → map (λ r. r.cells) (live_from n rows) ≡ map (λ r. r.cells) (filter (λ row. row.live) rows)
unfolding live_from filter
cells_live_from n [] = refl
cells_live_from n (row ∷ rows) = let h = cells_live_from (suc n) rows in elim (split row.live) [ inl e ↦ rw (e, h) | inr e ↦ rw (e, h) ]

-- there are no more dead rows than rows
pub dead_le : (p : Plain) → dead p ≤ length p.rows
unfolding dead
dead_le p = count_le (λ row. not row.live) p.rows

-- after a compaction no row is dead
pub dead_compacted : (p : Plain) → dead (compacted p) ≡ 0
unfolding dead compacted
dead_compacted p = count_not (λ row. row.live) (filter (λ row. row.live) p.rows) (all_filter (λ row. row.live) p.rows)

-- a compaction keeps the live rows' cells, in order
pub live_rows_compacted : (p : Plain) → map (λ r. r.cells) (live_rows (compacted p)) ≡ map (λ r. r.cells) (live_rows p)
unfolding live_rows compacted
live_rows_compacted p =
    cells_live_from 0 (filter (λ row. row.live) p.rows)
    ∙ ap (map (λ (r : Row). r.cells)) (filter_again (λ row. row.live) p.rows)
    ∙ sym (cells_live_from 0 p.rows)
