-- The rows that merges append: their number, with the other counts of merges summed over calls (change 9), and the sort values
-- appended "since opening or the last clear that emptied rows" (change 7). Assumes nothing.
use Rattle.std.specs.Prelude.{ℕ, ◌+◌, cond, List, [], ◌∷◌, ◌++◌, map, length, drop, get_or, ltb, eqb}
use Rattle.std.proofs.Math.Option.{Option, none, some}
use Rattle.plain_table.specs.Plain.{Plain, applied, raised}
use Rattle.plain_table.specs.Calls.{Call, staging, merging, compacting, clearing, refreshing, feeding, LentCall, refusal, after}

-- the cells of the rows that a merge appends, stopped or not: before its compaction they are the rows past those that were there before.
-- Each accepted insert changes nothing or appends one row (laws `insertion_appended`, `appended_count`).
unfoldable pub merge_appends : Plain → List (List ℕ)
merge_appends p = map (λ row. row.cells) (drop (length p.rows) (applied p).table.rows)

-- the first of three values for a merge, the second for a clear, the third for any other call
unfoldable pub merge_or_clear : {A : Type 0} → Call → A → A → A → A
merge_or_clear (staging r) merge clear other = other
merge_or_clear merging merge clear other = merge
merge_or_clear compacting merge clear other = other
merge_or_clear clearing merge clear other = clear
merge_or_clear (refreshing r index) merge clear other = other
merge_or_clear (feeding rs) merge clear other = other

-- the same for a call on a plain table; a refused call has the third value
unfoldable pub by_call : {A : Type 0} → Plain → LentCall → A → A → A → A
by_call p c merge clear other = cond (eqb (refusal p c.lengths c.call) 0) (merge_or_clear c.call merge clear other) other

-- (change 9) a number of each merge, computed from the plain table before it, summed over the calls; 0 for any other call and for a
-- refused merge
unfoldable pub sum_over_merges : (Plain → ℕ) → Plain → List LentCall → ℕ
sum_over_merges number p [] = 0
sum_over_merges number p (c ∷ cs) = by_call p c (number p) 0 0 + sum_over_merges number (after p c.lengths c.call) cs

-- "The rows appended are taken from the definition of each merge's steps and not from a stored count": the number of rows that the
-- steps leave behind those that were there
abbrev pub merge_adds : Plain → ℕ
merge_adds p = length (merge_appends p)

-- the sort values appended "since opening or the last clear that emptied rows": those after a call, from those before it
unfoldable pub stamps_after : List ℕ → Plain → LentCall → List ℕ
stamps_after before p c =
    by_call p c (before ++ map (λ cells. get_or cells p.opening.sort 0) (merge_appends p)) (cond (ltb 0 (length p.rows)) [] before) before

-- those after all calls, in order
unfoldable pub stamps_since : List ℕ → Plain → List LentCall → List ℕ
stamps_since before p [] = before
stamps_since before p (c ∷ cs) = stamps_since (stamps_after before p c) (after p c.lengths c.call) cs

-- the largest of a list of values; none if the list is empty
unfoldable pub greatest : List ℕ → Option ℕ
greatest [] = none
greatest (v ∷ vs) = some (raised v (greatest vs))
