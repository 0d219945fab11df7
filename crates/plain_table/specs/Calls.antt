-- Calls on a plain table: "stagings, merges, compactions and clears, stopped and refused ones included", and (change 2) refreshes.
-- A refusal changes nothing. Assumes nothing.
use Rattle.std.specs.Prelude.{ℕ, false, cond, List, [], ◌∷◌, ◌++◌, ltb, eqb, length}
use Rattle.lists.specs.Lists.{any}
use Rattle.refusals.specs.Refusals.{check, first_refusal}
use Rattle.plain_table.specs.Staged.{Staged, words_all}
use Rattle.plain_table.specs.Plain.{Plain, with, stage, merged, compacted, cleared}
use Rattle.plain_table.specs.Refusing.{Lengths, wrong_width, stage_checks, merge_checks, compact_checks, clear_checks}
use Rattle.plain_table.specs.Refreshing.{Refresh, mentioning, refreshed, refresh_checks}

pub data Call : Type 0 where
  staging : Staged → Call
  merging compacting clearing : Call
  -- "A refresh joins demand 3's list: the plain table stages these records of its own rows". The number is the length of the lent
  -- index store.
  refreshing : Refresh → ℕ → Call
  -- "Over such an unsound index store, and nowhere else, it is fed the records that the call staged, all of them whole". A record
  -- that is not whole is refused with 3, but no refresh stages one (`history` law `fed_right`).
  feeding : List Staged → Call

-- the number of pending words in use
abbrev pub used : Plain → ℕ
used p = words_all p.opening p.staged

-- the records that a refresh stages
abbrev pub records_of : Plain → Refresh → List Staged
records_of p r = refreshed p.opening r.stamp (mentioning r p)

-- stages all these records, in order
unfoldable pub stage_all : Plain → List Staged → Plain
stage_all p rs = with p p.generation p.rows (p.staged ++ rs) p.largest

-- The number of the first refusal that applies, 0 if none. On a table that was opened, test 1 is only "pending words used above the
-- pending store".
unfoldable pub refusal : Plain → Lengths → Call → ℕ
refusal p l (staging r) = stage_checks (ltb l.pending (used p)) p.opening (length p.rows) (used p) l.pending r
refusal p l merging = merge_checks (ltb l.pending (used p)) p.opening l
refusal p l compacting = compact_checks false p.opening p.generation l
refusal p l clearing = clear_checks false p.opening p.generation (length p.rows) l.keys
refusal p l (refreshing r index) =
    refresh_checks (ltb l.pending (used p)) p.opening p.largest r l.rows index (used p) l.pending (words_all p.opening (records_of p r))
refusal p l (feeding rs) = first_refusal (check (any (wrong_width p.opening) rs) 3 ∷ [])

-- the table after an accepted call
unfoldable pub done : Plain → Call → Plain
done p (staging r) = stage p r
done p merging = (merged p).table
done p compacting = compacted p
done p clearing = cleared p
done p (refreshing r index) = stage_all p (records_of p r)
done p (feeding rs) = stage_all p rs

unfoldable pub after : Plain → Lengths → Call → Plain
after p l c = cond (eqb (refusal p l c) 0) (done p c) p

-- a call and the lengths of the stores; its checks read only the lengths of the stores that it is lent
pub record LentCall : Type 0 where
  pub call : Call
  pub lengths : Lengths

-- the table after all calls, in order
unfoldable pub after_all : Plain → List LentCall → Plain
after_all p [] = p
after_all p (c ∷ cs) = after_all (after p c.lengths c.call) cs
