-- A merge is the result of its passes, with pending emptied and, if it did not stop and that is due, dead rows dropped.
-- Assumes nothing.
use Rattle.std.specs.Prelude.{ℕ, ◌≡◌, Bool, true, false, length, Ok}
use Rattle.std.proofs.Math.Path.{sym, ap, ap₂}
use Rattle.std.proofs.Common.{◌∙◌, arith, eq-eqb, ne_eqb}
use Rattle.std.proofs.Math.Bool.{cond}
use mathlib.Core.List.{List, [], foldl}
use Rattle.std.proofs.Math.Dec.{ltb}
use Rattle.refusals.specs.Refusals.{accepted}
use Rattle.plain_table.specs.Staged.{Staged, compaction_due, inserts}
use Rattle.plain_table.specs.Plain.{Inserted, insert_all, Plain, dead, without_row, removed, applied, added, live as live_count, compacted, unstaged, compacts_after, merged, merge_keeps, merge_drops}
use Rattle.table.specs.declared.Header.{Header}
use Rattle.plain_table.proofs.Laws.Price.{compacted_live}
use Rattle.table.specs.declared.Merge.{Merge}
use Rattle.merge_insert.specs.declared.MergeProgress.{MergeProgress}
use Rattle.refusals.specs.Refusals.{answer_view}
use Rattle.table.specs.Stores.{header_of, row_store, sort_store}
use Rattle.table.specs.Outcomes.{Stores, stores, body, compaction_words, Represents, merge_of, merged_store, MergedTable}
use Rattle.merge_pending.specs.inner.Becoming.{Becomes}
use Rattle.merge_insert.specs.inner.Insertions.{stop_status, InsertedTable}
use Rattle.merge_remove.specs.inner.Removals.{removed_all}
use Rattle.merge.specs.inner.Parts.{AppliedTable, finished, FinishedTable}
use Rattle.table.proofs.Laws.Shown.{rows_counted}
use Rattle.merge_pending.specs.Laws.Steps.{steps_then}
use Rattle.merge_remove.specs.Laws.Removals.{removed_all_keys, removed_all_rows}

-- ---- the passes

-- removals by key, then removals by row, then inserts
pub passes_applied : (p p₁ p₂ : Plain) → p₁ ≡ removed_all 1 p.staged p → p₁.staged ≡ p.staged
    → p₂ ≡ removed_all 2 p₁.staged p₁ → p₂.staged ≡ p₁.staged → insert_all (inserts p₂.staged) 0 p₂ ≡ applied p
unfolding applied removed
passes_applied p p₁ p₂ a b c d =
    ap₂ (λ (staged : List Staged) (q : Plain). insert_all (inserts staged) 0 q) (d ∙ b)
    (c
    ∙ removed_all_rows p₁.staged p₁
    ∙ ap₂ (λ (staged : List Staged) (q : Plain). foldl without_row q staged) b (a ∙ removed_all_keys p.staged p))

-- the result of the three passes
pub passes_table : {p p₁ p₂ : Plain} {s s₁ s₂ s₃ : Stores} {m : MergeProgress} → Represents p s
    → p₁ ≡ removed_all 1 p.staged p → Becomes p p₁ s s₁ → p₂ ≡ removed_all 2 p₁.staged p₁ → Becomes p₁ p₂ s₁ s₂ → InsertedTable p₂ s₂ s₃ m
    → AppliedTable p s s₃ m
passes_table {p} {p₁} {p₂} {s} {s₁} {s₂} {s₃} {m} r a f b g i =
    let e = passes_applied p p₁ p₂ a f.later.staged b g.later.staged in
    let t = steps_then r (steps_then r f g) i.steps in
    record {
      steps = rw e at t;
      status = i.status ∙ ap (λ (x : Inserted). x.status) e;
      place = i.place ∙ ap (λ (x : Inserted). x.place) e;
    }

-- ---- after the passes

-- a merge that stopped does not compact
pub stopped_not : (status : ℕ) (p : Plain) → (status ≡ 0 → ⊥) → compacts_after status p ≡ false
unfolding compacts_after
stopped_not status p e = rw (ne_eqb status 0 e)

-- a merge that did not stop does not compact either, with too few dead rows or no generation left
pub due_not : (status : ℕ) (p : Plain) → status ≡ 0 → compaction_due (dead p) (length p.rows) p.generation ≡ false → compacts_after status p ≡ false
unfolding compacts_after
due_not status p e d = rw (eq-eqb status 0 e, d)

-- with enough dead rows and a generation left it compacts
pub due_compacts : (status : ℕ) (p : Plain) → status ≡ 0 → compaction_due (dead p) (length p.rows) p.generation ≡ true → compacts_after status p ≡ true
unfolding compacts_after
due_compacts status p e d = rw (eq-eqb status 0 e, d)

-- the number of remaining rows is the number of live rows
pub compacted_rows : (p : Plain) → length (compacted (unstaged p)).rows ≡ live_count p
unfolding live_count unstaged
compacted_rows p = compacted_live (unstaged p)

-- a compaction changes the generation
pub compaction_raises_generation : (p : Plain) → (compacted (unstaged p)).generation ≡ p.generation → ⊥
unfolding compacted unstaged
compaction_raises_generation p e = omega arith

-- ---- the whole

-- a store after a merge: `shows` writes a compacted table over what the passes wrote
merged_store_lem : (p : Plain) (shows : Plain → List ℕ → List ℕ) {status : ℕ} {passed written store : List ℕ} → status ≡ (applied p).status → passed ≡ written
    → store ≡ cond (compacts_after status (applied p).table) (shows (compacted (unstaged (applied p).table)) passed) passed
    → store ≡ merged_store p (shows (merged p).table) written
unfolding merged_store merged
merged_store_lem p shows {status} {passed} {written} {store} a w e = go (compacts_after status q) (ap (λ (n : ℕ). compacts_after n q) a) e
  where
    q : Plain
    q = (applied p).table

    go : (b : Bool) → b ≡ compacts_after (applied p).status q → store ≡ cond b (shows (compacted (unstaged q)) passed) passed
        → store ≡ merged_store p (shows (merged p).table) written
    go true c f = rw (← c, ← w) f
    go false c f = rw (← c, ← w) f

module _ {h : Header} {rows keys sorts pending live base : List ℕ} {m : MergeProgress} {rows₁ keys₁ sorts₁ : List ℕ} {r : Merge} {rows' keys' sorts' live' base' : List ℕ} {p : Plain}
    (shown : Represents p (stores h rows keys sorts pending))
    (a : AppliedTable p (stores h rows keys sorts pending) (stores m.header rows₁ keys₁ sorts₁ pending) m)
    (f : FinishedTable m h.rows rows₁ keys₁ sorts₁ live base r rows' keys' sorts' live' base' pending (applied p).table) where
  -- the result is the merged table
  merged_finished : finished (stop_status m.stopped) (applied p).table ≡ (merged p).table
  unfolding merged
  merged_finished = ap (λ (status : ℕ). finished status (applied p).table) a.status

  merged_answer : r ≡ merge_of p
  unfolding added merged merge_keeps merge_drops
  merged_answer =
      let q : Plain = (applied p).table in
      let x = ap₂ ltb (rows_counted shown) (rows_counted a.steps.represents) in
      let e = ap header_of merged_finished in
      let k = ap (λ (status : ℕ). cond (compacts_after status q) (live_count q) 0) a.status in
      let d = ap (λ (status : ℕ). cond (compacts_after status q) (dead q) 0) a.status in
      f.answer ∙ (λ i. record { header = e i; status = a.status i; place = a.place i; added = x i; kept = k i; dropped = d i })

  -- the two halves are a merge
  pub merged_table : MergedTable (stores h rows keys sorts pending) (compaction_words live base) (Ok r) (body rows' keys' sorts') (compaction_words live' base') p
  unfolding answer_view
  merged_table =
      record {
        answers = ap accepted merged_answer;
        rows_after = merged_store_lem p (λ q store. row_store q [] store) a.status a.steps.rows_after f.rows_after;
        sorts_after = merged_store_lem p sort_store a.status a.steps.sorts_after f.sorts_after;
        represents = rw (merged_finished, merged_answer) at f.represents;
        words = λ e. let w = f.words (ap (λ (q : Plain). q.generation) merged_finished ∙ e ∙ sym a.steps.later.generation) in (λ i. record { live = w.0 i; base = w.1 i });
      }
