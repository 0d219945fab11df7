-- The steps of a merge: when a compaction is due, what each call requires, and what the entry point returns. Assumes nothing.
use Rattle.refusals.specs.Laws.Numbers.{err_outcome, ok_outcome, number_some}
use Rattle.refusals.specs.declared.Refusal.{Refusal}
use Rattle.std.specs.Prelude.{Ok, Err}
use Prim.Native.Nat.{ℕ, ◌+◌, ◌*◌, ◌/◌, ◌≤◌, ◌<◌, max}
use mathlib.Core.Path.{◌≡◌, refl, ap, ◌∙◌}
use mathlib.Core.Logic.{inl, inr}
use Rattle.std.specs.Prelude.{Option, None, Some}
use Rattle.std.proofs.Common.{subst}
use mathlib.Core.Bool.{true, false}
use mathlib.Core.List.{List}
use native.Mathlib.Omega.{arith}
use lib.Dec.{ltb}
use lib.ListN.{length}
use borrow.Author.Tests.{ltb-true, ltb-false, lt-ltb, le-ltb, eq-eqb, ne_eqb, eqb-false, not-true}
use Rattle.lists.specs.Laws.Filter.{split, and_right}
use Rattle.key_index.specs.declared.IndexShape.{IndexShape}
use Rattle.key_index.specs.inner.Index.{Fits}
use Rattle.plain_table.specs.Staged.{compaction_due}
use Rattle.plain_table.specs.Plain.{live as live_count, compacts_after, Plain, applied, unstaged, dead}
use Rattle.table.specs.declared.Header.{Header}
use Rattle.table.specs.declared.Merge.{Merge}
use Rattle.merge_insert.specs.declared.MergeProgress.{MergeProgress}
use Rattle.refusals.specs.Refusals.{number}
use Rattle.merge_insert.specs.declared.StoppedAt.{StoppedAt}
use Rattle.merge_insert.specs.declared.append.Stop.{Stop}
use Rattle.merge_insert.specs.declared.append.Stop.TheVariants.{TableFull, OldSortValue}
use Rattle.merge_insert.specs.inner.Appending.{stop_number}
use Rattle.table.specs.Refusing.{merge_refusal}
use Rattle.table.specs.Outcomes.{stores, body, compaction_words, lengths, Represents, with_pending, Merging}
use Rattle.merge_pending.specs.inner.Becoming.{with_counts, with_dead, Ready}
use Rattle.merge_insert.specs.inner.Insertions.{stop_status, stop_place, Insertions}
use Rattle.merge_remove.specs.inner.Removals.{Removable, Removals}
use Rattle.table_compact.specs.inner.Compaction.{Lendable, Compaction}
use Rattle.merge.specs.inner.Parts.{Applying, finished_as, Finishing}
use Rattle.table.proofs.Laws.Refusals.{inside_full_shape, Mergeable, merge_accepted}
use Rattle.table.proofs.Laws.Opening.{unstaged_represents}
use Rattle.merge.specs.Laws.Merging.{passes_table, stopped_not, due_not, due_compacts, compacted_rows, compaction_raises_generation, merged_table}

-- ---- a compaction is due

module _ (dead rows generation : ℕ) where
  -- at the last generation none is
  pub due_last : generation ≡ 4294967295 → false ≡ compaction_due dead rows generation
  unfolding compaction_due
  due_last e = elim (split (ltb (max 16 (rows / 2)) dead)) [ inl q ↦ rw (q, eq-eqb generation 4294967295 e) | inr q ↦ rw q ]

  -- nor with 16 dead rows or fewer
  pub due_few : dead ≤ 16 → false ≡ compaction_due dead rows generation
  unfolding compaction_due
  due_few h = rw (le-ltb (max 16 (rows / 2)) dead (omega arith))

  -- else one is with more than half the rows dead
  pub due_half : (generation ≡ 4294967295 → ⊥) → 16 < dead → ltb (rows / 2) dead ≡ compaction_due dead rows generation
  unfolding compaction_due
  due_half e h =
      rw (ne_eqb generation 4294967295 e)
      (elim (split (ltb (rows / 2) dead)) [
        | inl q ↦ let k = ltb-true (rows / 2) dead q in rw (q, lt-ltb (max 16 (rows / 2)) dead (omega arith))
        | inr q ↦ let k = ltb-false (rows / 2) dead q in rw (q, le-ltb (max 16 (rows / 2)) dead (omega arith))
      ])

  -- where one is, a generation is left
  pub due_left : compaction_due dead rows generation ≡ true → generation ≤ 4294967295 → generation < 4294967295
  unfolding compaction_due
  due_left e h = omega (arith, eqb-false generation 4294967295 (not-true _ (and_right (ltb (max 16 (rows / 2)) dead) _ e)))

-- ---- the passes

-- stores of the same lengths
fits_kept : {t : IndexShape} (rows keys rows₁ keys₁ : List ℕ) → Fits t rows keys → length rows₁ ≡ length rows → length keys₁ ≡ length keys → Fits t rows₁ keys₁
fits_kept rows keys rows₁ keys₁ f a b = omega arith

module _ (h : Header) (rows keys sorts pending : List ℕ) (ready : Ready h rows keys sorts pending) (few-dead : h.dead ≤ h.rows) (few_words : h.pending ≤ 4294967295)
    (h₁ : Header) (rows₁ keys₁ : List ℕ) (by_key : Removals h rows keys pending 1 h₁ rows₁ keys₁) where
  -- the removals by row
  pub second_ready : length rows₁ ≡ length rows → length keys₁ ≡ length keys → Removable h₁ rows₁ keys₁ pending 2
  second_ready a b =
      let few = by_key.dead_few in
      let fits = fits_kept rows keys rows₁ keys₁ ready.fits a b in
      let most : 3 * h₁.dead + h.pending ≤ 12884901885 = omega (arith, ready.fits.count, ready.fits.most) in
      rw by_key.header (record { fits = fits; pending_fits = ready.pending_fits; dead_few = most; some_kind = omega arith; most_kind = omega arith })

  module _ (h₂ : Header) (rows₂ keys₂ : List ℕ) (by_Row : Removals h₁ rows₁ keys₁ pending 2 h₂ rows₂ keys₂) where
    without : h₂ ≡ with_dead h h₂.dead
    without = by_Row.header ∙ ap (λ (x : Header). with_dead x h₂.dead) by_key.header

    words_kept : h₁.pending ≡ h.pending
    words_kept = ap (λ (x : Header). x.pending) by_key.header

    -- the inserts
    pub third_ready : length rows₂ ≡ length rows → length keys₂ ≡ length keys → Ready h₂ rows₂ keys₂ sorts pending
    third_ready a b =
        let fits = fits_kept rows keys rows₂ keys₂ ready.fits a b in
        let most : h₂.dead + h.capacity ≤ 4294967295 + h.rows = omega (arith, by_key.dead_few, by_Row.dead_few, words_kept, ready.fits.count, ready.fits.most) in
        rw without
        (record {
          fits = fits;
          sort_column = ready.sort_column;
          rule_known = ready.rule_known;
          entries_fit = ready.entries_fit;
          dead_fits = most;
          sorts_long = ready.sorts_long;
          pending_fits = ready.pending_fits;
        })

    -- all three
    pub passed : (m : MergeProgress) (rows₃ keys₃ sorts₃ : List ℕ) → Insertions h₂ rows₂ keys₂ sorts pending m rows₃ keys₃ sorts₃ → Applying h rows keys sorts pending m rows₃ keys₃ sorts₃
    passed m rows₃ keys₃ sorts₃ i =
        let n : h₁.capacity ≡ h.capacity = ap (λ (x : Header). x.capacity) by_key.header in
        let k : h₂.capacity ≡ h.capacity = ap (λ (x : Header). x.capacity) without in
        record {
          past = (rw k at i.past) ∙ (rw n at by_Row.past) ∙ by_key.past;
          counts = i.header.counts ∙ ap (λ (x : Header). with_counts x m.header.rows m.header.dead m.header.entries m.header.largest) without;
          rows_fit = omega (arith, i.header.rows_fit);
          table = λ p r.
              let a = by_key.table sorts p r in
              let b = by_Row.table sorts _ a.represents in
              passes_table r refl a refl b (i.table _ b.represents);
        }

-- ---- what follows them

-- with pending emptied, a compaction requires the same
pub lendable_emptied : {h : Header} {rows keys sorts live base : List ℕ} → Lendable h rows keys sorts live base → Lendable (with_pending h 0) rows keys sorts live base
lendable_emptied l =
    record { fits = l.fits; sort_column = l.sort_column; sorts_long = l.sorts_long; live_long = l.live_long; base_long = l.base_long }

-- the number of a stop is not 0
stop_some : (stop : Stop) → stop_number stop ≡ 0 → ⊥
stop_some TableFull z = omega arith
stop_some OldSortValue z = omega arith

module _ (m : MergeProgress) (before : ℕ) (rows keys sorts live base : List ℕ) where
  -- the result of a merge that stopped so
  abbrev pub stopped_as : Option StoppedAt → Header → ℕ → ℕ → Merge
  stopped_as stopped h kept dropped =
      record { header = h; status = stop_status stopped; place = stop_place stopped; added = ltb before m.header.rows; kept = kept; dropped = dropped }

  as_stopped : (stopped : Option StoppedAt) → m.stopped ≡ stopped → {h : Header} {kept dropped : ℕ} {rows' keys' sorts' live' base' : List ℕ}
      → Finishing m before rows keys sorts live base (finished_as m before h kept dropped) rows' keys' sorts' live' base'
      → Finishing m before rows keys sorts live base (stopped_as stopped h kept dropped) rows' keys' sorts' live' base'
  as_stopped stopped e {h} {kept} {dropped} {rows'} {keys'} {sorts'} {live'} {base'} f =
      subst (λ (o : Option StoppedAt). Finishing m before rows keys sorts live base (stopped_as o h kept dropped) rows' keys' sorts' live' base') e f

  finish_same : ((pending : List ℕ) (p : Plain) → Represents p (stores m.header rows keys sorts pending) → compacts_after (stop_status m.stopped) p ≡ false)
      → Finishing m before rows keys sorts live base (finished_as m before (with_pending m.header 0) 0 0) rows keys sorts live base
  finish_same same =
      record {
        past = refl;
        words_past = (refl, refl);
        table = λ pending p r.
            let u = unstaged_represents r in
            let e = same pending p r in
            record {
              answer = rw e (ap (λ (h : Header). finished_as m before h 0 0) u.shown.header);
              rows_after = rw e;
              sorts_after = rw e;
              represents = rw e u;
              words = λ g. (refl, refl);
            };
      }

  -- the merge stopped
  pub finish_stopped : (at : StoppedAt) → m.stopped ≡ Some at
      → Finishing m before rows keys sorts live base (stopped_as (Some at) (with_pending m.header 0) 0 0) rows keys sorts live base
  finish_stopped at e = as_stopped (Some at) e (finish_same (λ pending p r. stopped_not (stop_status m.stopped) p (rw e (stop_some at.stop))))

  -- no compaction is due
  pub finish_kept : m.stopped ≡ None → compaction_due m.header.dead m.header.rows m.header.generation ≡ false
      → Finishing m before rows keys sorts live base (stopped_as None (with_pending m.header 0) 0 0) rows keys sorts live base
  finish_kept went d = as_stopped None went (finish_same (λ pending p r. due_not (stop_status m.stopped) p (ap stop_status went) (rw r.shown.header at d)))

  -- one is
  pub finish_compacted : m.stopped ≡ None → compaction_due m.header.dead m.header.rows m.header.generation ≡ true
      → (h' : Header) (rows' keys' sorts' live' base' : List ℕ) → Compaction (with_pending m.header 0) rows keys sorts live base h' rows' keys' sorts' live' base'
      → Finishing m before rows keys sorts live base (stopped_as None h' h'.rows m.header.dead) rows' keys' sorts' live' base'
  finish_compacted went d h' rows' keys' sorts' live' base' c =
      as_stopped None went
      (record {
        past = c.past;
        words_past = c.words_past;
        table = λ pending p r.
            let k = c.table pending (unstaged p) (unstaged_represents r) in
            let e = due_compacts (stop_status m.stopped) p (ap stop_status went) (rw r.shown.header at d) in
            let x : h'.rows ≡ live_count p = ap (λ (h : Header). h.rows) k.header ∙ compacted_rows p in
            let y : m.header.dead ≡ dead p = ap (λ (h : Header). h.dead) r.shown.header in
            record {
              answer = rw e (λ i. finished_as m before (k.header i) (x i) (y i));
              rows_after = rw e k.rows_after;
              sorts_after = rw e k.sorts_after;
              represents = rw e k.represents;
              words = λ g. absurd (compaction_raises_generation p (rw e at g));
            };
      })

-- ---- the entry point

module _ (h : Header) (rows keys sorts pending live base : List ℕ) where
  -- a refused merge
  pub merge_refused : (r : Refusal) → number r ≡ merge_refusal h (lengths rows keys sorts pending live base)
      → Merging (stores h rows keys sorts pending) (compaction_words live base) (Err r) (body rows keys sorts) (compaction_words live base)
  merge_refused r e =
      record {
        refusal = err_outcome _ r e;
        unchanged = λ k. (refl, refl);
        past = refl;
        words_past = (refl, refl);
        table = λ z. absurd (number_some r (e ∙ z));
      }

  module _ (accepts : merge_refusal h (lengths rows keys sorts pending live base) ≡ 0) where
    mergeable : Mergeable h (lengths rows keys sorts pending live base)
    mergeable = merge_accepted h (lengths rows keys sorts pending live base) (accepts)

    -- what its passes require
    pub merge_ready : Ready h rows keys sorts pending × (h.dead ≤ h.rows)
    merge_ready =
        let a = mergeable in (
          record {
            fits = inside_full_shape h rows keys a.inside a.long.rows_long a.long.keys_long;
            sort_column = a.inside.bounds.sort_column;
            rule_known = a.inside.bounds.rule_known;
            entries_fit = a.inside.entries_fit;
            dead_fits = omega (arith, a.inside.dead_fit, a.inside.rows_fit, a.inside.bounds.capacity_few);
            sorts_long = a.long.sorts_long;
            pending_fits = a.pending_fits;
          },
          a.inside.dead_fit,
        )

    module _ (m : MergeProgress) (rows₁ keys₁ sorts₁ : List ℕ) (applying : Applying h rows keys sorts pending m rows₁ keys₁ sorts₁) where
      -- what the step after them requires
      pub merge_lendable : length rows₁ ≡ length rows → length keys₁ ≡ length keys → length sorts₁ ≡ length sorts → Lendable m.header rows₁ keys₁ sorts₁ live base
      merge_lendable a b c =
          let k = mergeable in
          let fit = applying.rows_fit in
          rw applying.counts
          (record {
            fits =
                record {
                  some_columns = k.inside.bounds.columns_some;
                  most_columns = k.inside.bounds.columns_few;
                  some_keys = k.inside.bounds.keys_some;
                  most_keys = k.inside.bounds.keys_few;
                  some = k.inside.bounds.capacity_some;
                  most = k.inside.bounds.capacity_few;
                  count = fit;
                  cells = omega (arith, k.long.rows_long);
                  long = omega (arith, k.long.keys_long);
                };
            sort_column = k.inside.bounds.sort_column;
            sorts_long = omega (arith, k.long.sorts_long);
            live_long = k.words.live_long;
            base_long = k.words.base_long;
          })

      -- a merge is done
      pub merge_done : (r : Merge) (rows' keys' sorts' live' base' : List ℕ) → Finishing m h.rows rows₁ keys₁ sorts₁ live base r rows' keys' sorts' live' base'
          → Merging (stores h rows keys sorts pending) (compaction_words live base) (Ok r) (body rows' keys' sorts') (compaction_words live' base')
      merge_done r rows' keys' sorts' live' base' f =
          let n : m.header.capacity ≡ h.capacity = ap (λ (x : Header). x.capacity) applying.counts in
          record {
            refusal = ok_outcome r accepts;
            unchanged = λ k. absurd (omega (arith, accepts));
            past = (rw n at f.past) ∙ applying.past;
            words_past = rw n at f.words_past;
            table = λ z p shown.
                let a = applying.table p shown in
                merged_table shown a (f.table pending (applied p).table a.steps.represents);
          }
