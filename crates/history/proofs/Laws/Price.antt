-- The price of compaction for every history, from the contracts alone. Assumes nothing.
use Rattle.refusals.specs.declared.Refusal.{Refusal}
use Rattle.std.specs.Prelude.{Result}
use Rattle.history.proofs.Laws.Prelude.{ℕ, ◌+◌, ◌≤◌, ◌<◌, ◌≡◌, refl, sym, ap, ◌∙◌, inl, inr, List, [], ◌++◌, arith, length, eq-eqb, ne_eqb, Reply, refused, accepted, some_number, ruled_refused, refused_nothing, accepted_done, live_dead, compacted_live, merged_rows, merged_price, Header, Merge, merge_refusal, compact_refusal, clear_refusal, Stores, Represents, merge_of, Merging, Compacting, Clearing, Body, body_of, joined, CompactionWords, lengths_lent, merge_checks_lem, compact_checks_lem, clear_checks_lem, merge_accepted, compact_accepted, clear_accepted, pending_part, keys_part, body_part, cleared_rows, rows_counted, lent_call, Called, stages, merges, compacts, clears, refreshes, refreshes_unsound, behind, called, Steps, end, next}
use Rattle.plain_table.specs.Plain.{Plain, opened, stage, dead, merge_keeps, merge_drops}
use Rattle.plain_table.specs.Refusing.{stores_short, words_short, compact_checks}
use Rattle.plain_table.specs.Calls.{merging, compacting, clearing, stage_all, refusal, done, after, LentCall, after_all}
use Rattle.plain_table.specs.Appending.{merge_or_clear, by_call, sum_over_merges, merge_adds}
use Rattle.history.specs.Price.{Wear, wear, wear_of_call, wear_of_steps, PriceOfCompaction}
use Rattle.history.proofs.Laws.Calls.{step_represents, opened_represents, history_represents}
use Rattle.refusals.specs.Refusals.{if_accepted, answer_view, number}

-- ---- one call

-- its counts are those of the definition, and each row that existed before it or was appended by it is left, dropped or emptied
record Balanced (p : Plain) (c : LentCall) (w : Wear) : Type 0 where
  kept : w.kept ≡ by_call p c (merge_keeps p) 0 0
  dropped : w.dropped ≡ by_call p c (merge_drops p) 0 0
  fewer : w.kept ≤ w.dropped
  rows : length p.rows + by_call p c (merge_adds p) 0 0 ≡ length (after p c.lengths c.call).rows + (w.dropped + w.compacted) + w.emptied

-- a refused call counts nothing
refused_balanced : (p : Plain) (c : LentCall) → 0 < refusal p c.lengths c.call → Balanced p c (wear 0 0 0 0)
unfolding by_call
refused_balanced p c h =
    let e = ne_eqb (refusal p c.lengths c.call) 0 (λ q. omega arith) in
    record { kept = rw e; dropped = rw e; fewer = omega arith; rows = rw (refused_nothing p c.lengths c.call h, e) (omega arith) }

module _ (p : Plain) (c : LentCall) (z : refusal p c.lengths c.call ≡ 0) where
  accepted_of : (number : Plain → ℕ) → by_call p c (number p) 0 0 ≡ merge_or_clear c.call (number p) 0 0
  unfolding by_call
  accepted_of number = rw (eq-eqb (refusal p c.lengths c.call) 0 z)

  done_balanced : (w : Wear) → w.kept ≡ merge_or_clear c.call (merge_keeps p) 0 0 → w.dropped ≡ merge_or_clear c.call (merge_drops p) 0 0 → w.kept ≤ w.dropped
      → length p.rows + merge_or_clear c.call (merge_adds p) 0 0 ≡ length (done p c.call).rows + (w.dropped + w.compacted) + w.emptied → Balanced p c w
  done_balanced w k d f q =
      record {
        kept = rw (accepted_of merge_keeps) k;
        dropped = rw (accepted_of merge_drops) d;
        fewer = f;
        rows = rw (accepted_done p c.lengths c.call z, accepted_of merge_adds) q;
      }

-- a call that is no merge and leaves the row count unchanged counts nothing
staged_balanced : (p : Plain) (c : LentCall) → ((number : Plain → ℕ) → merge_or_clear c.call (number p) 0 0 ≡ 0) → length (done p c.call).rows ≡ length p.rows
    → Balanced p c (wear 0 0 0 0)
staged_balanced p c none e =
    elim (some_number (refusal p c.lengths c.call)) [
      | inl z ↦ done_balanced p c z (wear 0 0 0 0) (sym (none merge_keeps)) (sym (none merge_drops)) (omega arith) (omega (arith, none merge_adds))
      | inr h ↦ refused_balanced p c h
    ]

counted_refused : {A : Type 0} (r : Reply A) (n : ℕ) (f : A → Wear) → r ≡ refused n → if_accepted r f (wear 0 0 0 0) ≡ wear 0 0 0 0
unfolding if_accepted
counted_refused r n f e = rw e

counted_accepted : {A : Type 0} (r : Reply A) (a : A) (f : A → Wear) → r ≡ accepted a → if_accepted r f (wear 0 0 0 0) ≡ f a
unfolding if_accepted
counted_accepted r a f e = rw e

-- the counts of a merge, of the caller's compaction and of a clear
abbrev merging_wears : Merge → Wear
merging_wears a = wear a.kept a.dropped 0 0

abbrev compacting_wears : Stores → Header → Wear
compacting_wears s h = wear 0 0 s.header.dead 0

abbrev clearing_wears : Stores → Header → Wear
clearing_wears s h = wear 0 0 0 s.header.rows

-- the lent part of each store, and the cells behind it
module _ {p : Plain} (s : Stores) (rest : Body) (more : List ℕ) (r : Represents p (behind s rest more)) where
  merged_balanced : (w : CompactionWords) (answer : Result Merge Refusal) (b' : Body) (w' : CompactionWords) → Merging s w answer b' w'
      → Balanced p (record { call = merging; lengths = lengths_lent s w }) (if_accepted (answer_view answer) merging_wears (wear 0 0 0 0))
  unfolding done merge_or_clear
  merged_balanced w answer b' w' m =
      let c : LentCall = record { call = merging; lengths = lengths_lent s w } in
      let n : ℕ = merge_refusal s.header (lengths_lent s w) in
      let same : n ≡ refusal p (lengths_lent s w) merging = merge_checks_lem r (lengths_lent s w) in
      elim (some_number n) [
        | inl e ↦
            let k = merge_accepted s.header (lengths_lent s w) e in
            let a : answer_view answer ≡ accepted (merge_of p) = (m.table e p (body_part rest (pending_part more r k.pending_fits) k.long)).answers in
            rw (counted_accepted (answer_view answer) (merge_of p) merging_wears a)
            (done_balanced p c (sym same ∙ e) (merging_wears (merge_of p)) refl refl (merged_price p) (omega (arith, merged_rows p)))
        | inr h ↦ rw (counted_refused (answer_view answer) n merging_wears (ruled_refused (answer_view answer) n m.refusal h)) (refused_balanced p c (rw same at h))
      ]

  compacted_balanced : (w : CompactionWords) (answer : Result Header Refusal) (b' : Body) (w' : CompactionWords) → Compacting s.header (body_of s) w answer b' w'
      → Balanced p (record { call = compacting; lengths = lengths_lent s w }) (if_accepted (answer_view answer) (compacting_wears s) (wear 0 0 0 0))
  unfolding done merge_or_clear
  compacted_balanced w answer b' w' m =
      let c : LentCall = record { call = compacting; lengths = lengths_lent s w } in
      -- the pending store is not lent, and the checks do not read it
      let k = lengths_lent (joined s.header (body_of s) []) w in
      let n : ℕ = compact_refusal s.header k in
      let same : n ≡ refusal p (lengths_lent s w) compacting = compact_checks_lem r k ∙ (unfold refusal compact_checks stores_short words_short in refl) in
      elim (some_number n) [
        | inl e ↦
            let d : s.header.dead ≡ dead p = ap (λ (h : Header). h.dead) r.shown.header in
            rw (counted_accepted (answer_view answer) _ (compacting_wears s) (m.table e (s.pending ++ more) p (body_part rest r (compact_accepted s.header k e).long)).answers)
            (done_balanced p c (sym same ∙ e) (wear 0 0 s.header.dead 0) refl refl (omega arith) (omega (arith, d, live_dead p, compacted_live p)))
        | inr h ↦ rw (counted_refused (answer_view answer) n (compacting_wears s) (ruled_refused (answer_view answer) n m.refusal h)) (refused_balanced p c (rw same at h))
      ]

  cleared_balanced : (w : CompactionWords) (answer : Result Header Refusal) (keys' : List ℕ) → Clearing s.header s.keys answer keys'
      → Balanced p (lent_call clearing s w) (if_accepted (answer_view answer) (clearing_wears s) (wear 0 0 0 0))
  unfolding done merge_or_clear
  cleared_balanced w answer keys' m =
      let c = lent_call clearing s w in
      let l = c.lengths in
      let n : ℕ = clear_refusal s.header (length s.keys) in
      let same : n ≡ refusal p l clearing = clear_checks_lem r l in
      elim (some_number n) [
        | inl e ↦
            let k = (clear_accepted s.header (length s.keys) e).keys_long in
            let t = m.table e (s.rows ++ rest.rows) (s.sorts ++ rest.sorts) (s.pending ++ more) p (keys_part rest.keys r k) in
            rw (counted_accepted (answer_view answer) _ (clearing_wears s) t.answers)
            (done_balanced p c (sym same ∙ e) (wear 0 0 0 s.header.rows) refl refl (omega arith) (omega (arith, rows_counted r, cleared_rows p)))
        | inr h ↦ rw (counted_refused (answer_view answer) n (clearing_wears s) (ruled_refused (answer_view answer) n m.refusal h)) (refused_balanced p c (rw same at h))
      ]

  called_balanced : {c : LentCall} {t : Stores} (call : Called s c t) → Balanced p c (wear_of_call call)
  unfolding wear_of_call done merge_or_clear stage stage_all
  called_balanced (stages w q answer pending' m) = staged_balanced p _ (λ number. refl) refl
  called_balanced (merges w answer b' w' m) = merged_balanced w answer b' w' m
  called_balanced (compacts w answer b' w' m) = compacted_balanced w answer b' w' m
  called_balanced (clears w answer keys' m) = cleared_balanced w answer keys' m
  called_balanced (refreshes w q index answer pending' index' m sound) = staged_balanced p _ (λ number. refl) refl
  called_balanced (refreshes_unsound w q index answer pending' index' m unsound) = staged_balanced p _ (λ number. refl) refl

-- ---- all the calls

record Accounted (p : Plain) (cs : List LentCall) (w : Wear) : Type 0 where
  kept : w.kept ≡ sum_over_merges merge_keeps p cs
  dropped : w.dropped ≡ sum_over_merges merge_drops p cs
  fewer : w.kept ≤ w.dropped
  rows : length p.rows + sum_over_merges merge_adds p cs ≡ length (after_all p cs).rows + (w.dropped + w.compacted) + w.emptied

steps_accounted : {p : Plain} {s t : Stores} {cs : List LentCall} → Represents p s → (steps : Steps s cs t) → Accounted p cs (wear_of_steps steps)
unfolding wear_of_steps sum_over_merges after_all
steps_accounted r (end s) = record { kept = refl; dropped = refl; fewer = omega arith; rows = omega arith }
steps_accounted {p = p} r (next {c = c} (called {s} rest more call) steps) =
    let a = called_balanced s rest more r call in
    let b = steps_accounted {p = after p c.lengths c.call} (step_represents r (called rest more call)) steps in
    record {
      kept = omega (arith, a.kept, b.kept);
      dropped = omega (arith, a.dropped, b.dropped);
      fewer = omega (arith, a.fewer, b.fewer);
      rows = omega (arith, a.rows, b.rows);
    }

pub price_of_compaction : PriceOfCompaction
unfolding opened
price_of_compaction o generation calls s h =
    let a = steps_accounted (opened_represents h) h.steps in
    let n = rows_counted (history_represents h) in
    record {
      kept_sum = a.kept;
      dropped_sum = a.dropped;
      kept_few = omega (arith, a.rows, a.fewer);
      accounted = omega (arith, a.rows, n);
    }
