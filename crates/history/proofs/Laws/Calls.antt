-- Every call takes stores that show a plain table to stores that show the plain table after the same call. So does a history.
-- Assumes nothing.
use Rattle.refresh_spec.specs.declared.Refreshed.{Refreshed}
use Rattle.table.specs.declared.Merge.{Merge}
use Rattle.table.specs.declared.Header.{Header}
use Rattle.refusals.specs.declared.Refusal.{Refusal}
use Rattle.std.specs.Prelude.{Result}
use Rattle.history.proofs.Laws.Prelude.{ℕ, ◌*◌, ◌≤◌, ◌<◌, ◌≡◌, refl, sym, ◌∙◌, inl, inr, List, [], append-nil, arith, length, some_number, Opening, Staged, Plain, opened, Refresh, refused_nothing, accepted_done, whole_right, stage_refusal, merge_refusal, compact_refusal, clear_refusal, Stores, Represents, Staging, Merging, Compacting, Clearing, Body, body, body_of, joined, CompactionWords, lengths_lent, stage_checks_lem, merge_checks_lem, compact_checks_lem, clear_checks_lem, stage_accepted, merge_accepted, compact_accepted, clear_accepted, opening_done, staging_done, staging_refused, merging_done, merging_refused, compacting_done, compacting_refused, clearing_done, clearing_refused, pending_part, pending_more, rows_part, rows_more, keys_part, keys_more, body_part, body_more, IndexSound, Refreshing, refresh_refusal_same, records_all, records_whole, number, found_records, passed, refreshing_done, refreshing_refused, fed_accepted, fed_refused, lent_call, Called, stages, merges, compacts, clears, refreshes, refreshes_unsound, behind, Step, called, Steps, end, next, History}
use Rattle.lists.specs.Lists.{any}
use Rattle.refusals.specs.Refusals.{first_refusal, if_accepted}
use Rattle.plain_table.specs.Refusing.{Lengths, stores_short, words_short, compact_checks}
use Rattle.plain_table.specs.Calls.{Call, staging, merging, compacting, clearing, refreshing, feeding, records_of, stage_all, refusal, done, after, LentCall, after_all}
use Rattle.refusals.specs.Refusals.{answer_view}

-- ---- the calls

-- a call that the plain table accepts takes effect
goes : (p : Plain) {t : Stores} (l : Lengths) (c : Call) → refusal p l c ≡ 0 → Represents (done p c) t → Represents (after p l c) t
goes p l c e d = rw (accepted_done p l c e) d

-- the lent part of each store, and the cells behind it
module _ {p : Plain} (s : Stores) (rest : Body) (more : List ℕ) (r : Represents p (behind s rest more)) where
  unchanged : (t : Stores) → t ≡ s → Represents p (behind t rest more)
  unchanged t e = rw e r

  -- a call that the plain table refuses leaves both unchanged
  stays : (l : Lengths) (c : Call) (t : Stores) → 0 < refusal p l c → t ≡ s → Represents (after p l c) (behind t rest more)
  stays l c t h e = rw (refused_nothing p l c h) (unchanged t e)

  staged_represents : (w : CompactionWords) (q : Staged) (answer : Result Header Refusal) (pending' : List ℕ) → Staging s.header s.pending q answer pending'
      → Represents (after p (lent_call (staging q) s w).lengths (staging q)) (behind (joined (if_accepted (answer_view answer) (λ h. h) s.header) (body_of s) pending') rest more)
  unfolding done
  staged_represents w q answer pending' m =
      let l = (lent_call (staging q) s w).lengths in
      let n : ℕ = stage_refusal s.header (length s.pending) q in
      let same : n ≡ refusal p l (staging q) = stage_checks_lem r l q in
      elim (some_number n) [
        | inl e ↦
            let k = (stage_accepted s.header (length s.pending) q e).free in
            goes p l (staging q) (sym same ∙ e) (pending_more more (staging_done m e (pending_part more r (omega arith))))
        | inr h ↦ stays l (staging q) _ (rw same at h) (staging_refused m h)
      ]

  merged_represents : (w : CompactionWords) (answer : Result Merge Refusal) (b' : Body) (w' : CompactionWords) → Merging s w answer b' w'
      → Represents (after p (lengths_lent s w) merging) (behind (joined (if_accepted (answer_view answer) (λ m. m.header) s.header) b' s.pending) rest more)
  unfolding done
  merged_represents w answer b' w' m =
      let l = lengths_lent s w in
      let n : ℕ = merge_refusal s.header l in
      let same : n ≡ refusal p l merging = merge_checks_lem r l in
      elim (some_number n) [
        | inl e ↦
            let k = merge_accepted s.header l e in
            let t = merging_done m e (body_part rest (pending_part more r k.pending_fits) k.long) in
            goes p l merging (sym same ∙ e) (pending_more more (body_more rest t))
        | inr h ↦ stays l merging _ (rw same at h) (merging_refused m h)
      ]

  compacted_represents : (w : CompactionWords) (answer : Result Header Refusal) (b' : Body) (w' : CompactionWords) → Compacting s.header (body_of s) w answer b' w'
      → Represents (after p (lengths_lent s w) compacting) (behind (joined (if_accepted (answer_view answer) (λ h. h) s.header) b' s.pending) rest more)
  unfolding done
  compacted_represents w answer b' w' m =
      let l = lengths_lent s w in
      -- the pending store is not lent, and the checks do not read it
      let k = lengths_lent (joined s.header (body_of s) []) w in
      let n : ℕ = compact_refusal s.header k in
      let same : n ≡ refusal p l compacting = compact_checks_lem r k ∙ (unfold refusal compact_checks stores_short words_short in refl) in
      elim (some_number n) [
        | inl e ↦
            goes p l compacting (sym same ∙ e) (body_more rest (compacting_done m e (body_part rest r (compact_accepted s.header k e).long)))
        | inr h ↦ stays l compacting _ (rw same at h) (compacting_refused m h)
      ]

  cleared_represents : (w : CompactionWords) (answer : Result Header Refusal) (keys' : List ℕ) → Clearing s.header s.keys answer keys'
      → Represents (after p (lent_call clearing s w).lengths clearing) (behind (joined (if_accepted (answer_view answer) (λ h. h) s.header) (body s.rows keys' s.sorts) s.pending) rest more)
  unfolding done
  cleared_represents w answer keys' m =
      let l = (lent_call clearing s w).lengths in
      let n : ℕ = clear_refusal s.header (length s.keys) in
      let same : n ≡ refusal p l clearing = clear_checks_lem r l in
      elim (some_number n) [
        | inl e ↦
            let k = (clear_accepted s.header (length s.keys) e).keys_long in
            goes p l clearing (sym same ∙ e) (keys_more rest.keys (clearing_done m e (keys_part rest.keys r k)))
        | inr h ↦ stays l clearing _ (rw same at h) (clearing_refused m h)
      ]

  module _ {q : Refresh} {index pending' index' : List ℕ} {answer : Result Refreshed Refusal} (m : Refreshing s.header s.rows s.pending index q answer pending' index') where
    -- the lent stores after a refresh, with the cells behind them
    abbrev stores_refreshed : Stores
    stores_refreshed = behind (joined (if_accepted (answer_view answer) (λ a. a.header) s.header) (body_of s) pending') rest more

    -- if accepted, it has staged the records that it found
    found_represents : number m ≡ 0 → Represents (stage_all p (found_records m)) stores_refreshed
    found_represents e =
        let k = passed m e in
        pending_more more (rows_more rest.rows (refreshing_done m e (rows_part rest.rows (pending_part more r k.pending_fits) k.rows_long)))

    -- over a sound index store these are the plain table's own records, and both give the same refusal
    pub own_records : IndexSound s.header s.rows q.columns index → s.header.capacity * s.header.columns ≤ length s.rows → found_records m ≡ records_of p q
    own_records sound long = records_all (rows_part rest.rows r long) q m.found (m.all_found sound)

    pub refresh_same : (w : CompactionWords) → IndexSound s.header s.rows q.columns index
        → number m ≡ refusal p (lent_call (refreshing q (length index)) s w).lengths (refreshing q (length index))
    refresh_same w sound = refresh_refusal_same r (lent_call (refreshing q (length index)) s w).lengths (length index) q (found_records m) (own_records sound)

    refreshed_represents : (w : CompactionWords) → IndexSound s.header s.rows q.columns index
        → Represents (after p (lent_call (refreshing q (length index)) s w).lengths (refreshing q (length index))) stores_refreshed
    unfolding done
    refreshed_represents w sound =
        let l = (lent_call (refreshing q (length index)) s w).lengths in
        elim (some_number (number m)) [
          | inl e ↦ goes p l (refreshing q (length index)) (sym (refresh_same w sound) ∙ e) (rw (own_records sound (passed m e).rows_long) at (found_represents e))
          | inr h ↦ stays l (refreshing q (length index)) _ (rw (refresh_same w sound) at h) (refreshing_refused m h)
        ]

    -- over an unsound one the plain table is fed these records; none has a wrong width
    pub fed_right : (l : Lengths) → refusal p l (feeding (if_accepted (answer_view answer) (λ a. found_records m) [])) ≡ 0
    unfolding refusal first_refusal any
    fed_right l =
        elim (some_number (number m)) [
          | inl e ↦ rw (fed_accepted m e, whole_right p.opening (found_records m) (records_whole (rows_part rest.rows r (passed m e).rows_long) q m.found))
          | inr h ↦ rw (fed_refused m h)
        ]

    fed_represents : (l : Lengths) → Represents (after p l (feeding (if_accepted (answer_view answer) (λ a. found_records m) []))) stores_refreshed
    unfolding done stage_all
    fed_represents l =
        goes p l (feeding (if_accepted (answer_view answer) (λ a. found_records m) [])) (fed_right l)
        (elim (some_number (number m)) [
          | inl e ↦ rw (fed_accepted m e) (found_represents e)
          | inr h ↦ rw (fed_refused m h, append-nil p.staged) (unchanged _ (refreshing_refused m h))
        ])

  called_represents : {c : LentCall} {t : Stores} → Called s c t → Represents (after p c.lengths c.call) (behind t rest more)
  called_represents (stages w q answer pending' m) = staged_represents w q answer pending' m
  called_represents (merges w answer b' w' m) = merged_represents w answer b' w' m
  called_represents (compacts w answer b' w' m) = compacted_represents w answer b' w' m
  called_represents (clears w answer keys' m) = cleared_represents w answer keys' m
  called_represents (refreshes w q index answer pending' index' m sound) = refreshed_represents m w sound
  called_represents (refreshes_unsound w q index answer pending' index' m unsound) = fed_represents m _

-- ---- histories

-- one call
pub step_represents : {p : Plain} {s t : Stores} {c : LentCall} → Represents p s → Step s c t → Represents (after p c.lengths c.call) t
step_represents r (called {s} rest more call) = called_represents s rest more r call

-- calls in order
pub steps_represents : {p : Plain} {s t : Stores} {cs : List LentCall} → Represents p s → Steps s cs t → Represents (after_all p cs) t
unfolding after_all
steps_represents r (end s) = r
steps_represents {p = p} r (next {c = c} step steps) = steps_represents {p = after p c.lengths c.call} (step_represents r step) steps

-- an accepted opening
pub opened_represents : {o : Opening} {generation : ℕ} {calls : List LentCall} {s : Stores} (h : History o generation calls s) → Represents (opened o generation) (behind h.start h.rest h.pending)
unfolding answer_view
opened_represents h = pending_more h.pending (body_more h.rest (opening_done h.opened h.start.header refl))

-- "each on the header and the .. stores as the last left them": the stores show the plain table after the same calls
pub history_represents : {o : Opening} {generation : ℕ} {calls : List LentCall} {s : Stores} → History o generation calls s → Represents (after_all (opened o generation) calls) s
history_represents h = steps_represents (opened_represents h) h.steps
