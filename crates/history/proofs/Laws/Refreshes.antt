-- Index stores remain sound along every history, and refreshes over them have the effect of the plain table's, from the contracts
-- alone. Assumes nothing.
use Rattle.refresh_spec.specs.declared.Refreshed.{Refreshed}
use Rattle.refusals.specs.declared.Refusal.{Refusal}
use Rattle.std.specs.Prelude.{Result}
use Rattle.history.proofs.Laws.Prelude.{ℕ, ◌+◌, ◌*◌, ◌≤◌, ◌<◌, ◌≡◌, refl, sym, ap, ◌∙◌, inl, inr, true, false, false≢true, List, [], ◌∷◌, ◌++◌, mul-le-mul_right, arith, length, drop, length-drop, take-append-le, drop-append-le, ltb-false, row_in, some_number, is_live, Opening, Plain, openable_bounds, onward_all, follows_length, Header, Stores, Body, body_of, joined, Represents, reply_refused, rows_counted, rows_part, is_new, generation_seen, looked_up, IndexOf, IndexSound, Current, number, found_records, view_accepted, view_refused, passed, index_more, index_front, new_front, generation_front, continues, named_count, names_of, lookup_holding, refreshes, behind, Step, called, end, next, History, refreshing}
use Rattle.lists.specs.Lists.{row_at}
use Rattle.plain_table.specs.Refreshing.{Refresh, index_short}
use Rattle.plain_table.specs.Calls.{records_of, LentCall, after, after_all}
use Rattle.refresh_spec.specs.Refreshes.{answered, Refreshing}
use Rattle.history.specs.Refreshes.{OwnIndex, adopted, other_call, refreshes as refreshes-kept, holding, own_refusal, RefreshesOwn, OwnIndexesSound}
use Rattle.history.proofs.Laws.Calls.{own_records, refresh_same, step_represents, history_represents}
use Rattle.history.proofs.Laws.Further.{history_then}
use Rattle.history.proofs.Laws.Notes.{generation_shown, same_now}
use Rattle.refusals.specs.Refusals.{if_accepted, answer_view}
use Rattle.history.specs.Histories.{lent_call}
use Rattle.table.specs.Outcomes.{CompactionWords, compaction_words}

-- ---- two tables with a row store each; the second has no fewer rows

module _ {h g : Header} {rows rows' index : List ℕ} (more : h.rows ≤ g.rows) (capacity : g.capacity ≡ h.capacity)
    (same : (i : ℕ) → i < h.rows → is_live (row_at g.columns i rows') ≡ true → row_at g.columns i rows' ≡ row_at h.columns i rows) where
  -- if the live rows are the same, an index of one table is an index of the other
  index_again : IndexOf h rows index → IndexOf g rows' index
  index_again o =
      record {
        seen = omega (arith, o.seen);
        buckets_few = rw capacity o.buckets_few;
        listed = λ row place below live there.
            let e = same row (omega (arith, o.seen)) live in
            rw (e, capacity) (o.listed row place below (rw e at live) there);
      }

-- any first part of the row store has the same rows
row_front : (h : Header) (rows more : List ℕ) → h.rows * h.columns ≤ length rows → (i : ℕ) → i < h.rows → row_at h.columns i (rows ++ more) ≡ row_at h.columns i rows
unfolding row_at
row_front h rows more long i k =
    let e = row_in i h.rows h.columns k in
    rw (drop-append-le (i * h.columns) rows more (omega arith), take-append-le h.columns (drop (i * h.columns) rows) more (simp length-drop (omega arith)))

-- ---- an index store that only this table's refreshes have written

-- its generation is not later than the table's, and if it is the same, the store is an index of the table
record Followed (h : Header) (rows index : List ℕ) : Type 0 where
  not_later : is_new index ≡ false → generation_seen index ≤ h.generation
  of_now : is_new index ≡ false → generation_seen index ≡ h.generation → IndexOf h rows index

-- such a store, beside stores that represent a plain table
record Beside (t : Stores) (index : List ℕ) : Type 0 where
  plain : Plain
  represents : Represents plain t
  followed : Followed t.header t.rows index

rows_fit : {p : Plain} {s : Stores} → Represents p s → s.header.rows ≤ s.header.capacity
rows_fit r = rw r.shown.header r.proper.rows_fit

capacity_some : {p : Plain} {s : Stores} → Represents p s → 0 < s.header.capacity
capacity_some {p} r = rw r.shown.header (openable_bounds p.opening r.proper.numbers).capacity_some

-- any other call preserves this
other_call_beside : {t u : Stores} {c : LentCall} {index : List ℕ} → Beside t index → Step t c u → Beside u index
unfolding after_all
other_call_beside {c = c} b step =
    let r = b.represents in
    let s = step_represents r step in
    let onward = onward_all b.plain (c ∷ []) in
    let g = generation_shown r in
    let g' = generation_shown s in
    let f = b.followed in
    record {
      plain = after b.plain c.lengths c.call;
      represents = s;
      followed = record {
        not_later = λ written. omega (arith, f.not_later written, onward.generation);
        of_now = λ written now.
            let e = f.not_later written in
            let k = onward.follows (omega (arith, onward.generation)) in
            index_again (omega (arith, follows_length k, rows_counted r, rows_counted s))
            (ap (λ (x : Header). x.capacity) s.shown.header ∙ ap (λ (x : Opening). x.capacity) onward.opening ∙ sym (ap (λ (x : Header). x.capacity) r.shown.header))
            (same_now r s k)
            (f.of_now written (omega (arith, onward.generation)));
      };
    }

module _ (t : Stores) (rest : Body) (pending lent more : List ℕ) (b : Beside (behind t rest pending) (lent ++ more)) where
  rows_long : t.header.capacity * t.header.columns ≤ length t.rows → t.header.rows * t.header.columns ≤ length t.rows
  rows_long long = omega (arith, mul-le-mul_right t.header.columns (rows_fit b.represents))

  -- any first part of it is sound
  lent_sound : (columns : List ℕ) → IndexSound t.header t.rows columns lent
  unfolding index_short
  lent_sound columns long not_IsShort not-afresh =
      let h = t.header in
      let r = b.represents in
      let on = continues h columns lent not-afresh in
      let l : 16 + 3 * (h.capacity * length columns) ≤ length lent = ltb-false _ _ not_IsShort in
      let n = named_count h.capacity columns lent (capacity_some r) l on.columns_are in
      let o = b.followed.of_now (new_front lent more (omega arith) ∙ on.written) (generation_front lent more (omega arith) ∙ on.generation) in
      index_again (omega arith) refl (λ i k live. sym (row_front h t.rows rest.rows (rows_long long) i k))
      (index_front h lent more (rows_fit r) (rw n l) o)

  module _ {q : Refresh} {answer : Result Refreshed Refusal} {pending' lent' : List ℕ} (m : Refreshing t.header t.rows t.pending lent q answer pending' lent') where
    refreshed_followed : Followed (if_accepted (answer_view answer) (λ a. a.header) t.header) (t.rows ++ rest.rows) (lent' ++ more)
    unfolding if_accepted
    refreshed_followed =
        let h = t.header in
        let r = b.represents in
        elim (some_number (number m)) [
          | inl e ↦
              let c = m.current e (lent_sound q.columns) in
              let l : 16 + 3 * (h.capacity * length q.columns) ≤ length lent' = omega (arith, (passed m e).index_long, m.length_same) in
              let n = named_count h.capacity q.columns lent' (capacity_some r) l c.columns_are in
              let o = index_more h lent' more (rows_fit r) (rw n l) c.index_of in
              rw (view_accepted m e)
              (record {
                not_later = λ written. omega (arith, generation_front lent' more (omega arith), c.generation);
                of_now = λ written now. index_again (omega arith) refl (λ i k live. row_front h t.rows rest.rows (rows_long (passed m e).rows_long) i k) o;
              })
          | inr some ↦ rw (view_refused m some, m.index_unchanged some) b.followed
        ]

    -- the refresh is a step of a history
    abbrev stores_refreshed : Stores
    stores_refreshed = behind (joined (if_accepted (answer_view answer) (λ a. a.header) t.header) (body_of t) pending') rest pending

    own_step : (w : CompactionWords) → Step (behind t rest pending) (lent_call (refreshing q (length lent)) t w) stores_refreshed
    own_step w = called {s = t} rest pending (refreshes w q lent answer pending' lent' m (lent_sound q.columns))

    refreshes_beside : Beside stores_refreshed (lent' ++ more)
    refreshes_beside = record { plain = _; represents = step_represents b.represents (own_step (compaction_words [] [])); followed = refreshed_followed }

    -- it has the effect of the plain table's refresh
    module _ {p : Plain} (r : Represents p (behind t rest pending)) where
      refused_same : number m ≡ own_refusal p t q lent
      refused_same = refresh_same t rest pending r m (compaction_words [] []) (lent_sound q.columns)

      accepted_same : own_refusal p t q lent ≡ 0 → number m ≡ 0
      accepted_same e = refused_same ∙ e

      records_same : number m ≡ 0 → found_records m ≡ records_of p q
      records_same e = own_records t rest pending r m (lent_sound q.columns) (passed m e).rows_long

      refreshes_current : number m ≡ 0 → Current t.header t.rows q.columns lent'
      refreshes_current e = m.current e (lent_sound q.columns)

      looks_up : number m ≡ 0 → (value : ℕ) → looked_up t.header t.rows lent' value ≡ holding p q.columns value
      looks_up e value =
          let k = passed m e in
          let c = refreshes_current e in
          let l : 16 + 3 * (t.header.capacity * length q.columns) ≤ length lent' = omega (arith, k.index_long, m.length_same) in
          lookup_holding (rows_part rest.rows r k.rows_long) (names_of t.header.capacity q.columns lent' (capacity_some b.represents) l c.columns_are)
          c.index_of c.seen_all c.columns_are value

      refreshes_own : RefreshesOwn p t q lent answer pending' lent'
      refreshes_own =
          record {
            answers =
                elim (some_number (number m)) [
                  | inl e ↦ rw (← refused_same, ← records_same e) m.effect.answers
                  | inr some ↦ rw (← refused_same) (view_refused m some ∙ sym (reply_refused (number m) (answered t.header (records_of p q)) some))
                ];
            unchanged = λ some. (m.effect.unchanged (rw refused_same some), m.index_unchanged (rw refused_same some));
            staged = λ e. rw (← records_same (accepted_same e)) (m.effect.written (accepted_same e));
            current = λ e. refreshes_current (accepted_same e);
            looked_up_rows = λ e. looks_up (accepted_same e);
          }

-- ---- a history and an index store that it keeps

own_index_beside : {o : Opening} {generation : ℕ} {calls : List LentCall} {t : Stores} {index : List ℕ} → OwnIndex o generation calls t index
    → History o generation calls t × Beside t index
own_index_beside (adopted index history is) = (
  history,
  record {
    plain = _;
    represents = history_represents history;
    followed = record { not_later = λ written. absurd (false≢true (sym written ∙ is)); of_now = λ written now. absurd (false≢true (sym written ∙ is)) };
  },
)
own_index_beside (other_call {u = u} kept step) = let k = own_index_beside kept in (history_then k.0 (next step (end u)), other_call_beside k.1 step)
own_index_beside (refreshes-kept t rest pending lent more w q answer pending' lent' kept m) =
    let k = own_index_beside kept in
    (history_then k.0 (next (own_step t rest pending lent more k.1 m w) (end _)), refreshes_beside t rest pending lent more k.1 m)

pub own_indexes_sound : OwnIndexesSound
own_indexes_sound =
    record {
      sound = λ o generation calls t rest pending lent more columns kept. lent_sound t rest pending lent more (own_index_beside kept).1 columns;
      history = λ o generation calls s index kept. (own_index_beside kept).0;
      refreshed = λ o generation calls t rest pending lent more r answer pending' lent' kept m.
          let k = own_index_beside kept in
          refreshes_own t rest pending lent more k.1 m (history_represents k.0);
    }
