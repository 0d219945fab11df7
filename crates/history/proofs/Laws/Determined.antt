-- The outcome of calls is determined by the table and the cells before them, whatever each call chose for the key store: the same
-- calls on two tables that differ only in the key store leave two tables that differ only there. Assumes nothing.
use Rattle.history.proofs.Laws.Prelude.{ℕ, zero, suc, ◌<◌, ◌≡◌, refl, sym, ap, ◌∙◌, cond, List, [], ◌∷◌, ◌++◌, map, arith, eqb, length, take, drop, ne_eqb, splice, rows_of, flatten, Plain, applied, merged, compacted, Header, compact_refusal, row_store, sort_store, record_words, Stores, Body, body_of, joined, lengths_lent, Represents, merged_store, MergedTable, CompactedTable, stage_checks_lem, merge_checks_lem, compact_checks_lem, merge_accepted, compact_accepted, pending_part, body_part, found_records, passed, fed_written, lent_call, Called, stages, merges, compacts, clears, refreshes, refreshes_unsound, behind, Step, called, Steps, end, next}
use Rattle.plain_table.specs.Refusing.{stores_short, words_short, compact_checks}
use Rattle.plain_table.specs.Calls.{Call, staging, merging, compacting, clearing, refreshing, feeding, records_of, refusal, after, LentCall}
use Rattle.history.proofs.Laws.Calls.{own_records, refresh_same, fed_right, step_represents}
use Rattle.refusals.specs.Refusals.{if_accepted, answer_view}

-- equal in everything but the key store
pub record SameCells (s t : Stores) : Type 0 where
  pub header : s.header ≡ t.header
  pub rows : s.rows ≡ t.rows
  pub sorts : s.sorts ≡ t.sorts
  pub pending : s.pending ≡ t.pending

-- ---- one call

-- the lent stores after an accepted call
unfoldable rows_done : Plain → Header → Call → List ℕ → List ℕ
rows_done p h (staging r) rows = rows
rows_done p h merging rows = merged_store p (row_store (merged p).table []) (row_store (applied p).table (rows_of h.columns h.rows rows) rows)
rows_done p h compacting rows = row_store (compacted p) [] rows
rows_done p h clearing rows = rows
rows_done p h (refreshing r index) rows = rows
rows_done p h (feeding rs) rows = rows

unfoldable sorts_done : Plain → Call → List ℕ → List ℕ
sorts_done p (staging r) sorts = sorts
sorts_done p merging sorts = merged_store p (sort_store (merged p).table) (sort_store (applied p).table sorts)
sorts_done p compacting sorts = sort_store (compacted p) sorts
sorts_done p clearing sorts = sorts
sorts_done p (refreshing r index) sorts = sorts
sorts_done p (feeding rs) sorts = sorts

unfoldable pending_done : Plain → Header → Call → List ℕ → List ℕ
pending_done p h (staging r) pending = splice pending h.pending (record_words h.keys r)
pending_done p h merging pending = pending
pending_done p h compacting pending = pending
pending_done p h clearing pending = pending
pending_done p h (refreshing r index) pending = splice pending h.pending (flatten (map (record_words h.keys) (records_of p r)))
pending_done p h (feeding rs) pending = splice pending h.pending (flatten (map (record_words h.keys) rs))

-- a store of which the first n cells are lent, after a call
unfoldable changed : ℕ → (List ℕ → List ℕ) → ℕ → List ℕ → List ℕ
changed number done n store = cond (eqb number 0) (done (take n store)) (take n store) ++ drop n store

take_front : (a b : List ℕ) → take (length a) (a ++ b) ≡ a
take_front [] b = refl
take_front (x ∷ a) b = ap (λ (l : List ℕ). x ∷ l) (take_front a b)

drop_front : (a b : List ℕ) → drop (length a) (a ++ b) ≡ b
drop_front [] b = refl
drop_front (x ∷ a) b = drop_front a b

front_changed : (number : ℕ) (done : List ℕ → List ℕ) (a b a' : List ℕ) → (number ≡ 0 → a' ≡ done a) → (0 < number → a' ≡ a)
    → a' ++ b ≡ changed number done (length a) (a ++ b)
unfolding changed
front_changed zero done a b a' goes stays = rw (take_front a b, drop_front a b, goes refl)
front_changed (suc n) done a b a' goes stays = rw (take_front a b, drop_front a b, ne_eqb (suc n) 0 (λ e. omega arith), stays (omega arith))

module _ (p : Plain) (c : LentCall) (s t : Stores) where
  record Leaves : Type 0 where
    pub rows : t.rows ≡ changed (refusal p c.lengths c.call) (rows_done p s.header c.call) c.lengths.rows s.rows
    pub sorts : t.sorts ≡ changed (refusal p c.lengths c.call) (sorts_done p c.call) c.lengths.sorts s.sorts
    pub pending : t.pending ≡ changed (refusal p c.lengths c.call) (pending_done p s.header c.call) c.lengths.pending s.pending

module _ {p : Plain} (s : Stores) (rest : Body) (more : List ℕ) (r : Represents p (behind s rest more)) where
  called_leaves : {c : LentCall} {t : Stores} → Called s c t → Leaves p c (behind s rest more) (behind t rest more)
  unfolding rows_done sorts_done pending_done
  called_leaves (stages w q answer pending' m) =
      let l = (lent_call (staging q) s w).lengths in
      let same = stage_checks_lem r l q in
      record {
        rows = front_changed (refusal p l (staging q)) _ s.rows rest.rows s.rows (λ e. refl) (λ e. refl);
        sorts = front_changed (refusal p l (staging q)) _ s.sorts rest.sorts s.sorts (λ e. refl) (λ e. refl);
        pending = front_changed (refusal p l (staging q)) _ s.pending more pending' (λ e. m.written (same ∙ e)) (λ e. m.unchanged (rw same e));
      }
  called_leaves (merges w answer b' w' m) =
      let l = lengths_lent s w in
      let same = merge_checks_lem r l in
      let table : refusal p l merging ≡ 0 → MergedTable s w answer b' w' p =
      λ e. let k = merge_accepted s.header l (same ∙ e) in m.table (same ∙ e) p (body_part rest (pending_part more r k.pending_fits) k.long) in
      record {
        rows = front_changed (refusal p l merging) _ s.rows rest.rows b'.rows (λ e. (table e).rows_after) (λ e. ap (λ (b : Body). b.rows) (m.unchanged (rw same e)).0);
        sorts = front_changed (refusal p l merging) _ s.sorts rest.sorts b'.sorts (λ e. (table e).sorts_after) (λ e. ap (λ (b : Body). b.sorts) (m.unchanged (rw same e)).0);
        pending = front_changed (refusal p l merging) _ s.pending more s.pending (λ e. refl) (λ e. refl);
      }
  called_leaves (compacts w answer b' w' m) =
      let l = lengths_lent s w in
      -- the pending store is not lent, and the checks do not read it
      let k = lengths_lent (joined s.header (body_of s) []) w in
      let same : compact_refusal s.header k ≡ refusal p l compacting = compact_checks_lem r k ∙ (unfold refusal compact_checks stores_short words_short in refl) in
      let table : refusal p l compacting ≡ 0 → CompactedTable s.header (body_of s) w answer b' w' (s.pending ++ more) p =
      λ e. m.table (same ∙ e) (s.pending ++ more) p (body_part rest r (compact_accepted s.header k (same ∙ e)).long) in
      record {
        rows = front_changed (refusal p l compacting) _ s.rows rest.rows b'.rows (λ e. (table e).rows_after) (λ e. ap (λ (b : Body). b.rows) (m.unchanged (rw same e)).0);
        sorts = front_changed (refusal p l compacting) _ s.sorts rest.sorts b'.sorts (λ e. (table e).sorts_after) (λ e. ap (λ (b : Body). b.sorts) (m.unchanged (rw same e)).0);
        pending = front_changed (refusal p l compacting) _ s.pending more s.pending (λ e. refl) (λ e. refl);
      }
  called_leaves (clears w answer keys' m) =
      let n : ℕ = refusal p (lent_call clearing s w).lengths clearing in
      record {
        rows = front_changed n _ s.rows rest.rows s.rows (λ e. refl) (λ e. refl);
        sorts = front_changed n _ s.sorts rest.sorts s.sorts (λ e. refl) (λ e. refl);
        pending = front_changed n _ s.pending more s.pending (λ e. refl) (λ e. refl);
      }
  called_leaves (refreshes w q index answer pending' index' m sound) =
      let n : ℕ = refusal p (lent_call (refreshing q (length index)) s w).lengths (refreshing q (length index)) in
      let same = refresh_same s rest more r m w sound in
      record {
        rows = front_changed n _ s.rows rest.rows s.rows (λ e. refl) (λ e. refl);
        sorts = front_changed n _ s.sorts rest.sorts s.sorts (λ e. refl) (λ e. refl);
        pending = front_changed n _ s.pending more pending' (λ e. rw (own_records s rest more r m sound (passed m (same ∙ e)).rows_long) at (m.effect.written (same ∙ e))) (λ e. m.effect.unchanged (rw same e));
      }
  called_leaves (refreshes_unsound w q index answer pending' index' m unsound) =
      let c = lent_call (feeding (if_accepted (answer_view answer) (λ a. found_records m) [])) s w in
      let n : ℕ = refusal p c.lengths c.call in
      record {
        rows = front_changed n _ s.rows rest.rows s.rows (λ e. refl) (λ e. refl);
        sorts = front_changed n _ s.sorts rest.sorts s.sorts (λ e. refl) (λ e. refl);
        pending = front_changed n _ s.pending more pending' (λ e. fed_written m) (λ e. absurd (omega (arith, fed_right s rest more r m c.lengths)));
      }

-- ---- one after another

step_leaves : {p : Plain} {s t : Stores} {c : LentCall} → Represents p s → Step s c t → Leaves p c s t
step_leaves r (called {s} rest more call) = called_leaves s rest more r call

step_determined : {p : Plain} {s s' t t' : Stores} {c : LentCall} → Represents p s → Represents p s' → SameCells s s' → Step s c t → Step s' c t' → SameCells t t'
step_determined {p} {s} {s'} {t} {t'} {c} r r' same a b =
    let x = step_leaves r a in
    let y = step_leaves r' b in
    let n : ℕ = refusal p c.lengths c.call in
    record {
      header = (step_represents r a).shown.header ∙ sym (step_represents r' b).shown.header;
      rows = x.rows ∙ ap (changed n (rows_done p s.header c.call) c.lengths.rows) same.rows ∙ ap (λ (h : Header). changed n (rows_done p h c.call) c.lengths.rows s'.rows) same.header ∙ sym y.rows;
      sorts = x.sorts ∙ ap (changed n (sorts_done p c.call) c.lengths.sorts) same.sorts ∙ sym y.sorts;
      pending = x.pending ∙ ap (changed n (pending_done p s.header c.call) c.lengths.pending) same.pending ∙ ap (λ (h : Header). changed n (pending_done p h c.call) c.lengths.pending s'.pending) same.header ∙ sym y.pending;
    }

pub steps_determined : {p : Plain} {s s' t t' : Stores} {cs : List LentCall} → Represents p s → Represents p s' → SameCells s s' → Steps s cs t → Steps s' cs t' → SameCells t t'
steps_determined r r' same (end s) (end s') = same
steps_determined {p = p} r r' same (next {c = c} a more) (next b more') = steps_determined {p = after p c.lengths c.call} (step_represents r a) (step_represents r' b) (step_determined r r' same a b) more more'
