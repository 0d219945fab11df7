-- Requests executed one after another: they are steps of a history; their effect on the index store; and that with a new index
-- store the calls are those requested. Assumes nothing.
use Rattle.refresh_spec.specs.declared.Refreshed.{Refreshed}
use Rattle.refusals.specs.declared.Refusal.{Refusal}
use Rattle.replay.specs.Laws.CallPrelude.{ℕ, refl, sym, ap, ◌∙◌, inl, inr, true, false, false≢true, List, [], map, append-nil, mul-le-mul_left, arith, length, drop, drop-drop, ltb-false, or_no_left, or_no_right, some_number, Opening, Lengths, Plain, first_refusal_no, first_refusal_rest, onward_all, Header, Stores, body, Represents, is_new, IndexSound, number, OwnIndex, adopted, other_call, refreshes, step_represents, own_indexes_sound, behind_nothing, whole_step}
use Rattle.std.specs.Prelude.{Bool, ◌+◌, ◌*◌, ◌-◌, ◌≤◌, ◌≡◌, ◌∷◌, ◌++◌, Result}
use Rattle.lists.specs.Lists.{any}
use Rattle.plain_table.specs.Refreshing.{Refresh, refresh_checks}
use Rattle.plain_table.specs.Calls.{Call, refreshing, after, after_all, LentCall}
use Rattle.refresh_spec.specs.Refreshes.{refresh_refusal, Refreshing}
use Rattle.history.specs.Histories.{refreshed_stores, Called, stages, merges, compacts, clears, refreshes as call-refreshes, refreshes_unsound, behind, Steps, end as steps-end, next as steps_next, History, lent_call}
use Rattle.replay.specs.Requests.{Request, make, refresh, lent_to, Served, made, refreshed, refreshed_unsound, ServedAll, end, next}
use Rattle.table.specs.Outcomes.{SamePast, compaction_words}

-- the call that a request corresponds to with a sound index store of this length
unfoldable pub requested : ℕ → Request → Call
requested index (make c) = c
requested index (refresh r) = refreshing r index

-- each of the calls with these lengths
abbrev pub lent_all : Lengths → List Call → List LentCall
lent_all l calls = map (lent_to l) calls

unfoldable pub is_refresh : Request → Bool
is_refresh (make c) = false
is_refresh (refresh r) = true

-- ---- steps of a history

pub served_steps : {l : Lengths} {s t : Stores} {index index' : List ℕ} {qs : List Request} {cs : List Call} → ServedAll l s index qs cs t index' → Steps s (lent_all l cs) t
served_steps (end s index) = steps-end s
served_steps (next one call more) = steps_next (whole_step call) (served_steps more)

pub served_then : {l : Lengths} {s t u : Stores} {index index' index'' : List ℕ} {qs rs : List Request} {cs ds : List Call}
    → ServedAll l s index qs cs t index' → ServedAll l t index' rs ds u index'' → ServedAll l s index (qs ++ rs) (cs ++ ds) u index''
served_then (end s index) rest = rest
served_then (next one call more) rest = next one call (served_then more rest)

-- ---- the index store

-- without a refresh it is unchanged
served_unused : {s t : Stores} {index index' : List ℕ} {q : Request} {c : Call} → Served s index q c t index' → is_refresh q ≡ false → index' ≡ index
unfolding is_refresh
served_unused (made c t) none = refl
served_unused (refreshed r answer pending' index' m sound) none = absurd (false≢true (sym none))
served_unused (refreshed_unsound r answer pending' index' m unsound) none = absurd (false≢true (sym none))

pub index_unused : {l : Lengths} {s t : Stores} {index index' : List ℕ} {qs : List Request} {cs : List Call} → ServedAll l s index qs cs t index' → any is_refresh qs ≡ false → index' ≡ index
unfolding any
index_unused (end s index) none = refl
index_unused (next {q = q} one call more) none = index_unused more (or_no_right (is_refresh q) _ none) ∙ served_unused one (or_no_left (is_refresh q) _ none)

-- words past those that a refresh may need are unchanged
drop_further : (a b : List ℕ) (m n : ℕ) → m ≤ n → drop m a ≡ drop m b → drop n a ≡ drop n b
drop_further a b m n h e =
    let k : m + (n - m) ≡ n = omega arith in
    rw (sym k) (sym (drop-drop (n - m) m a) ∙ ap (drop (n - m)) e ∙ drop-drop (n - m) m b)

module _ {h : Header} {rows pending index pending' index' : List ℕ} {r : Refresh} {answer : Result Refreshed Refusal} (m : Refreshing h rows pending index r answer pending' index') where
  columns_few : number m ≡ 0 → length r.columns ≤ 8
  unfolding refresh_refusal refresh_checks
  columns_few e = ltb-false _ _ (first_refusal_no _ 11 _ (first_refusal_rest _ 1 _ (first_refusal_rest _ 0 _ e)))

  refreshing_past : SamePast (16 + 24 * h.capacity) index index'
  refreshing_past =
      elim (some_number (number m)) [
        | inl e ↦
            let few = mul-le-mul_left h.capacity (columns_few e) in
            drop_further index' index (16 + 3 * (h.capacity * length r.columns)) (16 + 24 * h.capacity) (omega arith) m.past
        | inr some ↦ ap (drop (16 + 24 * h.capacity)) (m.index_unchanged some)
      ]

module _ {p : Plain} {s : Stores} (r : Represents p s) where
  served_past : {t : Stores} {index index' : List ℕ} {q : Request} {c : Call} → Served s index q c t index' → SamePast (16 + 24 * p.opening.capacity) index index'
  served_past (made c t) = refl
  served_past (refreshed q answer pending' index' m sound) = rw (ap (λ (h : Header). h.capacity) r.shown.header) at (refreshing_past m)
  served_past (refreshed_unsound q answer pending' index' m unsound) = rw (ap (λ (h : Header). h.capacity) r.shown.header) at (refreshing_past m)

pub index_past : {l : Lengths} {p : Plain} {s t : Stores} {index index' : List ℕ} {qs : List Request} {cs : List Call} → Represents p s → ServedAll l s index qs cs t index' → SamePast (16 + 24 * p.opening.capacity) index index'
unfolding after_all
index_past r (end s index) = refl
index_past {l} {p} r (next {c = c} one call more) =
    let opening = (onward_all p (lent_to l c ∷ [])).opening in
    (rw opening at (index_past {p = after p l c} (step_represents r (whole_step call)) more)) ∙ served_past r one

-- ---- the key store

-- slots past those needed are never written
called_slots : {s t : Stores} {c : LentCall} → Called s c t → SamePast (2 * s.header.capacity) s.keys t.keys
called_slots (stages w r answer pending' m) = refl
called_slots (merges w answer b' w' m) = m.past
called_slots (compacts w answer b' w' m) = m.past
called_slots (clears w answer keys' m) = m.past
called_slots (call-refreshes w r index answer pending' index' m sound) = refl
called_slots (refreshes_unsound w r index answer pending' index' m unsound) = refl

pub slots_past : {l : Lengths} {p : Plain} {s t : Stores} {index index' : List ℕ} {qs : List Request} {cs : List Call} → Represents p s → ServedAll l s index qs cs t index' → SamePast (2 * p.opening.capacity) s.keys t.keys
unfolding after_all
slots_past r (end s index) = refl
slots_past {l} {p} r (next {c = c} one call more) =
    let opening = (onward_all p (lent_to l c ∷ [])).opening in
    (rw opening at (slots_past {p = after p l c} (step_represents r (whole_step call)) more)) ∙ (rw (ap (λ (h : Header). h.capacity) r.shown.header) at (called_slots call))

-- ---- with a new index store

both : {c d : Call} {cs ds : List Call} → c ≡ d → cs ≡ ds → c ∷ cs ≡ d ∷ ds
both e f = λ i. e i ∷ f i

-- an index store that some history maintained
abbrev KeptSome : Opening → ℕ → Stores → List ℕ → Type 0
KeptSome o generation s index = (calls : List LentCall) × OwnIndex o generation calls s index

module _ {o : Opening} {generation : ℕ} where
  -- a refresh that is lent the whole index store
  refreshed_kept : {calls : List LentCall} {index pending' index' : List ℕ} (s : Stores) {r : Refresh} {answer : Result Refreshed Refusal} → OwnIndex o generation calls s index
      → Refreshing s.header s.rows s.pending index r answer pending' index' → OwnIndex o generation (calls ++ (lent_call (refreshing r (length index)) s (compaction_words [] []) ∷ [])) (refreshed_stores s answer pending') index'
  refreshed_kept {calls} {index} {pending'} {index'} s {r} {answer} kept m =
      go (behind_nothing (refreshed_stores s answer pending')) (append-nil index')
    where
      go : {a : Stores} {b : List ℕ} → behind (refreshed_stores s answer pending') (body [] [] []) [] ≡ a → index' ++ [] ≡ b → OwnIndex o generation (calls ++ (lent_call (refreshing r (length index)) s (compaction_words [] []) ∷ [])) a b
      go e f = rw (← e, ← f) (refreshes {calls = calls} s (body [] [] []) [] index [] (compaction_words [] []) r answer pending' index' (rw (behind_nothing s, append-nil index) kept) m)

  -- it is sound for a refresh by any columns
  kept_sound : {calls : List LentCall} {s : Stores} {index : List ℕ} → OwnIndex o generation calls s index → (columns : List ℕ) → IndexSound s.header s.rows columns index
  kept_sound {calls} {s} {index} kept columns =
      own_indexes_sound.sound o generation calls s (body [] [] []) [] index [] columns (rw (behind_nothing s, append-nil index) kept)

  served_kept : {l : Lengths} {s t : Stores} {index index' : List ℕ} {q : Request} {c : Call} → KeptSome o generation s index → Served s index q c t index' → Called s (lent_to l c) t → KeptSome o generation t index'
  served_kept (calls, kept) (made c t) call = (_, other_call kept (whole_step call))
  served_kept {s = s} (calls, kept) (refreshed r answer pending' index' m sound) call = (_, refreshed_kept s kept m)
  served_kept {s = s} (calls, kept) (refreshed_unsound r answer pending' index' m unsound) call = (_, refreshed_kept s kept m)

  all_kept : {l : Lengths} {s t : Stores} {index index' : List ℕ} {qs : List Request} {cs : List Call} → KeptSome o generation s index → ServedAll l s index qs cs t index' → KeptSome o generation t index'
  all_kept kept (end s index) = kept
  all_kept kept (next one call more) = all_kept (served_kept kept one call) more

  served_requested : {s t : Stores} {index index' : List ℕ} {q : Request} {c : Call} → KeptSome o generation s index → Served s index q c t index'
      → (c ≡ requested (length index) q) × (length index' ≡ length index)
  unfolding requested
  served_requested kept (made c t) = (refl, refl)
  served_requested kept (refreshed r answer pending' index' m sound) = (refl, m.length_same)
  served_requested kept (refreshed_unsound r answer pending' index' m unsound) = absurd (unsound (kept_sound kept.1 r.columns))

  all_requested : {l : Lengths} {s t : Stores} {index index' : List ℕ} {qs : List Request} {cs : List Call} → KeptSome o generation s index → ServedAll l s index qs cs t index'
      → cs ≡ map (requested (length index)) qs
  all_requested kept (end s index) = refl
  all_requested kept (next one call more) =
      let e = served_requested kept one in
      let f = all_requested (served_kept kept one call) more in
      both e.0 (rw e.1 at f)

  module _ {before : List LentCall} {s t : Stores} {l : Lengths} {index index' : List ℕ} {qs : List Request} {cs : List Call}
      (history : History o generation before s) (new : is_new index ≡ true) (all : ServedAll l s index qs cs t index') where
    -- "the plain table stages these records of its own rows"
    pub calls_requested : cs ≡ map (requested (length index)) qs
    calls_requested = all_requested (before, adopted index history new) all

    -- afterwards it is still sound
    pub index_sound : (columns : List ℕ) → IndexSound t.header t.rows columns index'
    index_sound = kept_sound (all_kept (before, adopted index history new) all).1

-- without a refresh the calls are those requested, whatever the index store contains
served_plain : {s t : Stores} {index index' : List ℕ} {q : Request} {c : Call} (n : ℕ) → Served s index q c t index' → is_refresh q ≡ false → c ≡ requested n q
unfolding is_refresh requested
served_plain n (made c t) none = refl
served_plain n (refreshed r answer pending' index' m sound) none = absurd (false≢true (sym none))
served_plain n (refreshed_unsound r answer pending' index' m unsound) none = absurd (false≢true (sym none))

pub calls_plain : {l : Lengths} {s t : Stores} {index index' : List ℕ} {qs : List Request} {cs : List Call} (n : ℕ) → ServedAll l s index qs cs t index' → any is_refresh qs ≡ false
    → cs ≡ map (requested n) qs
unfolding any
calls_plain n (end s index) none = refl
calls_plain n (next {q = q} one call more) none = both (served_plain n one (or_no_left (is_refresh q) _ none)) (calls_plain n more (or_no_right (is_refresh q) _ none))
