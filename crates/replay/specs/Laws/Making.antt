-- Requests executed one after another, and the step of each. Assumes nothing.
use Rattle.refresh_spec.specs.declared.Refreshed.{Refreshed}
use Rattle.table.specs.declared.Merge.{Merge}
use Rattle.refusals.specs.declared.Refusal.{Refusal}
use Rattle.std.specs.Prelude.{◌+◌, ◌≡◌, ◌∷◌, ◌++◌, Result}
use Rattle.replay.specs.Laws.CallPrelude.{ℕ, refl, sym, ap, ◌∙◌, inl, inr, List, [], map-append, arith, some_number, Staged, Refresh, onward_all, accepted_done, Header, merge_refusal, compact_refusal, Stores, stores, body, CompactionWords, compaction_words, lengths, Represents, WordsPast, Staging, Merging, Compacting, Clearing, merge_checks_lem, compact_checks_lem, Refreshing, index_decided, steps_represents, Request, make, refresh, lent_to, Served, made, refreshed, refreshed_unsound, end, next, Made, MadeOnPending, MadeOnIndex}
use Rattle.plain_table.specs.Refusing.{Lengths, stores_short, words_short, compact_checks}
use Rattle.plain_table.specs.Plain.{Plain, merged, compacted}
use Rattle.plain_table.specs.Appending.{merge_or_clear}
use Rattle.plain_table.specs.Calls.{Call, staging, merging, compacting, clearing, refusal, done, after, LentCall, after_all}
use Rattle.history.specs.Histories.{Called, stages, merges, compacts, clears, refreshes, refreshes_unsound}
use Rattle.replay.specs.Replays.{compactions}
use Rattle.replay.specs.Laws.Requests.{served_steps, served_then, lent_all}
use Rattle.refusals.specs.Refusals.{if_accepted, answer_view}

-- no request
pub none_made : {requests : List Request} (l : Lengths) (s : Stores) (w : CompactionWords) (index : List ℕ) → requests ≡ [] → Made requests l s w index s w index
none_made l s w index e =
    rw e
    (record {
      calls = [];
      served = end s index;
      words_past = λ p r. (refl, refl);
      words_kept = λ p r none. refl;
    })

-- one after another
compactions_then : (p : Plain) (cs ds : List LentCall) → compactions p (cs ++ ds) ≡ compactions p cs + compactions (after_all p cs) ds
unfolding compactions after_all
compactions_then p [] ds = omega arith
compactions_then p (c ∷ cs) ds = let more = compactions_then (after p c.lengths c.call) cs ds in omega (arith, more)

pub made_then : {requests more : List Request} {l : Lengths} {s t u : Stores} {w w₁ w₂ : CompactionWords} {index index₁ index₂ : List ℕ} → Made requests l s w index t w₁ index₁ → Made more l t w₁ index₁ u w₂ index₂
    → Made (requests ++ more) l s w index u w₂ index₂
made_then {l = l} {s} {t} {u} {w} {w₁} {w₂} a b =
    let cs = a.calls in
    let ds = b.calls in
    let steps = served_steps a.served in
    record {
      calls = cs ++ ds;
      served = served_then a.served b.served;
      words_past = λ p r.
          let x = a.words_past p r in
          let y : WordsPast p.opening.capacity w₁ w₂ = rw (onward_all p (lent_all l cs)).opening at (b.words_past _ (steps_represents r steps)) in
          (y.0 ∙ x.0, y.1 ∙ x.1);
      words_kept = λ p r none.
          let sum = rw (map-append (lent_to l) cs ds) at none in
          let both = compactions_then p (lent_all l cs) (lent_all l ds) in
          b.words_kept (after_all p (lent_all l cs)) (steps_represents r steps) (omega (arith, sum, both)) ∙ a.words_kept p r (omega (arith, sum, both));
    }

-- ---- the step of each request, by the contract of its entry point

-- a request that is lent no compaction words
words_unlent : {s t : Stores} {index index' : List ℕ} {q : Request} {c : Call} (l : Lengths) (w : CompactionWords) → Served s index q c t index' → Called s (lent_to l c) t
    → Made (q ∷ []) l s w index t w index'
words_unlent {c = c} l w one call =
    record { calls = c ∷ []; served = next one call (end _ _); words_past = λ p r. (refl, refl); words_kept = λ p r none. refl }

module _ {h : Header} {pending : List ℕ} {requests : List Request} where
  pub staging_made : {h' : Header} {pending' : List ℕ} {q : Staged} {answer : Result Header Refusal} → requests ≡ make (staging q) ∷ [] → Staging h pending q answer pending'
      → h' ≡ if_accepted (answer_view answer) (λ h. h) h → MadeOnPending requests h pending h' pending'
  staging_made {h'} {pending'} {q} {answer} e m same =
      record { made = λ rows keys sorts live base index. rw (e, same) (words_unlent (lengths rows keys sorts pending live base) (compaction_words live base) (made _ _) (stages (compaction_words live base) q answer pending' m)) }

module _ {h : Header} {rows pending index : List ℕ} {requests : List Request} where
  pub refreshing_made : {h' : Header} {pending' index' : List ℕ} {r : Refresh} {answer : Result Refreshed Refusal} → requests ≡ refresh r ∷ [] → Refreshing h rows pending index r answer pending' index'
      → h' ≡ if_accepted (answer_view answer) (λ a. a.header) h → MadeOnIndex requests h rows pending index h' pending' index'
  refreshing_made {h'} {pending'} {index'} {r} {answer} e m same =
      record {
        made = λ keys sorts live base.
            let l : Lengths = lengths rows keys sorts pending live base in
            elim (index_decided h rows r.columns index) [
              | inl sound ↦ rw (e, same) (words_unlent l (compaction_words live base) (refreshed r answer pending' index' m sound) (refreshes (compaction_words live base) r index answer pending' index' m sound))
              | inr unsound ↦ rw (e, same) (words_unlent l (compaction_words live base) (refreshed_unsound r answer pending' index' m unsound) (refreshes_unsound (compaction_words live base) r index answer pending' index' m unsound))
            ];
      }

-- the capacity of a table
table_capacity : {p : Plain} {s : Stores} → Represents p s → s.header.capacity ≡ p.opening.capacity
table_capacity r = ap (λ (h : Header). h.capacity) r.shown.header

-- an accepted call that compacts nothing
merge_compacts_none : (p : Plain) (l : Lengths) → refusal p l merging ≡ 0 → compactions p (lent_to l merging ∷ []) ≡ 0 → (merged p).table.generation ≡ p.generation
unfolding compactions merge_or_clear done after_all
merge_compacts_none p l e none =
    let up = rw (accepted_done p l merging e) at (onward_all p (lent_to l merging ∷ [])).generation in
    let same = rw (accepted_done p l merging e) at none in
    omega (arith, up, same)

compaction_compacts : (p : Plain) (l : Lengths) → refusal p l compacting ≡ 0 → compactions p (lent_to l compacting ∷ []) ≡ 0 → ⊥
unfolding compactions merge_or_clear done compacted
compaction_compacts p l e none = let same = rw (accepted_done p l compacting e) at none in omega (arith, same)

module _ {h h' : Header} {rows keys sorts pending rows' keys' sorts' : List ℕ} (live base index : List ℕ) {requests : List Request} where
  pub merging_made : {live' base' : List ℕ} {answer : Result Merge Refusal} → requests ≡ make merging ∷ [] → Merging (stores h rows keys sorts pending) (compaction_words live base) answer (body rows' keys' sorts') (compaction_words live' base')
      → h' ≡ if_accepted (answer_view answer) (λ m. m.header) h
      → Made requests (lengths rows keys sorts pending live base) (stores h rows keys sorts pending) (compaction_words live base) index (stores h' rows' keys' sorts' pending) (compaction_words live' base') index
  merging_made {live'} {base'} {answer} e m same =
      let l : Lengths = lengths rows keys sorts pending live base in
      rw (e, same)
      (record {
        calls = merging ∷ [];
        served = next (made _ _) (merges (compaction_words live base) answer (body rows' keys' sorts') (compaction_words live' base') m) (end _ _);
        words_past = λ p r. rw (table_capacity r) at m.words_past;
        words_kept = λ p r none. elim (some_number (merge_refusal h l)) [
          | inl passed ↦ (m.table passed p r).words (merge_compacts_none p l (sym (merge_checks_lem r l) ∙ passed) none)
          | inr some ↦ (m.unchanged some).1
        ];
      })

  pub compacting_made : {live' base' : List ℕ} {answer : Result Header Refusal} → requests ≡ make compacting ∷ [] → Compacting h (body rows keys sorts) (compaction_words live base) answer (body rows' keys' sorts') (compaction_words live' base')
      → h' ≡ if_accepted (answer_view answer) (λ h. h) h
      → Made requests (lengths rows keys sorts pending live base) (stores h rows keys sorts pending) (compaction_words live base) index (stores h' rows' keys' sorts' pending) (compaction_words live' base') index
  compacting_made {live'} {base'} {answer} e m same =
      let l : Lengths = lengths rows keys sorts pending live base in
      -- the pending store is not lent, and the checks do not read it
      let k : Lengths = lengths rows keys sorts [] live base in
      rw (e, same)
      (record {
        calls = compacting ∷ [];
        served = next (made _ _) (compacts (compaction_words live base) answer (body rows' keys' sorts') (compaction_words live' base') m) (end _ _);
        words_past = λ p r. rw (table_capacity r) at m.words_past;
        words_kept = λ p r none. elim (some_number (compact_refusal h k)) [
          | inl passed ↦
              let not_refused : refusal p l compacting ≡ 0 = sym (compact_checks_lem r k ∙ (unfold refusal compact_checks stores_short words_short in refl)) ∙ passed in
              absurd (compaction_compacts p l not_refused none)
          | inr some ↦ (m.unchanged some).1
        ];
      })

pub clearing_made : {h h' : Header} {rows keys sorts pending keys' : List ℕ} (live base index : List ℕ) {requests : List Request} {answer : Result Header Refusal} → requests ≡ make clearing ∷ []
    → Clearing h keys answer keys' → h' ≡ if_accepted (answer_view answer) (λ h. h) h
    → Made requests (lengths rows keys sorts pending live base) (stores h rows keys sorts pending) (compaction_words live base) index (stores h' rows keys' sorts pending) (compaction_words live base) index
clearing_made {h} {h'} {rows} {keys} {sorts} {pending} {keys'} live base index {requests} {answer} e m same =
    rw (e, same)
    (words_unlent (lengths rows keys sorts pending live base) (compaction_words live base) (made _ _) (clears (compaction_words live base) answer keys' m))
