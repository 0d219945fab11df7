-- An opening and the requests after it are a history, so term 3 of the order holds for the resulting stores. Assumes nothing.
use Rattle.refusals.specs.declared.Refusal.{Refusal}
use Rattle.std.specs.Prelude.{◌+◌, ◌*◌, ◌<◌, ◌≡◌, ◌⊎◌, Result, Ok, Err}
use Rattle.replay.specs.Laws.Prelude.{ℕ, zero, suc, refl, ap, ◌∙◌, inl, inr, true, false, List, [], map, arith, length, any, Opening, open_refusal, Call, LentCall, after_all, Header, header_of, Stores, Body, body, stores, joined, CompactionWords, lengths, Represents, SamePast, Opened, accepted_number, opening_done, is_new, IndexSound, end, History, Claimed, history_whole, term_three, Request, is_refresh, requested, lent_all, Made, served_steps, slots_past, index_unused, index_past, calls_requested, calls_plain, index_sound, MadeFrom, Replayed}
use Rattle.refusals.specs.Refusals.{Reply, refused, reply, outcome, number}
use Rattle.plain_table.specs.Plain.{opened}
use Rattle.refusals.specs.Refusals.{answer_view}

-- the calls, each with the lengths of the whole stores
abbrev pub calls_lent : List Call → Body → List ℕ → CompactionWords → List LentCall
calls_lent calls b pending w = lent_all (lengths b.rows b.keys b.sorts pending w.live w.base) calls

-- ---- the claim

module _ {o : Opening} {generation : ℕ} {requests : List Request} {b : Body} {pending : List ℕ} {w : CompactionWords} {index : List ℕ} {s : Stores} {w' : CompactionWords} {index' : List ℕ}
    (m : MadeFrom o generation requests b pending w index s w' index') where
  -- the opening, and the requests after it
  opened_history : History o generation [] (stores m.header b.rows m.keys b.sorts pending)
  opened_history = history_whole b.keys m.opening (end _)

  pub made_history : History o generation (calls_lent m.calls b pending w) s
  made_history = history_whole b.keys m.opening (served_steps m.served)

  -- the table after the opening
  pub replay_starts : Represents (opened o generation) (stores m.header b.rows m.keys b.sorts pending)
  unfolding answer_view
  replay_starts = opening_done m.opening m.header refl

  -- slots past those needed are never written
  pub replay_slots : SamePast (2 * o.capacity) b.keys s.keys
  unfolding opened
  replay_slots = slots_past replay_starts m.served ∙ m.opening.past

  -- the index store: words past those that a refresh may need ("16 words plus 3 for each row of the capacity and named column", of
  -- at most eight columns) are never written, and without a refresh none is
  pub replay_index_past : SamePast (16 + 24 * o.capacity) index index'
  unfolding opened
  replay_index_past = index_past replay_starts m.served

  pub replay_index_kept : any is_refresh requests ≡ false → index' ≡ index
  replay_index_kept = index_unused m.served

  -- "the live rows, numbers and cells, are those of document 01's plain table after the same calls", and the ids left by queries
  pub replay_claimed : Claimed (after_all (opened o generation) (calls_lent m.calls b pending w)) s
  replay_claimed = term_three _ _ _ _ made_history

  -- with a new index store, or if no refresh is requested, the calls are those requested: each refresh stages the plain table's own
  -- records
  pub replay_requested : (is_new index ≡ true) ⊎ (any is_refresh requests ≡ false) → m.calls ≡ map (requested (length index)) requests
  replay_requested (inl new) = calls_requested opened_history new m.served
  replay_requested (inr none) = calls_plain (length index) m.served none

  pub requested_claimed : (is_new index ≡ true) ⊎ (any is_refresh requests ≡ false) → Claimed (after_all (opened o generation) (calls_lent (map (requested (length index)) requests) b pending w)) s
  requested_claimed sound = rw (replay_requested sound) at replay_claimed

  -- an index store that was new is sound afterwards, for a refresh by any columns
  pub replay_index : is_new index ≡ true → (columns : List ℕ) → IndexSound s.header s.rows columns index'
  replay_index new = index_sound opened_history new m.served

-- ---- the result of an opening and the requests

-- a refused reply has the number of its refusal
refused_number : {A : Type 0} (n m : ℕ) (a : A) → refused m ≡ reply n a → (0 < n) × (◌≡◌ {A = Reply (Unit {0})} (refused m) (reply n tt))
unfolding reply
refused_number zero m a e = absurd (let z : ◌≡◌ {A = ℕ} 0 1 = cc in omega arith)
refused_number (suc n) m a e = (omega arith, let same : m ≡ suc n = cc in rw same)

module _ {o : Opening} {generation : ℕ} {b : Body} {pending keys' : List ℕ} {answer : Result Header Refusal} (requests : List Request) (w : CompactionWords) (index : List ℕ) (m : Opened o generation b pending answer keys') where
  -- a refused opening
  pub replay_refused : (r : Refusal) → answer ≡ Err r
      → Replayed o generation requests b pending w index (Err r) (body b.rows keys' b.sorts) pending w index
  unfolding answer_view outcome
  replay_refused r e =
      let k : ℕ = open_refusal o (lengths b.rows b.keys b.sorts pending [] []) in
      let number_is = refused_number k (number r) (header_of (opened o generation)) (rw (ap answer_view e) at m.answers) in
      record {
        refusal = number_is.1;
        unchanged = λ some. (rw (m.unchanged some), refl, refl, refl);
        calls_made = λ h answer_is. absurd (let z : ◌≡◌ {A = ℕ} 0 1 = cc in omega arith);
      }

  -- an accepted opening, and the requests
  pub replay_made : (h h' : Header) (b' : Body) (pending' : List ℕ) (w' : CompactionWords) (index' : List ℕ) → answer ≡ Ok h → length keys' ≡ length b.keys
      → Made requests (lengths b.rows keys' b.sorts pending w.live w.base) (stores h b.rows keys' b.sorts pending) w index (joined h' b' pending') w' index'
      → Replayed o generation requests b pending w index (Ok h') b' pending' w' index'
  unfolding answer_view outcome reply opened
  replay_made h h' b' pending' w' index' e same made =
      let none = accepted_number (open_refusal o (lengths b.rows b.keys b.sorts pending [] [])) h (header_of (opened o generation)) (rw (ap answer_view e) at m.answers) in
      let shown : Represents (opened o generation) (stores h b.rows keys' b.sorts pending) = opening_done (rw e at m) h refl in
      let from : MadeFrom o generation requests b pending w index (joined h' b' pending') w' index' =
      record {
        header = h;
        keys = keys';
        opening = rw e at m;
        calls = made.calls;
        served = rw same at made.served;
        words_past = made.words_past (opened o generation) shown;
        words_kept = rw same at (made.words_kept (opened o generation) shown);
      } in
      record {
        refusal = rw none;
        unchanged = λ some. absurd (omega arith);
        calls_made = λ g answer_is. let is : h' ≡ g = cc in rw (← is) from;
      }
