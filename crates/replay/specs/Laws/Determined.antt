-- The contract of `replay` determines the outcome with a new index store, and with any index store if no refresh is requested,
-- except for the program's choices: in a table the key store's slots below 2 × capacity, after a compaction the compaction words
-- needed, and after a refresh the index words needed. With another index store, it is also open which of the rows that mention a
-- value are staged. Assumes nothing.
use Rattle.refusals.specs.Laws.Numbers.{answer_view_injective}
use Rattle.refusals.specs.declared.Refusal.{Refusal}
use Rattle.std.specs.Prelude.{◌*◌, ◌+◌, ◌<◌, ◌≡◌, ◌⊎◌, Result, Ok, Err}
use Rattle.replay.specs.Laws.Prelude.{ℕ, refl, sym, ap, ◌∙◌, inl, inr, true, false, List, [], map, arith, length, any, some_number, refused_same, Opening, open_refusal, opened, LentCall, after_all, Header, Stores, Body, stores, joined, CompactionWords, lengths, Represents, SamePast, WordsPast, is_new, IndexSound, Steps, steps_represents, SameCells, steps_determined, Request, is_refresh, requested, served_steps, compactions, MadeFrom, Replayed}
use Rattle.refusals.specs.Refusals.{accepted, reply, outcome}
use Rattle.refusals.specs.Refusals.{answer_view}
use Rattle.replay.specs.Laws.Theorem.{replay_starts, replay_slots, replay_index_past, replay_index_kept, replay_requested, replay_index, calls_lent}

-- the result of a replay
pub record ReplayLeft : Type 0 where
  pub answer : Result Header Refusal
  pub body : Body
  pub pending : List ℕ
  pub words : CompactionWords
  pub index : List ℕ

module _ (o : Opening) (generation : ℕ) (requests : List Request) (b : Body) (pending : List ℕ) (w : CompactionWords) (index : List ℕ) where
  abbrev ReplayedTo : ReplayLeft → Type 0
  ReplayedTo x = Replayed o generation requests b pending w index x.answer x.body x.pending x.words x.index

  abbrev Sound : Type 0
  Sound = (is_new index ≡ true) ⊎ (any is_refresh requests ≡ false)

  -- the calls requested
  abbrev requested_calls : List LentCall
  requested_calls = calls_lent (map (requested (length index)) requests) b pending w

  pub record SameReplay (x y : ReplayLeft) : Type 0 where
    pub answer : x.answer ≡ y.answer
    pub rows : x.body.rows ≡ y.body.rows
    pub sorts : x.body.sorts ≡ y.body.sorts
    pub pending_same : x.pending ≡ y.pending
    -- the key store: all of it, if the opening is refused; otherwise the slots that are never written, and each key store refers to
    -- the live rows of the one plain table
    pub keys_refused : 0 < open_refusal o (lengths b.rows b.keys b.sorts pending [] []) → x.body.keys ≡ y.body.keys
    pub slots_past : SamePast (2 * o.capacity) x.body.keys y.body.keys
    pub represent : (h : Header) → answer_view x.answer ≡ accepted h
        → Represents (after_all (opened o generation) requested_calls) (joined h x.body x.pending)
        × Represents (after_all (opened o generation) requested_calls) (joined h y.body y.pending)
    -- the compaction words: all of them, if nothing was compacted; otherwise those that are never written
    pub words_past : WordsPast o.capacity x.words y.words
    pub words_refused : 0 < open_refusal o (lengths b.rows b.keys b.sorts pending [] []) → x.words ≡ y.words
    pub words_kept : compactions (opened o generation) requested_calls ≡ 0 → x.words ≡ y.words
    -- the index store: all of it, if no refresh is requested; otherwise the words that are never written, and an index store that
    -- was new is sound
    pub index_past : SamePast (16 + 24 * o.capacity) x.index y.index
    pub index_refused : 0 < open_refusal o (lengths b.rows b.keys b.sorts pending [] []) → x.index ≡ y.index
    pub index_kept : any is_refresh requests ≡ false → x.index ≡ y.index
    pub index_sound : (h : Header) → answer_view x.answer ≡ accepted h → is_new index ≡ true → (columns : List ℕ)
        → IndexSound h x.body.rows columns x.index × IndexSound h y.body.rows columns y.index

  -- the header of an accepted answer
  view_accepted : (answer : Result Header Refusal) → outcome (answer_view answer) ≡ accepted tt → (h : Header) × (answer_view answer ≡ accepted h)
  unfolding answer_view outcome
  view_accepted (Err r) e = absurd (let z : ◌≡◌ {A = ℕ} 0 1 = cc in omega arith)
  view_accepted (Ok h) e = (h, refl)

  -- the table that the requests result in
  module _ {s : Stores} {w' : CompactionWords} {index' : List ℕ} (m : MadeFrom o generation requests b pending w index s w' index') (sound : Sound) where
    steps : Steps (stores m.header b.rows m.keys b.sorts pending) requested_calls s
    steps = rw (replay_requested m sound) at (served_steps m.served)

    ends : Represents (after_all (opened o generation) requested_calls) s
    ends = steps_represents (replay_starts m) steps

    kept : compactions (opened o generation) requested_calls ≡ 0 → w' ≡ w
    kept none = m.words_kept (rw (replay_requested m sound) none)

  made_same : {s t : Stores} {v v' : CompactionWords} {i j : List ℕ} → Sound → MadeFrom o generation requests b pending w index s v i → MadeFrom o generation requests b pending w index t v' j → SameCells s t
  made_same sound x y =
      steps_determined (replay_starts x) (replay_starts y)
      (record { header = (replay_starts x).shown.header ∙ sym (replay_starts y).shown.header; rows = refl; sorts = refl; pending = refl })
      (steps x sound) (steps y sound)

  module _ (sound : Sound) (x y : ReplayLeft) (u : ReplayedTo x) (v : ReplayedTo y) where
    refused_replay : 0 < open_refusal o (lengths b.rows b.keys b.sorts pending [] []) → SameReplay x y
    refused_replay some =
        let e = u.unchanged some in
        let f = v.unchanged some in
        let bodies : x.body ≡ y.body = e.0 ∙ sym f.0 in
        let words : x.words ≡ y.words = e.2 ∙ sym f.2 in
        let answers : x.answer ≡ y.answer = refused_same answer_view_injective u.refusal v.refusal some in
        let keys : x.body.keys ≡ y.body.keys = ap (λ (z : Body). z.keys) bodies in
        let indexes : x.index ≡ y.index = e.3 ∙ sym f.3 in
        record {
          answer = answers;
          rows = ap (λ (z : Body). z.rows) bodies;
          sorts = ap (λ (z : Body). z.sorts) bodies;
          pending_same = e.1 ∙ sym f.1;
          keys_refused = λ k. keys;
          slots_past = rw keys;
          represent = λ h answer_is. (ends (u.calls_made h answer_is) sound, ends (v.calls_made h (ap answer_view (sym answers) ∙ answer_is)) sound);
          words_past = (rw words, rw words);
          words_refused = λ k. words;
          words_kept = λ none. words;
          index_past = rw indexes;
          index_refused = λ k. indexes;
          index_kept = λ none. indexes;
          index_sound = λ h answer_is new columns. (replay_index (u.calls_made h answer_is) new columns, replay_index (v.calls_made h (ap answer_view (sym answers) ∙ answer_is)) new columns);
        }

    made_replay : open_refusal o (lengths b.rows b.keys b.sorts pending [] []) ≡ 0 → SameReplay x y
    unfolding reply
    made_replay none =
        let g = view_accepted x.answer (rw none at u.refusal) in
        let k = view_accepted y.answer (rw none at v.refusal) in
        let made = u.calls_made g.0 g.1 in
        let made' = v.calls_made k.0 k.1 in
        let same = made_same sound made made' in
        let answers : answer_view x.answer ≡ answer_view y.answer = g.1 ∙ ap (λ (h : Header). accepted h) same.header ∙ sym k.1 in
        record {
          answer = answer_view_injective x.answer y.answer answers;
          rows = same.rows;
          sorts = same.sorts;
          pending_same = same.pending;
          keys_refused = λ some. absurd (omega arith);
          slots_past = replay_slots made' ∙ sym (replay_slots made);
          represent = λ h answer_is. (ends (u.calls_made h answer_is) sound, ends (v.calls_made h (sym answers ∙ answer_is)) sound);
          words_past = (made'.words_past.0 ∙ sym made.words_past.0, made'.words_past.1 ∙ sym made.words_past.1);
          words_refused = λ some. absurd (omega arith);
          words_kept = λ none. kept made sound none ∙ sym (kept made' sound none);
          index_past = replay_index_past made' ∙ sym (replay_index_past made);
          index_refused = λ some. absurd (omega arith);
          index_kept = λ none. replay_index_kept made none ∙ sym (replay_index_kept made' none);
          index_sound = λ h answer_is new columns. (replay_index (u.calls_made h answer_is) new columns, replay_index (v.calls_made h (sym answers ∙ answer_is)) new columns);
        }

    pub replayed_determined : SameReplay x y
    replayed_determined =
        elim (some_number (open_refusal o (lengths b.rows b.keys b.sorts pending [] []))) [
          | inl none ↦ made_replay none
          | inr some ↦ refused_replay some
        ]
