-- The tests one by one, and the results of the entry points. Assumes nothing.
use Rattle.std.specs.Prelude.{◌+◌, ◌≤◌, ◌<◌, ◌≡◌}
use Rattle.short_histories.specs.Laws.Prelude.{ℕ, suc, refl, sym, true, false, List, none, some, arith, length, lt-ltb, le-ltb, lt-leb, le-leb, splice, splice_nil, Result, Ok, Err, Optional, Some, None, Refusal, PastTheLast, TooShort, UnknownSequence}
use Rattle.refusals.specs.Refusals.{first_refusal, reply, answer_view, found_view}
use Rattle.short_histories.specs.Sequences.{short_histories, position_of, sequence_at, next_after, known, sequence_refusal, next_refusal, PositionAnswered, SequenceFound, NextFound}
use Rattle.short_histories.specs.Laws.Positions.{short_histories_counted}

-- ---- the position of a sequence

module _ (sequence : List ℕ) where
  pub position_refused : known sequence ≡ false → PositionAnswered sequence (Err UnknownSequence)
  unfolding answer_view first_refusal reply
  position_refused e = rw e

  pub position_answered : known sequence ≡ true → (position : ℕ) → position ≡ position_of sequence → PositionAnswered sequence (Ok position)
  unfolding answer_view first_refusal reply
  position_answered e position p = rw (e, p)

-- ---- the sequence at a position

module _ (position : ℕ) (output : List ℕ) where
  past_last : 137257 ≤ position → sequence_refusal position (length output) ≡ 16
  unfolding sequence_refusal first_refusal
  past_last h = rw (le-leb (length short_histories) position (let q = short_histories_counted in omega arith))

  no_room : position < 137257 → length output < length (sequence_at position) → sequence_refusal position (length output) ≡ 2
  unfolding sequence_refusal first_refusal
  no_room h k = rw (lt-leb (length short_histories) position (let q = short_histories_counted in omega arith), lt-ltb _ _ k)

  fits : position < 137257 → length (sequence_at position) ≤ length output → sequence_refusal position (length output) ≡ 0
  unfolding sequence_refusal first_refusal
  fits h k = rw (lt-leb (length short_histories) position (let q = short_histories_counted in omega arith), le-ltb _ _ k)

  pub sequence_past_last : 137257 ≤ position → SequenceFound position output (Err PastTheLast) output
  unfolding found_view reply
  sequence_past_last h =
      rw (past_last h) (record { effect = record { answers = refl; unchanged = λ k. refl; written = λ e. absurd (omega arith) } })

  pub sequence_no_room : position < 137257 → (steps : ℕ) → steps ≡ length (sequence_at position) → length output < steps
      → SequenceFound position output (Err TooShort) output
  unfolding found_view reply
  sequence_no_room h steps e k =
      rw (no_room h (rw (← e) k)) (record { effect = record { answers = refl; unchanged = λ l. refl; written = λ e. absurd (omega arith) } })

  pub sequence_written : position < 137257 → (steps : ℕ) → steps ≡ length (sequence_at position) → steps ≤ length output → (output' : List ℕ)
      → output' ≡ splice output 0 (sequence_at position) → SequenceFound position output (Ok (Some steps)) output'
  unfolding found_view reply
  sequence_written h steps e k output' w =
      rw (fits h (rw (← e) k), e, w) (record { effect = record { answers = refl; unchanged = λ l. absurd (omega arith); written = λ z. refl } })

-- ---- the next sequence

module _ (sequence output : List ℕ) where
  pub next_unknown : known sequence ≡ false → NextFound sequence output (Err UnknownSequence) output
  unfolding found_view reply next_refusal first_refusal
  next_unknown e = rw e (record { effect = record { answers = refl; unchanged = λ l. refl; written = λ z. absurd (omega arith) } })

  last : 137257 ≤ suc (position_of sequence) → next_after sequence ≡ none
  unfolding next_after
  last h = rw (le-ltb (suc (position_of sequence)) (length short_histories) (let q = short_histories_counted in omega arith))

  pub next_none : known sequence ≡ true → (position : ℕ) → position ≡ position_of sequence → 137257 ≤ position + 1
      → NextFound sequence output (Ok None) output
  unfolding found_view reply next_refusal first_refusal
  next_none e position p h =
      rw (e, last (omega arith), le-ltb (length output) 0 (omega arith))
      (record { effect = record { answers = refl; unchanged = λ l. absurd (omega arith); written = λ z. sym (splice_nil output 0) } })

  further : suc (position_of sequence) < 137257 → next_after sequence ≡ some (sequence_at (suc (position_of sequence)))
  unfolding next_after
  further h = rw (lt-ltb (suc (position_of sequence)) (length short_histories) (let q = short_histories_counted in omega arith))

  -- if the first test passes, it is the sequence at the next position
  next_is : known sequence ≡ true → suc (position_of sequence) < 137257
      → next_refusal sequence (length output) ≡ sequence_refusal (suc (position_of sequence)) (length output)
  unfolding next_refusal sequence_refusal first_refusal
  next_is e h = rw (e, further h, lt-leb (length short_histories) (suc (position_of sequence)) (let q = short_histories_counted in omega arith))

  pub next_written : known sequence ≡ true → (position : ℕ) → position ≡ position_of sequence → position + 1 < 137257
      → (answer : Result (Optional ℕ) Refusal) (output' : List ℕ) → SequenceFound (position + 1) output answer output' → NextFound sequence output answer output'
  next_written e position p h answer output' f =
      let k : suc (position_of sequence) < 137257 = omega arith in
      let n : position + 1 ≡ suc (position_of sequence) = omega arith in
      rw (next_is e k, further k, ← n) f
