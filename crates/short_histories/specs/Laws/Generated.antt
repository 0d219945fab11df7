-- The generator, started at the empty sequence, generates the sequences of positions 0, 1, 2 and so on to the last, and then none.
-- Assumes nothing.
use Rattle.std.specs.Prelude.{◌≤◌, ◌<◌, ◌≡◌}
use Rattle.short_histories.specs.Laws.Prelude.{ℕ, zero, suc, refl, sym, ap, ◌∙◌, List, [], add-one, dec_lt, arith, length, take, splice, take_put, Same, Result, Ok, Err, Optional, Some, None, Refusal, TooShort, position_of, sequence_at, SequenceFound, NextFound}
use Rattle.short_histories.specs.Laws.Positions.{known_short, sequence_at_known, position_of_sequence_at, sequence_at_none}
use Rattle.short_histories.specs.Laws.Refusals.{sequence_no_room, sequence_written, next_none, next_written}
use Rattle.short_histories.specs.Laws.Determined.{sequence_determined}

-- the sequences after n calls, each on the previous sequence and on any output
pub data Generated : ℕ → List ℕ → Type 0 where
  start : Generated 0 []
  next : (n : ℕ) (sequence output output' : List ℕ) (steps : ℕ) → Generated n sequence → NextFound sequence output (Ok (Some steps)) output'
      → Generated (suc n) (take steps output')

-- ---- a call on the sequence of a position

module _ (n : ℕ) (h : n < 137257) (output : List ℕ) where
  there : position_of (sequence_at n) ≡ n
  there = position_of_sequence_at n h

  at_end : 137257 ≤ suc n → NextFound (sequence_at n) output (Ok None) output
  at_end l = next_none (sequence_at n) output (sequence_at_known n h) n (sym there) (omega arith)

  module _ (m : suc n < 137257) where
    onward : (answer : Result (Optional ℕ) Refusal) (output' : List ℕ) → SequenceFound (suc n) output answer output' → NextFound (sequence_at n) output answer output'
    onward answer output' f =
        next_written (sequence_at n) output (sequence_at_known n h) n (sym there) (omega arith) answer output' (rw (add-one n) f)

    with_room : length (sequence_at (suc n)) ≤ length output
        → NextFound (sequence_at n) output (Ok (Some (length (sequence_at (suc n))))) (splice output 0 (sequence_at (suc n)))
    with_room r = onward _ _ (sequence_written (suc n) output m _ refl r _ refl)

    without_room : length output < length (sequence_at (suc n)) → NextFound (sequence_at n) output (Err TooShort) output
    without_room r = onward _ _ (sequence_no_room (suc n) output m _ refl r)

written_none : {steps : ℕ} → ◌≡◌ {A = Result (Optional ℕ) Refusal} (Ok (Some steps)) (Ok None) → ⊥
written_none e = cc

written_refused : {steps : ℕ} {refusal : Refusal} → ◌≡◌ {A = Result (Optional ℕ) Refusal} (Ok (Some steps)) (Err refusal) → ⊥
written_refused e = cc

written_same : {m n : ℕ} → ◌≡◌ {A = Result (Optional ℕ) Refusal} (Ok (Some m)) (Ok (Some n)) → m ≡ n
written_same e = cc

-- a sequence that is generated is that of the next position
given_next : (n : ℕ) → n < 137257 → (output output' : List ℕ) (steps : ℕ) → NextFound (sequence_at n) output (Ok (Some steps)) output'
    → (suc n < 137257) × (take steps output' ≡ sequence_at (suc n))
given_next n h output output' steps f =
    elim (dec_lt (suc n) 137257) [
      | no k ↦ absurd (written_none (sequence_determined f (at_end n h output (omega arith))).answer)
      | yes k ↦ elim (dec_lt (length output) (length (sequence_at (suc n)))) [
        | yes r ↦ absurd (written_refused (sequence_determined f (without_room n h output k r)).answer)
        | no r ↦
            let d = sequence_determined f (with_room n h output k (omega arith)) in
            (k, ap (λ (l : List ℕ). take steps l) d.cells ∙ ap (λ (m : ℕ). take m (splice output 0 (sequence_at (suc n)))) (written_same d.answer) ∙ take_put output (sequence_at (suc n)))
      ]
    ]

-- ---- all the calls, one after another

-- the sequence after n calls is that of position n
pub generated_at : (n : ℕ) (s : List ℕ) → Generated n s → (n < 137257) × (s ≡ sequence_at n)
generated_at n s start = (omega arith, sym sequence_at_none)
generated_at n s (next m sequence output output' steps g f) =
    let i = generated_at m sequence g in given_next m i.0 output output' steps (rw (← i.1) f)

-- every position is reached
pub generated_all : (n : ℕ) → n < 137257 → Generated n (sequence_at n)
generated_all zero h = rw sequence_at_none start
generated_all (suc n) h =
    let s = sequence_at (suc n) in
    rw (← take_put s s)
    (next n (sequence_at n) s (splice s 0 s) (length s) (generated_all n (omega arith)) (with_room n (omega arith) s h (omega arith)))

-- with room for six steps, a call on a sequence before the last generates a sequence, and a call on the last none
pub generated_further : (n : ℕ) (s output output' : List ℕ) (answer : Result (Optional ℕ) Refusal) → Generated n s → suc n < 137257 → 6 ≤ length output
    → NextFound s output answer output' → Same answer (Ok (Some (length (sequence_at (suc n))))) output' (splice output 0 (sequence_at (suc n)))
generated_further n s output output' answer g m r f =
    let i = generated_at n s g in
    let k = known_short (sequence_at (suc n)) (sequence_at_known (suc n) m) in
    sequence_determined (rw (← i.1) f) (with_room n i.0 output m (omega arith))

pub generated_last : (n : ℕ) (s output output' : List ℕ) (answer : Result (Optional ℕ) Refusal) → Generated n s → suc n ≡ 137257
    → NextFound s output answer output' → Same answer (Ok None) output' output
generated_last n s output output' answer g e f =
    let i = generated_at n s g in sequence_determined (rw (← i.1) f) (at_end n i.0 output (omega arith))
