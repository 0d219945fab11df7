-- The odometer: the steps of its loops, and the law that the sequence it gives is at the next position. Assumes nothing.
use Rattle.short_histories.proofs.Prelude.{ℕ, zero, suc, ◌+◌, ◌-◌, ◌≤◌, ◌<◌, ◌≡◌, ◌≢◌, refl, sym, ap, ◌∙◌, Bool, true, List, [], ◌∷◌, ◌++◌, append-nil, dec_lt, arith, length, take, drop, get_or, set, replicate, length-append, length-replicate, length-take-le, take-append-drop, List·getD-append, get_or-append-add, get_or_at, get_or-take, append_snoc, drop-cons, take-length, take-suc, copy_step, ltb, ltb-true, lt-ltb, all_append, all_cons, all_get_d, all_of, Steps, number, number_more, number_none, number_short, known, position_of, sequence_at, known_of, known_steps, position_below, position_number, sequence_at_position_of, next_none, next_written, sequence_no_room, sequence_written, drop_of_length-le}
use Rattle.lists.specs.Lists.{splice}
use Rattle.std.specs.Prelude.{Ok, Err, Some, None}
use Rattle.refusals.specs.declared.Refusal.TheVariants.{TooShort}
use Rattle.short_histories.specs.Sequences.{NextFound}
use Rattle.short_histories.specs.inner.Raised.{RaisedEnd, raised, ToRaise}
use Rattle.short_histories.proofs.LoopSteps.{every_take}

-- ---- `raised_end`

-- from a place on, each step is 6
pub sixes_from : (s : List ℕ) (end : ℕ) → ((k : ℕ) → end ≤ k → k < length s → get_or s k 0 ≡ 6) → drop end s ≡ replicate (length s - end) 6
sixes_from [] end six = let z : 0 - end ≡ 0 = omega arith in rw z (drop_of_length-le {A = ℕ} [] (omega arith))
sixes_from (x ∷ s) zero six =
    let z : suc (length s) - 0 ≡ suc (length s - 0) = omega arith in
    rw (z, six 0 (omega arith) (omega arith)) (ap (λ (l : List ℕ). 6 ∷ l) (sixes_from s 0 (λ k h m. six (suc k) (omega arith) (omega arith))))
sixes_from (x ∷ s) (suc end) six =
    let z : suc (length s) - suc end ≡ length s - end = omega arith in rw z (sixes_from s end (λ k h m. six (suc k) (omega arith) (omega arith)))

-- ---- the steps of the next sequence

abbrev zeros : ℕ → List ℕ
zeros k = replicate k 0

zeros_only : (k i : ℕ) → get_or (zeros k) i 0 ≡ 0
zeros_only zero i = refl
zeros_only (suc k) zero = refl
zeros_only (suc k) (suc i) = zeros_only k i

module _ (s : List ℕ) where
  before_length : (last : ℕ) → suc last ≤ length s → length (take last s) ≡ last
  before_length last h = length-take-le last s (omega arith)

  pub length_longer : length s + 1 ≡ length (raised s 0)
  unfolding raised
  length_longer = sym (length-replicate (suc (length s)) 0 ∙ omega arith)

  pub length_same : (end : ℕ) → 0 < end → end ≤ length s → length s ≡ length (raised s end)
  unfolding raised
  length_same zero some h = absurd (omega arith)
  length_same (suc last) some h =
      let a = length-append (take last s) ((get_or s last 0 + 1) ∷ replicate (length s - suc last) 0) in
      let b = before_length last h in
      let c = length-replicate {A = ℕ} (length s - suc last) 0 in
      omega arith

  pub step_behind : (end at : ℕ) → end ≤ length s → end ≤ at → 0 ≡ get_or (raised s end) at 0
  unfolding raised
  step_behind zero at h k = sym (zeros_only (suc (length s)) at)
  step_behind (suc last) at h k =
      let b = before_length last h in
      let e : at ≡ length (take last s) + suc (at - suc last) = omega arith in
      let rest = (get_or s last 0 + 1) ∷ replicate (length s - suc last) 0 in
      sym (ap (λ (i : ℕ). get_or (take last s ++ rest) i 0) e
      ∙ get_or-append-add (take last s) rest (suc (at - suc last)) 0
      ∙ zeros_only (length s - suc last) (at - suc last))

  pub step_kept : (end at : ℕ) → end ≤ length s → at + 1 < end → get_or s at 0 ≡ get_or (raised s end) at 0
  unfolding raised
  step_kept zero at h k = absurd (omega arith)
  step_kept (suc last) at h k =
      let b = before_length last h in
      sym (List·getD-append (take last s) _ 0 at (omega arith) ∙ get_or-take last s at 0 (omega arith))

  pub step_raised : (end at : ℕ) → end ≤ length s → at < end → end ≤ at + 1 → get_or s at 0 + 1 ≡ get_or (raised s end) at 0
  unfolding raised
  step_raised zero at h k l = absurd (omega arith)
  step_raised (suc last) at h k l =
      let e : at ≡ last = omega arith in
      rw e (sym (get_or_at (take last s) _ _ 0 last (before_length last h)))

-- ---- its number

-- behind numbers that differ by one, steps 0 and steps 6
carried : (s t : List ℕ) → number t ≡ suc (number s) → (k : ℕ) → number (t ++ replicate k 0) ≡ suc (number (s ++ replicate k 6))
carried s t e zero = rw (append-nil s, append-nil t) e
carried s t e (suc k) =
    let more : number (t ++ (0 ∷ [])) ≡ suc (number (s ++ (6 ∷ []))) = let a = number_more s 6 in let b = number_more t 0 in omega arith in
    ap number (sym (append_snoc t 0 (replicate k 0)))
    ∙ carried (s ++ (6 ∷ [])) (t ++ (0 ∷ [])) more k
    ∙ ap (λ (l : List ℕ). suc (number l)) (append_snoc s 6 (replicate k 6))

raised_number : (s : List ℕ) (end : ℕ) → RaisedEnd s end → number (raised s end) ≡ suc (number s)
unfolding raised
raised_number s zero r =
    let one : number (0 ∷ []) ≡ suc (number []) = let a = number_more [] 0 in let b = number_none in omega arith in
    let n : length s - 0 ≡ length s = omega arith in
    carried [] (0 ∷ []) one (length s) ∙ ap (λ (l : List ℕ). suc (number l)) (sym (r.sixes ∙ ap (λ (k : ℕ). replicate k 6) n))
raised_number s (suc last) r =
    let x = get_or s last 0 in
    let k = length s - suc last in
    let one : number (take last s ++ ((x + 1) ∷ [])) ≡ suc (number (take last s ++ (x ∷ []))) =
    let a = number_more (take last s) x in let b = number_more (take last s) (x + 1) in omega arith in
    let whole : take last s ++ (x ∷ []) ++ replicate k 6 ≡ s =
    rw (← take-suc s last 0 (omega (arith, r.inside)), ← r.sixes) (take-append-drop (suc last) s) in
    ap number (sym (append_snoc (take last s) (x + 1) (replicate k 0)))
    ∙ carried _ _ one k
    ∙ ap (λ (l : List ℕ). suc (number l)) whole

-- ---- it is the next sequence

zeros_steps : (k : ℕ) → Steps (zeros k)
zeros_steps k = all_of (λ step. ltb step 7) 0 (zeros k) (λ i h. rw (zeros_only k i) refl)

pub step_few : (s : List ℕ) (at : ℕ) → known s ≡ true → at < length s → get_or s at 0 < 7
step_few s at e h = ltb-true (get_or s at 0) 7 (all_get_d (λ step. ltb step 7) s (known_steps s e) at h 0)

raised_steps : (s : List ℕ) (end : ℕ) → known s ≡ true → RaisedEnd s end → Steps (raised s end)
unfolding raised
raised_steps s zero e r = zeros_steps (suc (length s))
raised_steps s (suc last) e r =
    let few = step_few s last e (omega (arith, r.inside)) in
    let n : suc last - 1 ≡ last = omega arith in
    let ne : get_or s last 0 ≢ 6 = rw n at (r.raisable (omega arith)) in
    all_append (λ step. ltb step 7) (take last s) _ (every_take s last (known_steps s e))
    (all_cons (λ step. ltb step 7) (get_or s last 0 + 1) _ (lt-ltb (get_or s last 0 + 1) 7 (omega arith)) (zeros_steps (length s - suc last)))

pub to_raise : {s : List ℕ} {end : ℕ} {r : Bool} → r ≡ known s → r ≡ true → RaisedEnd s end → ToRaise s end
to_raise e f ended = record { is_known = sym e ∙ f; ended = ended }

module _ (s : List ℕ) (end : ℕ) (t : ToRaise s end) where
  next_number : number (raised s end) ≡ suc (position_of s)
  next_number = raised_number s end t.ended ∙ ap suc (sym (position_number s t.is_known))

  module _ (h : length (raised s end) ≤ 6) where
    next_known : known (raised s end) ≡ true
    next_known = known_of (raised s end) h (raised_steps s end t.is_known t.ended)

    next_position : position_of (raised s end) ≡ position_of s + 1
    next_position = position_number (raised s end) next_known ∙ next_number ∙ omega arith

    next_below : position_of s + 1 < 137257
    next_below = omega (arith, next_position, position_below (raised s end) next_known)

    next_is : sequence_at (position_of s + 1) ≡ raised s end
    next_is = ap sequence_at (sym next_position) ∙ sequence_at_position_of (raised s end) next_known

  module _ (output : List ℕ) (steps : ℕ) (is : steps ≡ length (raised s end)) where
    -- after the last sequence
    pub raised_none : 6 < steps → NextFound s output (Ok None) output
    raised_none h =
        next_none s output t.is_known (position_of s) refl
        (elim (dec_lt (number (raised s end)) 137257) [
          | yes k ↦ absurd (omega (arith, number_short (raised s end) k))
          | no k ↦ omega (arith, next_number)
        ])

    module _ (h : steps ≤ 6) where
      few : length (raised s end) ≤ 6
      few = omega arith

      steps_are : steps ≡ length (sequence_at (position_of s + 1))
      steps_are = is ∙ ap length (sym (next_is few))

      pub raised_no_room : length output < steps → NextFound s output (Err TooShort) output
      raised_no_room k =
          next_written s output t.is_known (position_of s) refl (next_below few) (Err TooShort) output
          (sequence_no_room (position_of s + 1) output (next_below few) steps steps_are k)

      pub raised_written : steps ≤ length output → (output' : List ℕ) → output' ≡ splice output 0 (raised s end) → NextFound s output (Ok (Some steps)) output'
      raised_written k output' w =
          next_written s output t.is_known (position_of s) refl (next_below few) (Ok (Some steps)) output'
          (sequence_written (position_of s + 1) output (next_below few) steps steps_are k output' (w ∙ ap (splice output 0) (sym (next_is few))))

-- ---- `write_raised`

pub written_more : (l output : List ℕ) (at x : ℕ) → at < length l → length l ≤ length output → x ≡ get_or l at 0
    → set (take at l ++ drop at output) at x ≡ take (at + 1) l ++ drop (at + 1) output
written_more l output at x h k e = rw e (copy_step l output at 0 h (omega arith))

pub written_all : (l output : List ℕ) (at : ℕ) → at ≡ length l → take at l ++ drop at output ≡ splice output 0 l
unfolding splice
written_all l output at e = let m : 0 + length l ≡ length l = omega arith in rw (e, m, take-length l)
