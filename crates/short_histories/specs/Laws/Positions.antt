-- Positions: how many there are, that the two maps are inverse to each other, and the last step of a sequence. Assumes nothing.
use Rattle.std.specs.Prelude.{◌+◌, ◌-◌, ◌*◌, ◌/◌, ◌%◌, ◌≤◌, ◌<◌, ◌≡◌, ◌∷◌, ◌++◌}
use Rattle.short_histories.specs.Laws.Prelude.{ℕ, zero, suc, suc-le-suc, refl, sym, ap, ◌∙◌, ⊎_elim, true, false, List, [], arith, leb, ltb, length, get_or, leb-true, le-leb, lt-ltb, split, and_left, and_right, and_both, all_snoc, same_refl, same_eq}
use Rattle.lists.specs.Lists.{all, same}
use Rattle.short_histories.specs.Sequences.{short_histories, place_in, position_of, sequence_at, known}
use Rattle.short_histories.specs.Laws.Numbers.{Steps, number, shorter_than_seven, number_more, number_short}
use Rattle.short_histories.specs.Laws.Blocks.{short_histories_are, length_sequences_to, number_below, number_found, number_none, Numbered, number_at}

-- the number of sequences
pub short_histories_counted : length short_histories ≡ 137257
short_histories_counted = ap length short_histories_are ∙ length_sequences_to 6 ∙ shorter_than_seven

-- ---- known sequences

module _ (s : List ℕ) where
  pub known_short : known s ≡ true → length s ≤ 6
  unfolding known
  known_short e = leb-true _ _ (and_left _ _ e)

  pub known_steps : known s ≡ true → Steps s
  unfolding known
  known_steps e = and_right (leb (length s) 6) _ e

  pub known_of : length s ≤ 6 → Steps s → known s ≡ true
  unfolding known
  known_of h e = and_both _ _ (le-leb _ _ h) e

-- ---- sequences and their numbers

module _ (s : List ℕ) (e : known s ≡ true) where
  known_below : number s < 137257
  known_below = let h = number_below 6 s (known_steps s e) (known_short s e) in let q = shorter_than_seven in omega arith

  known_found : sequence_at (number s) ≡ s
  unfolding sequence_at
  known_found = rw short_histories_are (number_found 6 s (known_steps s e) (known_short s e))

at_position : (p : ℕ) → p < 137257 → Numbered 6 p (sequence_at p)
unfolding sequence_at
at_position p h = rw short_histories_are (number_at 6 p (let q = shorter_than_seven in omega arith))

-- "every sequence of 0 to 6 steps", and no other
pub sequence_at_known : (p : ℕ) → p < 137257 → known (sequence_at p) ≡ true
sequence_at_known p h = let v = at_position p h in known_of (sequence_at p) v.long v.steps

-- the first place of a sequence in a list, if it is in the list
abbrev Placed : List (List ℕ) → List ℕ → Type 0
Placed l s = (place_in l s < length l) × (get_or l (place_in l s) [] ≡ s)

placed_here : (t : List ℕ) (ts : List (List ℕ)) (s : List ℕ) → same t s ≡ true → Placed (t ∷ ts) s
unfolding place_in
placed_here t ts s e = rw e (omega arith, same_eq t s e)

placed_there : (t : List ℕ) (ts : List (List ℕ)) (s : List ℕ) → same t s ≡ false → Placed ts s → Placed (t ∷ ts) s
unfolding place_in
placed_there t ts s e f = rw e (suc-le-suc f.0, f.1)

placed : (l : List (List ℕ)) (s : List ℕ) (i : ℕ) → i < length l → get_or l i [] ≡ s → Placed l s
placed [] s i h e = absurd (omega arith)
placed (t ∷ ts) s zero h e = placed_here t ts s (rw (← e) (same_refl t))
placed (t ∷ ts) s (suc i) h e =
    ⊎_elim (placed_here t ts s) (λ n. placed_there t ts s n (placed ts s i (omega arith) e)) (split (same t s))

module _ (s : List ℕ) (e : known s ≡ true) where
  in_list : Placed short_histories s
  unfolding sequence_at
  in_list = placed short_histories s (number s) (let q = short_histories_counted in let h = known_below s e in omega arith) (known_found s e)

  pub position_below : position_of s < 137257
  unfolding position_of
  position_below = let q = short_histories_counted in let h = in_list.0 in omega arith

  -- "and back"
  pub sequence_at_position_of : sequence_at (position_of s) ≡ s
  unfolding sequence_at position_of
  sequence_at_position_of = in_list.1

  -- the position is the number
  pub position_number : position_of s ≡ number s
  position_number = sym (at_position (position_of s) position_below).numbered ∙ ap number sequence_at_position_of

-- conversely, so that no sequence is at two positions
pub position_of_sequence_at : (p : ℕ) → p < 137257 → position_of (sequence_at p) ≡ p
position_of_sequence_at p h = position_number (sequence_at p) (sequence_at_known p h) ∙ (at_position p h).numbered

-- ---- step by step

nothing_known : known [] ≡ true
nothing_known = known_of [] (omega arith) (unfold all in refl)

-- the empty sequence is the first
pub sequence_at_none : sequence_at 0 ≡ []
sequence_at_none = ap sequence_at (sym number_none) ∙ known_found [] nothing_known

-- the last step of a sequence, and the position of those before it
pub sequence_at_more : (p : ℕ) → 0 < p → p < 137257 → sequence_at p ≡ sequence_at ((p - 1) / 7) ++ ((p - 1) % 7 ∷ [])
sequence_at_more p some h =
    let q = (p - 1) / 7 in
    let x = (p - 1) % 7 in
    let b : q < 137257 = omega arith in
    let v = at_position q b in
    let t = sequence_at q ++ (x ∷ []) in
    let n : number t ≡ p = number_more (sequence_at q) x ∙ (let r = v.numbered in omega arith) in
    let steps : Steps t = all_snoc (λ step. ltb step 7) (sequence_at q) x v.steps (lt-ltb x 7 (omega arith)) in
    let k : known t ≡ true = known_of t (number_short t (rw n h)) steps in
    ap sequence_at (sym n) ∙ known_found t k

-- the position of the first steps of a sequence, and of one more
pub position_nothing : position_of [] ≡ 0
position_nothing = position_number [] nothing_known ∙ number_none

pub position_more : (s : List ℕ) (x : ℕ) → known (s ++ (x ∷ [])) ≡ true → known s ≡ true → position_of (s ++ (x ∷ [])) ≡ 7 * position_of s + x + 1
position_more s x e f =
    position_number (s ++ (x ∷ [])) e ∙ number_more s x ∙ (let q = position_number s f in omega arith)
