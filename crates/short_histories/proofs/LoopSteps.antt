-- The loops: steps tested, a position counted up, a sequence written from its last step back. Assumes nothing.
use Rattle.short_histories.proofs.Prelude.{ℕ, zero, suc, ◌+◌, ◌-◌, ◌*◌, ◌/◌, ◌%◌, ◌≤◌, ◌<◌, ◌≡◌, refl, sym, ap, ap₂, ◌∙◌, arith, length, take, drop, get_or, set, length-take, length-append, length-set, lt-ltb, lt-leb, true, false, List, [], ◌∷◌, ◌++◌, append_assoc, add-one, ltb, ltb-true, drop-cons, drop-set-lt, get_or-set_same, get_or-take, take-suc, take-length, all_get_d, all_of, splice_nil, Steps, known_short, known_steps, known_of, position_below, position_more, sequence_at_known, sequence_at_none, sequence_at_more}
use Rattle.std.specs.Prelude.{Bool, ◌↔◌, IsTrue, EachIndex}
use Rattle.std.proofs.Common.{inl, inr}
use Rattle.lists.specs.Lists.{splice}
use Rattle.lists.specs.Laws.Filter.{split}
use Rattle.short_histories.specs.Sequences.{position_of, sequence_at, known}

-- ---- the steps tested

module _ (s : List ℕ) where
  pub too_long : 6 < length s → known s ≡ false
  unfolding known
  too_long h = rw (lt-leb (length s) 6 h)

  -- whether it is known is whether each step is
  pub known_tested : length s ≤ 6 → (b : Bool) → (IsTrue b ↔ EachIndex s (λ k. get_or s k 0 < 7)) → b ≡ known s
  unfolding known
  known_tested h true e = sym (known_of s h (all_of (λ step. ltb step 7) 0 s (λ i k. lt-ltb (get_or s i 0) 7 (e.0 refl i k))))
  known_tested h false e =
      elim (split (known s)) [
        | inl k ↦ let no : false ≡ true = e.1 (λ i m. ltb-true (get_or s i 0) 7 (all_get_d (λ step. ltb step 7) s (known_steps s k) i m 0)) in absurd cc
        | inr k ↦ sym k
      ]

-- ---- a position counted up

pub every_take : (s : List ℕ) (i : ℕ) → Steps s → Steps (take i s)
every_take s i e =
    all_of (λ step. ltb step 7) 0 (take i s)
    (λ j h.
    let n = length-take i s in
    rw (get_or-take i s j 0 (omega arith)) (all_get_d (λ step. ltb step 7) s e j (omega arith) 0))

module _ (s : List ℕ) (e : known s ≡ true) where
  known_take : (i : ℕ) → known (take i s) ≡ true
  known_take i = known_of (take i s) (let a = known_short s e in let b = length-take i s in omega arith) (every_take s i (known_steps s e))

  pub position_on : (i : ℕ) → i < length s → position_of (take (i + 1) s) ≡ position_of (take i s) * 7 + get_or s i 0 + 1
  position_on i h =
      let t : take (i + 1) s ≡ take i s ++ (get_or s i 0 ∷ []) = rw add-one (take-suc s i 0 h) in
      let k : known (take i s ++ (get_or s i 0 ∷ [])) ≡ true = ap known (sym t) ∙ known_take (i + 1) in
      ap position_of t ∙ position_more (take i s) (get_or s i 0) k (known_take i) ∙ omega arith

  pub position_end : (i : ℕ) → i ≤ length s → length s ≤ i → position_of (take i s) ≡ position_of s
  position_end i a b = let n : i ≡ length s = omega arith in rw (n, take-length s)

  pub prefix_below : (i : ℕ) → position_of (take i s) < 137257
  prefix_below i = position_below (take i s) (known_take i)

-- ---- a sequence from its last step back

-- its length
pub length_back : (p : ℕ) → 0 < p → p < 137257 → length (sequence_at p) ≡ length (sequence_at ((p - 1) / 7)) + 1
length_back p some h = ap length (sequence_at_more p some h) ∙ length-append (sequence_at ((p - 1) / 7)) (((p - 1) % 7) ∷ [])

pub steps_short : (p : ℕ) → p < 137257 → length (sequence_at p) ≤ 6
steps_short p h = known_short (sequence_at p) (sequence_at_known p h)

-- nothing is left at position 0
pub steps_ended : (steps rest position : ℕ) → steps + length (sequence_at rest) ≡ length (sequence_at position) → rest ≤ 0
    → steps ≡ length (sequence_at position)
steps_ended steps rest position e h = let n : length (sequence_at rest) ≡ 0 = ap (λ (p : ℕ). length (sequence_at p)) (omega arith) ∙ ap length sequence_at_none in omega arith

-- the last cell written, then those before it
put_last : (l w : List ℕ) (n x : ℕ) → n ≡ length w → n < length l → splice (set l n x) 0 w ≡ splice l 0 (w ++ (x ∷ []))
unfolding splice
put_last l w n x e h =
    let k : n < length (set l n x) = rw (length-set l n x) h in
    let d : drop n (set l n x) ≡ x ∷ drop (suc n) l =
    drop-cons (set l n x) n 0 k
    ∙ ap₂ (λ (y : ℕ) (r : List ℕ). y ∷ r) (get_or-set_same l n x 0 h) (drop-set-lt (suc n) l n x (omega arith)) in
    let m : 0 + length (w ++ (x ∷ [])) ≡ suc n = let a = length-append w (x ∷ []) in omega arith in
    let z : 0 + length w ≡ n = omega arith in
    rw (z, m, d) (sym (append_assoc w (x ∷ []) (drop (suc n) l)))

-- the rest of a sequence written gives what the whole gives
pub written_back : (p : ℕ) (output : List ℕ) → 0 < p → p < 137257 → length (sequence_at p) ≤ length output
    → splice (set output (length (sequence_at p) - 1) ((p - 1) % 7)) 0 (sequence_at ((p - 1) / 7)) ≡ splice output 0 (sequence_at p)
written_back p output some h k =
    let n : length (sequence_at p) - 1 ≡ length (sequence_at ((p - 1) / 7)) = let e = length_back p some h in omega arith in
    put_last output (sequence_at ((p - 1) / 7)) (length (sequence_at p) - 1) ((p - 1) % 7) n (let e = length_back p some h in omega arith)
    ∙ ap (splice output 0) (sym (sequence_at_more p some h))

-- what the loop keeps: the rest of the sequence written gives what the whole gives
pub record Writing (position : ℕ) (output₀ output : List ℕ) (at rest : ℕ) : Type 0 where
  pub inside : rest < 137257
  pub left : at ≡ length (sequence_at rest)
  pub room : at ≤ length output
  pub same : length output ≡ length output₀
  pub written : splice output₀ 0 (sequence_at position) ≡ splice output 0 (sequence_at rest)

pub writing_begun : (position : ℕ) (output : List ℕ) (steps : ℕ) → position < 137257 → steps ≡ length (sequence_at position) → steps ≤ length output
    → Writing position output output steps position
writing_begun position output steps h e r = record { inside = h; left = e; room = r; same = refl; written = refl }

-- some steps are left exactly where the position is above 0
step_left : (rest at : ℕ) → at ≡ length (sequence_at rest) → 0 < at → 0 < rest
step_left zero at e some = let n : length (sequence_at 0) ≡ 0 = ap length sequence_at_none in absurd (omega arith)
step_left (suc rest) at e some = omega arith

none_left : (rest at : ℕ) → rest < 137257 → at ≡ length (sequence_at rest) → at ≤ 0 → rest ≡ 0
none_left zero at h e none = refl
none_left (suc rest) at h e none = let n = length_back (suc rest) (omega arith) h in absurd (omega arith)

module _ {position : ℕ} {output₀ output : List ℕ} {at rest : ℕ} (w : Writing position output₀ output at rest) where
  pub some_left : 0 < at → 0 < rest
  some_left = step_left rest at w.left

  pub writing_on : 0 < at → Writing position output₀ (set output (at - 1) ((rest - 1) % 7)) (at - 1) ((rest - 1) / 7)
  writing_on here =
      let some = some_left here in
      let e = length_back rest some w.inside in
      let l = w.left in
      let n = length-set output (at - 1) ((rest - 1) % 7) in
      record {
        inside = let h = w.inside in omega arith;
        left = omega arith;
        room = let r = w.room in omega arith;
        same = n ∙ w.same;
        written =
            w.written
            ∙ sym (written_back rest output some w.inside (rw (← l) w.room))
            ∙ ap (λ (k : ℕ). splice (set output (k - 1) ((rest - 1) % 7)) 0 (sequence_at ((rest - 1) / 7))) (sym l);
      }

  pub writing_ended : at ≤ 0 → output ≡ splice output₀ 0 (sequence_at position)
  writing_ended h =
      let e : rest ≡ 0 = none_left rest at w.inside w.left h in
      sym (w.written ∙ ap (λ (p : ℕ). splice output 0 (sequence_at p)) e ∙ ap (splice output 0) sequence_at_none ∙ splice_nil output 0)
