-- Laws of searches in a rising list: the first position whose number is not below t is the count of the numbers below t. Also of
-- writing results one after another. Assumes nothing.
use Rattle.std.specs.Prelude.{◌+◌, ◌-◌, ◌≤◌, ◌<◌, ◌≡◌, ◌∷◌, ◌++◌}
use Rattle.lists.specs.Laws.Prelude.{ℕ, zero, suc, suc-le-suc, refl, sym, ap, ◌∙◌, inl, inr, Bool, true, false, List, [], append-nil, dec_lt, arith, ltb, length, take, drop, get_or, set, length-drop, take-append-drop, get_or-drop, take-append_seam, lt-ltb, le-ltb}
use Rattle.lists.specs.Lists.{splice, filter, count, rising, elem, within}
use Rattle.lists.specs.inner.Searching.{first_not_below}
use Rattle.lists.specs.Laws.Parts.{length_splice, splice_then, set_splice}
use Rattle.lists.specs.Laws.Filter.{split, filter_no, filter_append}
use Rattle.lists.specs.Laws.Rising.{rising_tail, rising_at, rising_count_lt, filter_within_part, elem_at, elem_of}

not_below_yes : (t x : ℕ) (xs : List ℕ) → x < t → first_not_below t (x ∷ xs) ≡ suc (first_not_below t xs)
unfolding first_not_below
not_below_yes t x xs h = rw (lt-ltb x t h)

not_below_no : (t x : ℕ) (xs : List ℕ) → t ≤ x → first_not_below t (x ∷ xs) ≡ 0
unfolding first_not_below
not_below_no t x xs h = rw (le-ltb x t h)

pub not_below_le : (t : ℕ) (l : List ℕ) → first_not_below t l ≤ length l
not_below_le t [] = unfold first_not_below in omega arith
not_below_le t (x ∷ xs) =
    elim (dec_lt x t) [
      | yes a ↦ rw (not_below_yes t x xs a) (suc-le-suc (not_below_le t xs))
      | no a ↦ rw (not_below_no t x xs (omega arith)) (omega arith)
    ]

-- a number below t is before that position
pub not_below_past : (t : ℕ) (l : List ℕ) → rising l ≡ true → (i : ℕ) → i < length l → get_or l i 0 < t → i < first_not_below t l
not_below_past t [] e i h k = absurd (omega arith)
not_below_past t (x ∷ xs) e zero h k = rw (not_below_yes t x xs k) (omega arith)
not_below_past t (x ∷ xs) e (suc i) h k =
    let a : x < get_or xs i 0 = rising_at (x ∷ xs) e 0 (suc i) (omega arith) h in
    rw (not_below_yes t x xs (omega arith)) (suc-le-suc (not_below_past t xs (rising_tail x xs e) i (omega arith) k))

-- a number not below t is at that position or after it
pub not_below_upto : (t : ℕ) (l : List ℕ) → rising l ≡ true → (i : ℕ) → i < length l → t ≤ get_or l i 0 → first_not_below t l ≤ i
not_below_upto t [] e i h k = absurd (omega arith)
not_below_upto t (x ∷ xs) e zero h k = rw (not_below_no t x xs k) (omega arith)
not_below_upto t (x ∷ xs) e (suc i) h k =
    elim (dec_lt x t) [
      | yes a ↦ rw (not_below_yes t x xs a) (suc-le-suc (not_below_upto t xs (rising_tail x xs e) i (omega arith) k))
      | no a ↦ rw (not_below_no t x xs (omega arith)) (omega arith)
    ]

-- conversely, numbers before that position are below t, and those from it on are not
pub not_below_below : (t : ℕ) (l : List ℕ) → rising l ≡ true → (i : ℕ) → i < first_not_below t l → get_or l i 0 < t
not_below_below t l e i h =
    let n = not_below_le t l in
    elim (dec_lt (get_or l i 0) t) [
      | yes a ↦ a
      | no a ↦ absurd (let b = not_below_upto t l e i (omega arith) (omega arith) in omega arith)
    ]

pub not_below_above : (t : ℕ) (l : List ℕ) → rising l ≡ true → (i : ℕ) → first_not_below t l ≤ i → i < length l → t ≤ get_or l i 0
not_below_above t l e i h k =
    elim (dec_lt (get_or l i 0) t) [
      | yes a ↦ absurd (let b = not_below_past t l e i k a in omega arith)
      | no a ↦ omega arith
    ]

-- if the first n are below t, the position is at least n
pub not_below_from : (t : ℕ) (l : List ℕ) → rising l ≡ true → (n : ℕ) → n ≤ length l → ((i : ℕ) → i < n → get_or l i 0 < t) → n ≤ first_not_below t l
not_below_from t l e zero h f = omega arith
not_below_from t l e (suc n) h f = not_below_past t l e n (omega arith) (f n (omega arith))

-- monotone in t
pub not_below_mono : (s t : ℕ) (l : List ℕ) → rising l ≡ true → s ≤ t → first_not_below s l ≤ first_not_below t l
not_below_mono s t l e h = not_below_from t l e (first_not_below s l) (not_below_le s l) (λ i k. let a = not_below_below s l e i k in omega arith)

-- if t is a member, its position is that one
pub not_below_at : (t : ℕ) (l : List ℕ) → rising l ≡ true → (i : ℕ) → i < length l → get_or l i 0 ≡ t → first_not_below t l ≡ i
not_below_at t l e i h q =
    let a = not_below_upto t l e i h (omega arith) in
    elim (dec_lt (first_not_below t l) i) [
      | yes b ↦
          absurd
          (let c = not_below_above t l e (first_not_below t l) (omega arith) (omega arith) in
          let d = rising_at l e (first_not_below t l) i b h in
          omega arith)
      | no b ↦ omega arith
    ]

-- t is a member exactly if it is at that position
pub elem_not_below : (t : ℕ) (l : List ℕ) (i : ℕ) → i < length l → get_or l i 0 ≡ t → elem t l ≡ true
elem_not_below t l i h q = rw (← q) (elem_of l i h)

pub elem_not_not_below : (t : ℕ) (l : List ℕ) → rising l ≡ true → (first_not_below t l < length l → get_or l (first_not_below t l) 0 ≡ t → ⊥) → elem t l ≡ false
elem_not_not_below t l e f =
    elim (split (elem t l)) [
      | inl q ↦
          let a = elem_at t l q in
          let b : first_not_below t l ≡ a.0 = not_below_at t l e a.0 a.1 a.2 in
          absurd (f (rw b a.1) (rw b a.2))
      | inr q ↦ q
    ]

pub elem_in_not_below : (t : ℕ) (l : List ℕ) → rising l ≡ true → elem t l ≡ true → (first_not_below t l < length l) × (get_or l (first_not_below t l) 0 ≡ t)
elem_in_not_below t l e q =
    let a = elem_at t l q in
    let b : first_not_below t l ≡ a.0 = not_below_at t l e a.0 a.1 a.2 in
    (rw b a.1, rw b a.2)

-- in a rising list the position is the count of the numbers below t
not_below_count : (t : ℕ) (l : List ℕ) → rising l ≡ true → count (λ x. ltb x t) l ≡ first_not_below t l
not_below_count t l e = rising_count_lt l t (first_not_below t l) (not_below_le t l) (λ i h. not_below_below t l e i h) (λ i h k. not_below_above t l e i h k)

-- the ids within a range are those between two positions
pub filter_within_places : (l : List ℕ) (a b : ℕ) → rising l ≡ true → a ≤ b → filter (within a b) l ≡ take (first_not_below b l - first_not_below a l) (drop (first_not_below a l) l)
filter_within_places l a b e h = rw (← not_below_count a l e, ← not_below_count b l e) (filter_within_part l a b e h)

-- ---- filtering from a position on

module _ {A : Type 0} (test : A → Bool) (d : A) where
  pub filter_all_fail : (l : List A) → ((i : ℕ) → i < length l → test (get_or l i d) ≡ false) → filter test l ≡ []
  filter_all_fail [] f = unfold filter in refl
  filter_all_fail (x ∷ xs) f = filter_no test x xs (f 0 (omega arith)) ∙ filter_all_fail xs (λ i h. f (suc i) (suc-le-suc h))

  -- no element from position i on passes
  pub filter_stop : (l : List A) (i : ℕ) → ((k : ℕ) → i ≤ k → k < length l → test (get_or l k d) ≡ false) → filter test (take i l) ≡ filter test l
  filter_stop l i f =
      let none : filter test (drop i l) ≡ [] = filter_all_fail (drop i l) (λ k h. rw (get_or-drop i l k d) (f (i + k) (omega arith) (let n = length-drop i l in omega arith))) in
      sym
      (ap (filter test) (sym (take-append-drop i l))
      ∙ filter_append test (take i l) (drop i l)
      ∙ ap (λ (x : List A). filter test (take i l) ++ x) none
      ∙ append-nil (filter test (take i l)))

-- ---- one more at the end of the written part

pub put_more : {A : Type 0} (l w : List A) (n : ℕ) (x : A) → n ≡ length w → n < length l → set (splice l 0 w) n x ≡ splice l 0 (w ++ (x ∷ []))
put_more l w n x e h =
    let f : 0 + length w ≤ length l = omega arith in
    let k : n < length (splice l 0 w) = rw (length_splice l w 0 f) h in
    let m : n ≡ 0 + length w = omega arith in
    let r : 0 + (length w + length (x ∷ [])) ≤ length l = omega arith in
    set_splice (splice l 0 w) n x k
    ∙ ap (λ (i : ℕ). splice (splice l 0 w) i (x ∷ [])) m
    ∙ splice_then l w (x ∷ []) 0 r

-- reading back what is written at the start
pub take_put : {A : Type 0} (l w : List A) → take (length w) (splice l 0 w) ≡ w
unfolding splice
take_put l w = take-append_seam w (drop (0 + length w) l)
