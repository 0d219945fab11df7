-- The lowest number that exactly one of two lists has, and the first number that is not above the one before. Assumes nothing.
use Rattle.std.specs.Prelude.{◌+◌, ◌-◌, ◌≤◌, ◌<◌, ◌≡◌, ◌⊎◌, ◌&&◌, ◌||◌, ◌∷◌}
use Rattle.listing_check.specs.Laws.Prelude.{ℕ, zero, suc, min, refl, sym, ap, ◌∙◌, inl, inr, Bool, true, false, not, false≢true, List, [], foldl, Option, none, some, dec_lt, ℕ_discrete, min-le_left, min-le_right, min-eq_left, min-eq_right, arith, eqb, length, get_or, lt-ltb, le-ltb, or_right, split, above_head, above_tail, above_cons, elem_here, elem_there, elem_append, elem_filter, rising_at}
use Rattle.lists.specs.Lists.{filter, above, rising, elem}
use Rattle.listing_check.specs.Answers.{misplaced_behind, misplaced, wrong_numbers, lowest}

found : (o : Option ℕ) → (o ≡ none) ⊎ ((n : ℕ) × (o ≡ some n))
found none = inl refl
found (some n) = inr (n, refl)

none_some : {n : ℕ} → none ≡ some n → ⊥
none_some e = let z : ◌≡◌ {A = ℕ} 0 1 = cc in omega arith

-- ---- comparison of two lists

both_alike : (a b : Bool) → ((a && not b) || (b && not a)) ≡ false → a ≡ b
both_alike true true e = refl
both_alike true false e = e
both_alike false true e = sym e
both_alike false false e = refl

one_only : (a b : Bool) → ((a && not b) || (b && not a)) ≡ true → a ≡ not b
one_only true true e = sym e
one_only true false e = refl
one_only false true e = refl
one_only false false e = e

pub differ : (a : Bool) → a ≡ not a → ⊥
differ true e = false≢true (sym e)
differ false e = false≢true e

-- ---- the lowest of some numbers

fold_low : (x : ℕ) (xs : List ℕ) → foldl min x xs ≤ x
fold_low x [] = omega arith
fold_low x (y ∷ ys) = omega (arith, fold_low (min x y) ys, min-le_left x y)

fold_below : (m x : ℕ) (xs : List ℕ) → elem m xs ≡ true → foldl min x xs ≤ m
fold_below m x [] h = absurd (false≢true (unfold elem in h))
fold_below m x (y ∷ ys) h =
    elim (ℕ_discrete m y) [
      | yes e ↦ omega (arith, fold_low (min x y) ys, min-le_right x y)
      | no e ↦ fold_below m (min x y) ys (sym (elem_there m y ys e) ∙ h)
    ]

fold_least : (m x : ℕ) (xs : List ℕ) → elem m (x ∷ xs) ≡ true → foldl min x xs ≤ m
fold_least m x xs h =
    elim (ℕ_discrete m x) [ yes e ↦ omega (arith, fold_low x xs) | no e ↦ fold_below m x xs (sym (elem_there m x xs e) ∙ h) ]

has_more : (n y : ℕ) (ys : List ℕ) → elem n ys ≡ true → elem n (y ∷ ys) ≡ true
unfolding elem
has_more n y ys h = or_right (eqb n y) (elem n ys) h

fold_there : (x : ℕ) (xs : List ℕ) → elem (foldl min x xs) (x ∷ xs) ≡ true
fold_there x [] = elem_here x x [] refl
fold_there x (y ∷ ys) =
    elim (dec_lt y x) [
      | yes h ↦ spread (foldl min (min x y) ys) (min x y) (inr (min-eq_right (omega arith))) (fold_there (min x y) ys)
      | no h ↦ spread (foldl min (min x y) ys) (min x y) (inl (min-eq_left (omega arith))) (fold_there (min x y) ys)
    ]
  where
    spread : (n m : ℕ) → (m ≡ x) ⊎ (m ≡ y) → elem n (m ∷ ys) ≡ true → elem n (x ∷ y ∷ ys) ≡ true
    spread n m (inl e) h = elim (ℕ_discrete n x) [ yes p ↦ elem_here n x (y ∷ ys) p | no p ↦ has_more n x (y ∷ ys) (has_more n y ys (sym (elem_there n m ys (λ q. p (q ∙ e))) ∙ h)) ]
    spread n m (inr e) h = has_more n x (y ∷ ys) (rw e at h)

lowest_none : (l : List ℕ) → lowest l ≡ none → l ≡ []
unfolding lowest
lowest_none [] e = refl
lowest_none (x ∷ xs) e = absurd (none_some (sym e))

lowest_some : (l : List ℕ) {n : ℕ} → lowest l ≡ some n → (elem n l ≡ true) × ((m : ℕ) → elem m l ≡ true → n ≤ m)
unfolding lowest
lowest_some [] e = absurd (none_some e)
lowest_some (x ∷ xs) {n} e = let is : foldl min x xs ≡ n = cc in (rw is at (fold_there x xs), λ m h. omega (arith, is, fold_least m x xs h))

-- ---- a number that only one of two lists has, and none below it

pub record Apart (l m : List ℕ) (n : ℕ) : Type 0 where
  pub differs : elem n l ≡ not (elem n m)
  pub alike : (k : ℕ) → k < n → elem k l ≡ elem k m

pub apart_one : {l m : List ℕ} {a b : ℕ} → Apart l m a → Apart l m b → a ≡ b
apart_one {l} {m} {a} {b} p q = elim (dec_lt a b) [
  | yes h ↦ absurd (differ (elem a m) (sym (q.alike a h) ∙ p.differs))
  | no h ↦ elim (dec_lt b a) [
    | yes k ↦ absurd (differ (elem b m) (sym (p.alike b k) ∙ q.differs))
    | no k ↦ omega arith
  ]
]

module _ (given right : List ℕ) where
  has_wrong : (m : ℕ) → elem m (wrong_numbers given right) ≡ ((elem m given && not (elem m right)) || (elem m right && not (elem m given)))
  unfolding wrong_numbers
  has_wrong m = elem_append m (filter (λ n. not (elem n right)) given) (filter (λ n. not (elem n given)) right) ∙ simp elem_filter

  pub wrong_none : lowest (wrong_numbers given right) ≡ none → (m : ℕ) → elem m given ≡ elem m right
  wrong_none e m = both_alike (elem m given) (elem m right) (sym (has_wrong m) ∙ ap (elem m) (lowest_none (wrong_numbers given right) e) ∙ unfold elem in refl)

  none_below : {n : ℕ} → (elem n (wrong_numbers given right) ≡ true) × ((m : ℕ) → elem m (wrong_numbers given right) ≡ true → n ≤ m) → (k : ℕ) → k < n → elem k (wrong_numbers given right) ≡ false
  none_below s k h = elim (split (elem k (wrong_numbers given right))) [ inl e ↦ absurd (omega (arith, s.1 k e)) | inr e ↦ e ]

  pub wrong_some : {n : ℕ} → lowest (wrong_numbers given right) ≡ some n → Apart given right n
  wrong_some {n} e =
      let s = lowest_some (wrong_numbers given right) e in
      record {
        differs = one_only (elem n given) (elem n right) (sym (has_wrong n) ∙ s.0);
        alike = λ k h. both_alike (elem k given) (elem k right) (sym (has_wrong k) ∙ none_below s k h);
      }

pub wrong_same : (l : List ℕ) → lowest (wrong_numbers l l) ≡ none
wrong_same l = elim (found (lowest (wrong_numbers l l))) [
  | inl e ↦ e
  | inr e ↦ absurd (differ (elem e.0 l) (wrong_some l l e.1).differs)
]

-- ---- the first number not above the one before

pub record FirstNotAbove (l : List ℕ) (place : ℕ) : Type 0 where
  pub behind : 0 < place
  pub inside : place < length l
  pub not_above : get_or l place 0 ≤ get_or l (place - 1) 0
  pub rises : (i : ℕ) → 0 < i → i < place → get_or l (i - 1) 0 < get_or l i 0

first_one : {l : List ℕ} {a b : ℕ} → FirstNotAbove l a → FirstNotAbove l b → a ≡ b
first_one {l} {a} {b} p q = elim (dec_lt a b) [
  | yes h ↦ absurd (omega (arith, q.rises a p.behind h, p.not_above))
  | no h ↦ elim (dec_lt b a) [
    | yes k ↦ absurd (omega (arith, p.rises b q.behind k, q.not_above))
    | no k ↦ omega arith
  ]
]

module _ (before place n : ℕ) (ns : List ℕ) where
  behind_more : before < n → misplaced_behind before place (n ∷ ns) ≡ misplaced_behind n (suc place) ns
  unfolding misplaced_behind
  behind_more h = rw (lt-ltb before n h)

  behind_here : n ≤ before → misplaced_behind before place (n ∷ ns) ≡ some place
  unfolding misplaced_behind
  behind_here h = rw (le-ltb before n h)

behind_rising : (before place : ℕ) (ns : List ℕ) → above before ns ≡ true → misplaced_behind before place ns ≡ none
behind_rising before place [] e = unfold misplaced_behind in refl
behind_rising before place (n ∷ ns) e = behind_more before place n ns (above_head before n ns e) ∙ behind_rising n (suc place) ns (above_tail before n ns e)

-- for a number and those after it
behind_none : (before place : ℕ) (ns : List ℕ) → misplaced_behind before place ns ≡ none → above before ns ≡ true
behind_none before place [] e = unfold above in refl
behind_none before place (n ∷ ns) e =
    elim (dec_lt before n) [
      | yes h ↦ above_cons before n ns h (behind_none n (suc place) ns (sym (behind_more before place n ns h) ∙ e))
      | no h ↦ absurd (none_some (sym e ∙ behind_here before place n ns (omega arith)))
    ]

record Behind (before : ℕ) (ns : List ℕ) (k : ℕ) : Type 0 where
  pub inside : k < length ns
  pub not_above : get_or ns k 0 ≤ get_or (before ∷ ns) k 0
  pub rises : (i : ℕ) → i < k → get_or (before ∷ ns) i 0 < get_or ns i 0

behind_some : (before place : ℕ) (ns : List ℕ) {at : ℕ} → misplaced_behind before place ns ≡ some at → (k : ℕ) × (at ≡ place + k) × Behind before ns k
unfolding misplaced_behind
behind_some before place [] e = absurd (none_some e)
behind_some before place (n ∷ ns) {at} e =
    elim (dec_lt before n) [
      | yes h ↦
          let t = behind_some n (suc place) ns (sym (behind_more before place n ns h) ∙ e) in
          (suc t.0, omega (arith, t.1), record { inside = omega (arith, t.2.inside); not_above = t.2.not_above; rises = further h t.2 })
      | no h ↦
          let is : at ≡ place = cc (behind_here before place n ns (omega arith)) in
          (0, omega arith, record { inside = omega arith; not_above = omega arith; rises = λ i q. absurd (omega arith) })
    ]
  where
    further : before < n → {k : ℕ} → Behind n ns k → (i : ℕ) → i < suc k → get_or (before ∷ n ∷ ns) i 0 < get_or (n ∷ ns) i 0
    further h f zero q = h
    further h f (suc i) q = f.rises i (omega arith)

first_behind : (before : ℕ) (ns : List ℕ) (k : ℕ) → Behind before ns k → FirstNotAbove (before ∷ ns) (suc k)
first_behind before ns k b = record {
  behind = omega arith;
  inside = omega (arith, b.inside);
  not_above = back k (λ j. get_or ns k 0 ≤ get_or (before ∷ ns) j 0) b.not_above;
  rises = rise;
}
  where
    back : (k : ℕ) (P : ℕ → Type 0) → P k → P (suc k - 1)
    back k P p = let e : suc k - 1 ≡ k = omega arith in rw e p

    rise : (i : ℕ) → 0 < i → i < suc k → get_or (before ∷ ns) (i - 1) 0 < get_or (before ∷ ns) i 0
    rise zero p q = absurd (omega arith)
    rise (suc i) p q = back i (λ j. get_or (before ∷ ns) j 0 < get_or ns i 0) (b.rises i (omega arith))

pub misplaced_none : (l : List ℕ) → misplaced l ≡ none → rising l ≡ true
unfolding misplaced rising
misplaced_none [] e = refl
misplaced_none (n ∷ ns) e = behind_none n 1 ns e

pub misplaced_rising : (l : List ℕ) → rising l ≡ true → misplaced l ≡ none
unfolding misplaced rising
misplaced_rising [] e = refl
misplaced_rising (n ∷ ns) e = behind_rising n 1 ns e

pub misplaced_some : (l : List ℕ) {place : ℕ} → misplaced l ≡ some place → FirstNotAbove l place
unfolding misplaced
misplaced_some [] e = absurd (none_some e)
misplaced_some (n ∷ ns) {place} e = let t = behind_some n 1 ns e in let is : place ≡ suc t.0 = omega (arith, t.1) in rw is (first_behind n ns t.0 t.2)

pub misplaced_at : (l : List ℕ) {place : ℕ} → FirstNotAbove l place → misplaced l ≡ some place
misplaced_at l {place} f = elim (found (misplaced l)) [
  | inl e ↦ absurd (omega (arith, rising_at l (misplaced_none l e) (place - 1) place (omega (arith, f.behind)) f.inside, f.not_above))
  | inr e ↦ e.1 ∙ ap some (first_one (misplaced_some l e.1) f)
]
