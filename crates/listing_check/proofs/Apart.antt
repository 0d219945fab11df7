-- The lowest wrong number is where two rising lists first part. Assumes nothing.
use Rattle.listing_check.proofs.Prelude.{ℕ, ◌≤◌, ◌<◌, min, ◌≡◌, refl, sym, ap, ap₂, ◌∙◌, Bool, true, false, not, false≢true, List, [], ◌∷◌, dec_lt, ℕ_discrete, arith, eq-eqb, ne_eqb, Option, none, some, min-eq_left, min-eq_right, above_elem, above_rising, elem_here, elem_there, rising_ext, wrong_numbers, lowest, differ, Apart, apart_one, wrong_none, wrong_some}
use Rattle.lists.specs.Lists.{above, rising, elem}
use Rattle.listing_check.specs.inner.Scanning.{first_apart}

module _ (x y : ℕ) (xs ys : List ℕ) where
  pub apart_same : x ≡ y → first_apart (x ∷ xs) (y ∷ ys) ≡ first_apart xs ys
  unfolding first_apart
  apart_same e = rw (eq-eqb x y e)

  pub apart_left : x < y → first_apart (x ∷ xs) (y ∷ ys) ≡ some x
  unfolding first_apart
  apart_left h = let m : min x y ≡ x = min-eq_left (omega arith) in rw (ne_eqb x y (omega arith), m)

  pub apart_right : y < x → first_apart (x ∷ xs) (y ∷ ys) ≡ some y
  unfolding first_apart
  apart_right h = let m : min x y ≡ y = min-eq_right (omega arith) in rw (ne_eqb x y (omega arith), m)

-- ---- what the result means for the two lists

abbrev Meant : List ℕ → List ℕ → Option ℕ → Type 0
Meant l m none = l ≡ m
Meant l m (some n) = Apart l m n

meant_one : (l m : List ℕ) (o p : Option ℕ) → Meant l m o → Meant l m p → o ≡ p
meant_one l m none none a b = refl
meant_one l m none (some n) a b = absurd (differ (elem n m) (ap (elem n) (sym a) ∙ b.differs))
meant_one l m (some n) none a b = absurd (differ (elem n m) (ap (elem n) (sym b) ∙ a.differs))
meant_one l m (some n) (some k) a b = ap some (apart_one a b)

-- ---- by the lowest that is wrong

lowest_meant : (l m : List ℕ) → rising l ≡ true → rising m ≡ true → Meant l m (lowest (wrong_numbers l m))
lowest_meant l m a b = go (lowest (wrong_numbers l m)) refl
  where
    go : (o : Option ℕ) → lowest (wrong_numbers l m) ≡ o → Meant l m o
    go none e = rising_ext l m a b (wrong_none l m e)
    go (some n) e = wrong_some l m e

-- ---- by the first place where they part

turned : {l m : List ℕ} {n : ℕ} → Apart l m n → Apart m l n
turned {l} {m} {n} p = record { differs = not_turned (elem n l) (elem n m) p.differs; alike = λ k h. sym (p.alike k h) }
  where
    not_turned : (a b : Bool) → a ≡ not b → b ≡ not a
    not_turned true true e = e
    not_turned true false e = refl
    not_turned false true e = refl
    not_turned false false e = e

lower : (x : ℕ) (xs m : List ℕ) → above x xs ≡ true → ((k : ℕ) → k ≤ x → elem k m ≡ false) → Apart (x ∷ xs) m x
lower x xs m a below = record {
  differs = elem_here x x xs refl ∙ rw (below x (omega arith));
  alike = λ k h. elem_there k x xs (omega arith) ∙ above_elem x xs k a (omega arith) ∙ sym (below k (omega arith));
}

module _ (x y : ℕ) (xs ys : List ℕ) (a : above x xs ≡ true) (b : above y ys ≡ true) where
  below : x < y → (k : ℕ) → k ≤ x → elem k (y ∷ ys) ≡ false
  below h k l = elem_there k y ys (omega arith) ∙ above_elem y ys k b (omega arith)

  further : x ≡ y → (o : Option ℕ) → Meant xs ys o → Meant (x ∷ xs) (y ∷ ys) o
  further e none p = ap₂ (λ (z : ℕ) (zs : List ℕ). z ∷ zs) e p
  further e (some n) p =
      let other : n ≡ x → ⊥ = λ q. false≢true (sym (above_elem x xs n a (omega arith)) ∙ p.differs ∙ rw (above_elem y ys n b (omega arith))) in
      record {
        differs = elem_there n x xs other ∙ p.differs ∙ ap not (sym (elem_there n y ys (λ q. other (q ∙ sym e))));
        alike = λ k h.
            elim (ℕ_discrete k x) [
              | yes q ↦ elem_here k x xs q ∙ sym (elem_here k y ys (q ∙ e))
              | no q ↦ elem_there k x xs q ∙ p.alike k h ∙ sym (elem_there k y ys (λ r. q (r ∙ sym e)))
            ];
      }

none_in : (k : ℕ) → elem k [] ≡ false
unfolding elem
none_in k = refl

first_meant : (l m : List ℕ) → rising l ≡ true → rising m ≡ true → Meant l m (first_apart l m)
unfolding rising
first_meant [] [] a b = unfold first_apart in refl
first_meant [] (y ∷ ys) a b = unfold first_apart in turned (lower y ys [] b (λ k h. none_in k))
first_meant (x ∷ xs) [] a b = unfold first_apart in lower x xs [] a (λ k h. none_in k)
first_meant (x ∷ xs) (y ∷ ys) a b =
    elim (ℕ_discrete x y) [
      | yes e ↦ rw (apart_same x y xs ys e) (further x y xs ys a b e (first_apart xs ys) (first_meant xs ys (above_rising x xs a) (above_rising y ys b)))
      | no e ↦ elim (dec_lt x y) [
        | yes h ↦ rw (apart_left x y xs ys h) (lower x xs (y ∷ ys) a (below x y xs ys a b h))
        | no h ↦ rw (apart_right x y xs ys (omega arith)) (turned (lower y ys (x ∷ xs) b (below y x ys xs b a (omega arith))))
      ]
    ]

pub lowest_first : (l m : List ℕ) → rising l ≡ true → rising m ≡ true → lowest (wrong_numbers l m) ≡ first_apart l m
lowest_first l m a b = meant_one l m (lowest (wrong_numbers l m)) (first_apart l m) (lowest_meant l m a b) (first_meant l m a b)
