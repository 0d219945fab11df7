-- Laws of the elements that pass a test: which they are, how many, and whether all do. Assumes nothing.
use Rattle.std.specs.Prelude.{◌+◌, ◌≤◌, ◌<◌, ◌≡◌, ◌⊎◌, ◌&&◌, ◌∷◌, ◌++◌}
use Rattle.lists.specs.Laws.Prelude.{ℕ, zero, suc, suc-le-suc, refl, sym, ◌∙◌, inl, inr, Bool, true, false, not, List, [], append-nil, zero-add, suc-add, add-one, arith, length, take, get_or, take-suc}
use Rattle.lists.specs.Lists.{filter, count, all}

-- case distinction on a test, with its value
pub split : (b : Bool) → (b ≡ true) ⊎ (b ≡ false)
split true = inl refl
split false = inr refl

pub and_left : (a b : Bool) → (a && b) ≡ true → a ≡ true
and_left true b e = refl
and_left false b e = e

pub and_right : (a b : Bool) → (a && b) ≡ true → b ≡ true
and_right true b e = e
and_right false b e = absurd (let z : ◌≡◌ {A = ℕ} 0 1 = cc in omega arith)

module _ {A : Type 0} where
  module _ (test : A → Bool) (x : A) (xs : List A) where
    pub filter_yes : test x ≡ true → filter test (x ∷ xs) ≡ x ∷ filter test xs
    unfolding filter
    filter_yes e = rw e

    pub filter_no : test x ≡ false → filter test (x ∷ xs) ≡ filter test xs
    unfolding filter
    filter_no e = rw e

    pub count_yes : test x ≡ true → count test (x ∷ xs) ≡ suc (count test xs)
    unfolding count
    count_yes e = rw e

    pub count_no : test x ≡ false → count test (x ∷ xs) ≡ count test xs
    unfolding count
    count_no e = rw e

  module _ (test : A → Bool) where
    pub filter_append : (xs ys : List A) → filter test (xs ++ ys) ≡ filter test xs ++ filter test ys
    unfolding filter
    filter_append [] ys = refl
    filter_append (x ∷ xs) ys = let h = filter_append xs ys in elim (split (test x)) [ inl e ↦ rw (e, h) | inr e ↦ rw (e, h) ]

    pub count_append : (xs ys : List A) → count test (xs ++ ys) ≡ count test xs + count test ys
    unfolding count
    count_append [] ys = sym (zero-add (count test ys))
    count_append (x ∷ xs) ys = let h = count_append xs ys in elim (split (test x)) [ inl e ↦ rw (e, h, suc-add) | inr e ↦ rw (e, h) ]

    pub length_filter : (xs : List A) → length (filter test xs) ≡ count test xs
    unfolding filter count
    length_filter [] = refl
    length_filter (x ∷ xs) = let h = length_filter xs in elim (split (test x)) [ inl e ↦ rw (e, h) | inr e ↦ rw (e, h) ]

    pub count_le : (xs : List A) → count test xs ≤ length xs
    unfolding count
    count_le [] = omega arith
    count_le (x ∷ xs) = let h = count_le xs in elim (split (test x)) [ inl e ↦ rw e (omega arith) | inr e ↦ rw e (omega arith) ]

  -- two tests that agree everywhere
  pub filter_same : (s t : A → Bool) → ((x : A) → s x ≡ t x) → (xs : List A) → filter s xs ≡ filter t xs
  unfolding filter
  filter_same s t f [] = refl
  filter_same s t f (x ∷ xs) = rw (f x, filter_same s t f xs)

  module _ (test : A → Bool) where
    pub filter_all : (xs : List A) → all test xs ≡ true → filter test xs ≡ xs
    unfolding filter all
    filter_all [] q = refl
    filter_all (x ∷ xs) q = rw (and_left (test x) _ q, filter_all xs (and_right (test x) _ q))

    pub all_filter : (xs : List A) → all test (filter test xs) ≡ true
    unfolding filter all
    all_filter [] = refl
    all_filter (x ∷ xs) = let h = all_filter xs in elim (split (test x)) [ inl e ↦ rw (e, e, h) | inr e ↦ rw (e, h) ]

    pub filter_length_all : (xs : List A) → length (filter test xs) ≡ length xs → all test xs ≡ true
    unfolding all
    filter_length_all [] q = refl
    filter_length_all (x ∷ xs) q =
        elim (split (test x)) [
          | inl e ↦ rw (e, filter_length_all xs (let z : suc (length (filter test xs)) ≡ suc (length xs) = rw (filter_yes test x xs e) at q in omega arith))
          | inr e ↦ absurd (let z : length (filter test xs) ≡ suc (length xs) = rw (filter_no test x xs e) at q in omega (arith, length_filter test xs, count_le test xs))
        ]

    -- one more element is tested
    filter_last : (xs : List A) (i : ℕ) (d : A) → i < length xs → filter test (take (i + 1) xs) ≡ filter test (take i xs) ++ filter test (get_or xs i d ∷ [])
    filter_last xs i d h = rw (add-one, take-suc xs i d h) (filter_append test (take i xs) (get_or xs i d ∷ []))

    pub filter_step : (xs : List A) (i : ℕ) (d : A) → i < length xs → test (get_or xs i d) ≡ true → filter test (take (i + 1) xs) ≡ filter test (take i xs) ++ (get_or xs i d ∷ [])
    unfolding filter
    filter_step xs i d h q = filter_last xs i d h ∙ rw q

    pub filter_skip : (xs : List A) (i : ℕ) (d : A) → i < length xs → test (get_or xs i d) ≡ false → filter test (take (i + 1) xs) ≡ filter test (take i xs)
    unfolding filter
    filter_skip xs i d h q = filter_last xs i d h ∙ rw q (append-nil (filter test (take i xs)))

    pub count_split : (xs : List A) → count test xs + count (λ x. not (test x)) xs ≡ length xs
    unfolding count
    count_split [] = refl
    count_split (x ∷ xs) = let h = count_split xs in elim (split (test x)) [ inl e ↦ rw e (omega arith) | inr e ↦ rw e (omega arith) ]

    pub all_get_d : (xs : List A) → all test xs ≡ true → (i : ℕ) → i < length xs → (d : A) → test (get_or xs i d) ≡ true
    unfolding all
    all_get_d [] q i h d = absurd (omega arith)
    all_get_d (x ∷ xs) q zero h d = and_left _ _ q
    all_get_d (x ∷ xs) q (suc i) h d = all_get_d xs (and_right (test x) _ q) i (omega arith) d

    pub all_of : (d : A) (xs : List A) → ((i : ℕ) → i < length xs → test (get_or xs i d) ≡ true) → all test xs ≡ true
    unfolding all
    all_of d [] f = refl
    all_of d (x ∷ xs) f = rw (f 0 (omega arith), all_of d xs (λ i h. f (suc i) (suc-le-suc h)))

  -- what all elements pass, the filtered ones pass
  pub all_filter_of : (s t : A → Bool) (xs : List A) → all s xs ≡ true → all s (filter t xs) ≡ true
  unfolding filter all
  all_filter_of s t [] q = refl
  all_filter_of s t (x ∷ xs) q =
      let h = all_filter_of s t xs (and_right (s x) _ q) in
      elim (split (t x)) [ inl e ↦ rw (e, and_left (s x) _ q, h) | inr e ↦ rw (e, h) ]
