-- The turns of `mark_values`, from value to value: a value that is looked up, and one that was looked up before. Assumes nothing.
use Rattle.refresh_index.proofs.Prelude.{ℕ, ◌+◌, ◌≤◌, ◌<◌, ◌≡◌, refl, sym, ap, ◌∙◌, inl, inr, Bool, true, ◌||◌, false≢true, List, ℕ_discrete, dec_lt, arith, eqb, length, take, get_or, set, replicate, length-set, length-replicate, get_or-replicate, length-take-le, take_all, get_or-take, get_or-set_same, get_or-set_other, eqb-true, or_right, or_second, any_at, any_of, split, Header, Marked, marked_none, marked_then, marked_weaker, usable, ListedMarked, bucket_below, usable_is, found_mentions, mentions_found}
use Rattle.lists.specs.Lists.{any}
use Rattle.refresh_spec.specs.Index.{bucket_of, entries_under}
use Rattle.refresh_spec.specs.inner.Finding.{leads}
use Rattle.refresh_index.specs.inner.Marking.{MarkedAll, found, Noted}

-- ---- the first values

module _ (test : ℕ → Bool) (values : List ℕ) (i : ℕ) (k : i < length values) where
  any_before : (j : ℕ) → j < i → test (get_or values j 0) ≡ true → any test (take i values) ≡ true
  any_before j less t =
      any_of test 0 (take i values) j (omega (arith, length-take-le i values (omega arith))) (ap test (get_or-take i values j 0 less) ∙ t)

  -- a test that holds for one value more
  any_next : any test (take (i + 1) values) ≡ true → (any test (take i values) || test (get_or values i 0)) ≡ true
  any_next e =
      let a = any_at test 0 (take (i + 1) values) e in
      let below : a.0 < i + 1 = omega (arith, a.1, length-take-le (i + 1) values (omega arith)) in
      let t : test (get_or values a.0 0) ≡ true = sym (ap test (get_or-take (i + 1) values a.0 0 below)) ∙ a.2 in
      elim (dec_lt a.0 i) [
        | yes less ↦ rw (any_before a.0 less t)
        | no more ↦
            let same : a.0 ≡ i = omega (arith, below) in
            or_right (any test (take i values)) _ (sym (ap (λ (n : ℕ). test (get_or values n 0)) same) ∙ t)
      ]

-- ---- the rows marked

module _ (h : Header) (rows index columns values : List ℕ) where
  -- the rows of the first i values are marked
  abbrev pub Listing : ℕ → List ℕ → List ℕ → ℕ → Type 0
  Listing i words words' more = Marked (found h rows index columns values) (found h rows index columns (take i values)) words words' more

  abbrev under : ℕ → ℕ → Bool
  under row = λ value. leads h rows columns value (entries_under h.capacity index value) row

  pub listing_begin : (words : List ℕ) → Listing 0 words words 0
  unfolding found any
  listing_begin words = marked_weaker (λ row e. e) (λ row e. absurd (false≢true e)) (marked_none {allowed = found h rows index columns values})

  module _ (i : ℕ) (k : i < length values) {words words₁ : List ℕ} {a : ℕ} (m : Listing i words words₁ a) where
    pub value_new : {words₂ : List ℕ} {b : ℕ} → MarkedAll (leads h rows columns (get_or values i 0) (entries_under h.capacity index (get_or values i 0))) words₁ words₂ b
        → Listing (i + 1) words words₂ (a + b)
    unfolding found
    value_new n =
        marked_weaker (λ row e. e) (λ row e. any_next (under row) values i k e)
        (marked_then m (marked_weaker (λ row e. any_of (under row) 0 values i k e) (λ row e. e) n))

    pub value_repeated : (j : ℕ) × (j < i) × (get_or values j 0 ≡ get_or values i 0) → Listing (i + 1) words words₁ a
    unfolding found
    value_repeated same = marked_weaker (λ row e. e) (λ row e. fewer row (any_next (under row) values i k e)) m
      where
        fewer : (row : ℕ) → (any (under row) (take i values) || under row (get_or values i 0)) ≡ true → any (under row) (take i values) ≡ true
        fewer row e =
            elim (split (any (under row) (take i values))) [
              | inl q ↦ q
              | inr q ↦ any_before (under row) values i k same.0 same.1 (ap (under row) same.2 ∙ or_second (any (under row) (take i values)) _ e q)
            ]

  pub values_end : usable h columns index ≡ true → (i : ℕ) → length values ≤ i → {words words₁ : List ℕ} {a : ℕ} → Listing i words words₁ a
      → ListedMarked h rows index columns values words words₁ a
  values_end u i k m =
      let v = usable_is h columns index u in
      λ needed sub. marked_weaker (found_mentions h rows columns index v.named values v.seen)
      (λ row e. let s = sub row e in rw (take_all i values k) (mentions_found h rows columns index v.named values s.0 row s.1)) m

-- ---- the values looked up before

bucket_zero : bucket_of 1024 0 ≡ 0
unfolding bucket_of
bucket_zero = refl

bucket_one : bucket_of 1024 1 ≡ 632
unfolding bucket_of
bucket_one = refl

abbrev zeros : List ℕ
zeros = replicate 1024 0

-- no value is in its slot at first
first_slots : (value : ℕ) → get_or (set zeros 0 1) (bucket_of 1024 value) 0 ≡ value → ⊥
first_slots value e =
    let long : length zeros ≡ 1024 = length-replicate {A = ℕ} 1024 0 in
    elim (ℕ_discrete (bucket_of 1024 value) 0) [
      | yes z ↦
          let one : 1 ≡ value = sym (get_or-set_same zeros 0 1 0 (omega (arith, long))) ∙ ap (λ (b : ℕ). get_or (set zeros 0 1) b 0) (sym z) ∙ e in
          let wrong : ◌≡◌ {A = ℕ} 632 0 = sym bucket_one ∙ ap (bucket_of 1024) one ∙ z in
          omega (arith, wrong)
      | no n ↦
          let none : 0 ≡ value = sym (get_or-replicate 1024 (bucket_of 1024 value) 0 0 (bucket_below 1024 value (omega arith))) ∙ sym (get_or-set_other zeros 0 (bucket_of 1024 value) 1 0 n) ∙ e in
          n (sym (ap (bucket_of 1024) none) ∙ bucket_zero)
    ]

module _ (values : List ℕ) where
  pub noted_begin : Noted values 0 (set (replicate 1024 0) 0 1)
  noted_begin =
      record { long = length-set zeros 0 1 ∙ length-replicate {A = ℕ} 1024 0; earlier = λ value e. absurd (first_slots value e) }

  module _ {i : ℕ} {recent : List ℕ} (n : Noted values i recent) where
    pub noted_on : Noted values (i + 1) (set recent (bucket_of 1024 (get_or values i 0)) (get_or values i 0))
    noted_on =
        let v = get_or values i 0 in
        let inside : bucket_of 1024 v < length recent = omega (arith, n.long, bucket_below 1024 v (omega arith)) in
        record {
          long = length-set recent (bucket_of 1024 v) v ∙ n.long;
          earlier = λ value e.
              elim (ℕ_discrete (bucket_of 1024 value) (bucket_of 1024 v)) [
                | yes s ↦ (i, omega arith, sym (get_or-set_same recent (bucket_of 1024 v) v 0 inside) ∙ ap (λ (b : ℕ). get_or (set recent (bucket_of 1024 v) v) b 0) (sym s) ∙ e)
                | no s ↦
                    let b = n.earlier value (sym (get_or-set_other recent (bucket_of 1024 v) (bucket_of 1024 value) v 0 s) ∙ e) in
                    (b.0, omega (arith, b.1), b.2)
              ];
        }

    pub noted_before : true ≡ eqb (get_or recent (bucket_of 1024 (get_or values i 0)) 0) (get_or values i 0) → (j : ℕ) × (j < i) × (get_or values j 0 ≡ get_or values i 0)
    noted_before e = n.earlier (get_or values i 0) (eqb-true _ _ (sym e))
