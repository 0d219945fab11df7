-- The links of a part's values: how they are made, and what a loop along them decides. Assumes nothing.
use Rattle.refresh_scan.proofs.Prelude.{ℕ, zero, suc, ◌+◌, ◌-◌, ◌≤◌, ◌<◌, ◌≡◌, refl, sym, ap, ◌∙◌, inl, inr, Bool, true, false, ◌||◌, List, [], ◌∷◌, dec_lt, add-one, arith, eqb, length, take, get_or, set, replicate, length-set, length-replicate, get_or-replicate, take-suc, take-length, get_or-set_same, get_or-set_other, eqb-true, eqb-false, split, elem_append, elem_there, elem_of}
use Rattle.lists.specs.Lists.{elem}
use Rattle.refresh_spec.specs.Index.{bucket_of}
use Rattle.refresh_scan.specs.inner.Scanning.{link_to, Linked}

bucket_in : (value : ℕ) → bucket_of 4096 value < 4096
unfolding bucket_of
bucket_in value = omega arith

module _ (values : List ℕ) where
  link_to_le : (bucket n : ℕ) → link_to values bucket n ≤ n
  unfolding link_to
  link_to_le bucket zero = omega arith
  link_to_le bucket (suc n) =
      let h = link_to_le bucket n in
      elim (split (eqb (bucket_of 4096 (get_or values n 0)) bucket)) [ inl e ↦ rw e (omega arith) | inr e ↦ rw e (omega arith) ]

  -- a link leads to a value of the bucket
  link_to_in : (bucket n : ℕ) → 0 < link_to values bucket n → bucket_of 4096 (get_or values (link_to values bucket n - 1) 0) ≡ bucket
  unfolding link_to
  link_to_in bucket zero h = absurd (omega arith)
  link_to_in bucket (suc n) h = elim (split (eqb (bucket_of 4096 (get_or values n 0)) bucket)) [
    | inl e ↦ let p : suc n - 1 ≡ n = omega arith in rw (e, p) (eqb-true _ bucket e)
    | inr e ↦ let h' : 0 < link_to values bucket n = rw e at h in rw e (link_to_in bucket n h')
  ]

  -- a value other than this one more
  has_past : (value n : ℕ) → n < length values → (get_or values n 0 ≡ value → ⊥) → elem value (take (n + 1) values) ≡ elem value (take n values)
  has_past value n h ne =
      rw (add-one n, take-suc values n 0 h, elem_append value (take n values) (get_or values n 0 ∷ []), elem_there value (get_or values n 0) [] (λ e. ne (sym e)))
      (none (elem value (take n values)))
    where
      none : (b : Bool) → (b || elem value []) ≡ b
      none true = refl
      none false = unfold elem in refl

  -- no value of a bucket is behind the link
  has_linked : (value n : ℕ) → n ≤ length values → elem value (take n values) ≡ elem value (take (link_to values (bucket_of 4096 value) n) values)
  unfolding link_to
  has_linked value zero h = refl
  has_linked value (suc n) h = elim (split (eqb (bucket_of 4096 (get_or values n 0)) (bucket_of 4096 value))) [
    | inl e ↦ rw e
    | inr e ↦ rw (e, ← add-one n) (has_past value n h (λ q. eqb-false _ _ e (ap (bucket_of 4096) q)) ∙ has_linked value n (omega arith))
  ]

-- ---- the turns of `link_values`

pub linked_begin : (values : List ℕ) → length values ≤ 1024 → Linked values 0 (replicate 5120 0)
unfolding link_to
linked_begin values few =
    record {
      few = few;
      long = length-replicate {A = ℕ} 5120 0;
      before = λ i h. absurd (omega arith);
      last = λ bucket h. get_or-replicate 5120 (1024 + bucket) 0 0 (omega arith);
    }

module _ (values links : List ℕ) (n : ℕ) (l : Linked values n links) (h : n < length values) where
  abbrev bucket : ℕ
  bucket = bucket_of 4096 (get_or values n 0)

  pub linked_on : (place : ℕ) → place ≡ 1024 + bucket → Linked values (n + 1) (set (set links n (get_or links place 0)) place (n + 1))
  unfolding link_to
  linked_on place e =
      let b = bucket_in (get_or values n 0) in
      let far : n < 1024 = omega (arith, l.few) in
      record {
        few = l.few;
        long = simp length-set l.long;
        before = λ i k. get_or-set_other (set links n (get_or links place 0)) place i (n + 1) 0 (λ q. omega arith) ∙ elim (dec_lt i n) [
          | yes p ↦ get_or-set_other links n i (get_or links place 0) 0 (λ q. omega arith) ∙ l.before i p
          | no p ↦
              let q : i ≡ n = omega arith in
              rw (q, e) (get_or-set_same links n _ 0 (omega (arith, l.long)) ∙ l.last bucket b)
        ];
        last = λ other k. rw (add-one n, e) (elim (split (eqb bucket other)) [
          | inl q ↦
              let s : bucket ≡ other = eqb-true bucket other q in
              rw (q, s) (get_or-set_same (set links n _) (1024 + other) (suc n) 0 (simp length-set (omega (arith, l.long))))
          | inr q ↦ rw q
              (get_or-set_other (set links n _) (1024 + bucket) (1024 + other) (suc n) 0 (λ s. eqb-false bucket other q (omega arith))
              ∙ get_or-set_other links n (1024 + other) _ 0 (λ s. omega arith)
              ∙ l.last other k)
        ]);
      }

-- ---- the turns of `is_among`

-- What holds at the loop's head: the values below the link decide, and those of them in the value's bucket are linked from there.
pub record LinkScan (values : List ℕ) (value link : ℕ) : Type 0 where
  pub inside : link ≤ length values
  pub in_bucket : 0 < link → bucket_of 4096 (get_or values (link - 1) 0) ≡ bucket_of 4096 value
  pub decides : elem value values ≡ elem value (take link values)

module _ (values links : List ℕ) (value : ℕ) (l : Linked values (length values) links) where
  link_scan : (link n : ℕ) → n ≤ length values → link ≡ link_to values (bucket_of 4096 value) n → elem value values ≡ elem value (take n values) → LinkScan values value link
  link_scan link n h e d =
      rw e
      (record {
        inside = omega (arith, link_to_le values (bucket_of 4096 value) n);
        in_bucket = link_to_in values (bucket_of 4096 value) n;
        decides = d ∙ has_linked values value n h;
      })

  pub link_scan_begin : (place : ℕ) → place ≡ 1024 + bucket_of 4096 value → LinkScan values value (get_or links place 0)
  link_scan_begin place e = link_scan _ (length values) (omega arith) (rw e (l.last (bucket_of 4096 value) (bucket_in value))) (rw (take-length values))

  module _ (link : ℕ) (w : LinkScan values value link) where
    pub link_scan_end : link ≡ 0 → false ≡ elem value values
    unfolding elem
    link_scan_end z = sym (w.decides ∙ rw z)

    module _ (some : link ≡ 0 → ⊥) where
      pub link_scan_found : get_or values (link - 1) 0 ≡ value → true ≡ elem value values
      link_scan_found e = sym (rw e at (elem_of values (link - 1) (omega (arith, w.inside))))

      pub link_scan_less : get_or links (link - 1) 0 < link
      link_scan_less = omega (arith, l.before (link - 1) (omega (arith, w.inside)), link_to_le values (bucket_of 4096 (get_or values (link - 1) 0)) (link - 1))

      pub link_scan_on : (get_or values (link - 1) 0 ≡ value → ⊥) → LinkScan values value (get_or links (link - 1) 0)
      link_scan_on ne =
          let p : link ≡ link - 1 + 1 = omega arith in
          link_scan _ (link - 1) (omega (arith, w.inside))
          (rw (← w.in_bucket (omega arith)) (l.before (link - 1) (omega (arith, w.inside))))
          (w.decides ∙ ap (λ (n : ℕ). elem value (take n values)) p ∙ has_past values value (link - 1) (omega (arith, w.inside)) ne)
