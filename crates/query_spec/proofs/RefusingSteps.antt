-- The tests of the queries one by one: what each exit of a function proves of its refusal. Assumes nothing.
use Rattle.query_spec.proofs.Prelude.{ℕ, ◌-◌, ◌≤◌, ◌<◌, min, ◌≡◌, sym, ap, ◌∙◌, inl, inr, Bool, true, false, not, ◌||◌, List, [], ◌∷◌, arith, ltb, lt-ltb, le-ltb, all, split, Constraint, known, Header, outside, rows_short}
use Rattle.refusals.specs.Refusals.{Check, check, first_refusal}
use Rattle.std.specs.Prelude.{Some, None}
use Rattle.offsets.specs.declared.Ends.{Ends}
use Rattle.offsets.specs.Subsets.{Subset, well_formed, size}
use Rattle.offsets.specs.Laws.Forms.{end_none, end_some}
use Rattle.offsets.specs.inner.Writing.{bounds}
use Rattle.query_spec.specs.Queries.{past_rows, query_checks, refine_refusal, match_refusal, page_refusal}
use Rattle.query_spec.specs.inner.Tests.{Queryable, subset_refusal, RefineRefused, MatchRefused, PageRefused}

-- ---- test 5

module _ (h : Header) (subset : Subset) where
  pub past_none : None ≡ bounds subset → false ≡ past_rows h subset
  unfolding past_rows
  past_none e = sym (le-ltb h.rows 0 (omega arith)) ∙ ap (ltb h.rows) (sym (end_none subset e))

  pub past_some : (ends : Ends) → Some ends ≡ bounds subset → ltb h.rows ends.end ≡ past_rows h subset
  unfolding past_rows
  past_some ends e = ap (ltb h.rows) (sym (end_some subset ends e))

-- ---- the tests that all queries share

module _ (h : Header) (rows : ℕ) (subset : Subset) where
  pub refused_outside : outside h ≡ true → 1 ≡ subset_refusal h rows subset
  unfolding subset_refusal first_refusal
  refused_outside a = rw a

  pub refused_rows : outside h ≡ false → rows_short h rows ≡ true → 2 ≡ subset_refusal h rows subset
  unfolding subset_refusal first_refusal
  refused_rows a b = rw (a, b)

  pub refused_form : outside h ≡ false → rows_short h rows ≡ false → well_formed subset ≡ false → 4 ≡ subset_refusal h rows subset
  unfolding subset_refusal first_refusal
  refused_form a b c = rw (a, b, c)

  pub refused_past : outside h ≡ false → rows_short h rows ≡ false → well_formed subset ≡ true → past_rows h subset ≡ true → 5 ≡ subset_refusal h rows subset
  unfolding subset_refusal first_refusal
  refused_past a b c d = rw (a, b, c, d)

  pub refused_not : outside h ≡ false → rows_short h rows ≡ false → well_formed subset ≡ true → past_rows h subset ≡ false → 0 ≡ subset_refusal h rows subset
  unfolding subset_refusal first_refusal
  refused_not a b c d = rw (a, b, c, d)

  pub queryable_of : subset_refusal h rows subset ≡ 0 → Queryable h rows subset
  queryable_of e =
      elim (split (outside h)) [
        | inl a ↦ absurd (let z = refused_outside a in omega arith)
        | inr a ↦ elim (split (rows_short h rows)) [
          | inl b ↦ absurd (let z = refused_rows a b in omega arith)
          | inr b ↦ elim (split (well_formed subset)) [
            | inl c ↦ elim (split (past_rows h subset)) [
              | inl d ↦ absurd (let z = refused_past a b c d in omega arith)
              | inr d ↦ record { inside = a; long = b; formed = c; below = d }
            ]
            | inr c ↦ absurd (let z = refused_form a b c in omega arith)
          ]
        ]
      ]

  -- if one of them applies, no later test matters; a query may extend test 5
  refused_early : (beyond : Bool) (rest : List Check) → (past_rows h subset ≡ true → beyond ≡ true) → (subset_refusal h rows subset ≡ 0 → ⊥)
      → subset_refusal h rows subset ≡ first_refusal (check (outside h) 1 ∷ check (rows_short h rows) 2 ∷ check (not (well_formed subset)) 4 ∷ check beyond 5 ∷ rest)
  unfolding subset_refusal first_refusal
  refused_early beyond rest wide n =
      elim (split (outside h)) [
        | inl a ↦ rw a
        | inr a ↦ elim (split (rows_short h rows)) [
          | inl b ↦ rw (a, b)
          | inr b ↦ elim (split (well_formed subset)) [
            | inl c ↦ elim (split (past_rows h subset)) [ inl d ↦ rw (a, b, c, d, wide d) | inr d ↦ absurd (n (rw (a, b, c, d))) ]
            | inr c ↦ rw (a, b, c)
          ]
        ]
      ]

  -- ---- refine

  module _ (output : ℕ) where
    module _ (conditions : List Constraint) where
      refine_shared : (subset_refusal h rows subset ≡ 0 → ⊥) → subset_refusal h rows subset ≡ refine_refusal h rows subset conditions output
      unfolding refine_refusal query_checks
      refine_shared n = refused_early (past_rows h subset) _ (λ d. d) n

      refine_rest : (knows : Bool) → Queryable h rows subset → knows ≡ all (known h.columns) conditions
          → refine_refusal h rows subset conditions output ≡ first_refusal (check (not knows) 6 ∷ check (ltb output (size subset)) 2 ∷ [])
      unfolding refine_refusal first_refusal query_checks
      refine_rest knows a k = rw (a.inside, a.long, a.formed, a.below, k)

    -- a refused one has nothing more to state
    refine_refused : (knows : Bool) (number : ℕ) → ((conditions : List Constraint) → knows ≡ all (known h.columns) conditions → number ≡ refine_refusal h rows subset conditions output)
        → (number ≡ 0 → ⊥) → RefineRefused h rows subset knows output number
    refine_refused knows number is n = record { number_is = is; queryable = λ z. absurd (n z); room = λ z. absurd (n z) }

    pub refine_early : (knows : Bool) (number : ℕ) → number ≡ subset_refusal h rows subset → (number ≡ 0 → ⊥) → RefineRefused h rows subset knows output number
    refine_early knows number e n = refine_refused knows number (λ conditions k. e ∙ refine_shared conditions (λ z. n (e ∙ z))) n

    module _ (knows : Bool) (e : subset_refusal h rows subset ≡ 0) where
      pub refine_unknown : knows ≡ false → RefineRefused h rows subset knows output 6
      unfolding first_refusal
      refine_unknown f = refine_refused knows 6 (λ conditions k. sym (refine_rest conditions knows (queryable_of e) k ∙ rw f)) (λ z. omega arith)

      pub refine_narrow : knows ≡ true → output < size subset → RefineRefused h rows subset knows output 2
      unfolding first_refusal
      refine_narrow f n = refine_refused knows 2 (λ conditions k. sym (refine_rest conditions knows (queryable_of e) k ∙ rw (f, lt-ltb output (size subset) n))) (λ z. omega arith)

      pub refine_allowed : knows ≡ true → size subset ≤ output → RefineRefused h rows subset knows output 0
      unfolding first_refusal
      refine_allowed f n =
          record {
            number_is = λ conditions k. sym (refine_rest conditions knows (queryable_of e) k ∙ rw (f, le-ltb output (size subset) n));
            queryable = λ z. queryable_of e;
            room = λ z. n;
          }

  -- ---- any match

  match_shared : (conditions : List Constraint) → (subset_refusal h rows subset ≡ 0 → ⊥) → subset_refusal h rows subset ≡ match_refusal h rows subset conditions
  unfolding match_refusal query_checks
  match_shared conditions n = refused_early (past_rows h subset) _ (λ d. d) n

  match_rest : (conditions : List Constraint) (knows : Bool) → Queryable h rows subset → knows ≡ all (known h.columns) conditions
      → match_refusal h rows subset conditions ≡ first_refusal (check (not knows) 6 ∷ [])
  unfolding match_refusal first_refusal query_checks
  match_rest conditions knows a k = rw (a.inside, a.long, a.formed, a.below, k)

  module _ (knows : Bool) where
    pub match_early : (number : ℕ) → number ≡ subset_refusal h rows subset → (number ≡ 0 → ⊥) → MatchRefused h rows subset knows number
    match_early number e n = record { number_is = λ conditions k. e ∙ match_shared conditions (λ z. n (e ∙ z)); queryable = λ z. absurd (n z) }

    pub match_unknown : subset_refusal h rows subset ≡ 0 → knows ≡ false → MatchRefused h rows subset knows 6
    unfolding first_refusal
    match_unknown e f = record { number_is = λ conditions k. sym (match_rest conditions knows (queryable_of e) k ∙ rw f); queryable = λ z. absurd (omega arith) }

    pub match_allowed : subset_refusal h rows subset ≡ 0 → knows ≡ true → MatchRefused h rows subset knows 0
    unfolding first_refusal
    match_allowed e f = record { number_is = λ conditions k. sym (match_rest conditions knows (queryable_of e) k ∙ rw f); queryable = λ z. queryable_of e }

  -- ---- page

  module _ (start n output : ℕ) where
    module _ (conditions : List Constraint) where
      page_shared : (subset_refusal h rows subset ≡ 0 → ⊥) → subset_refusal h rows subset ≡ page_refusal h rows subset start n conditions output
      unfolding page_refusal query_checks
      page_shared m = refused_early (past_rows h subset || ltb (size subset) start) _ (λ d. rw d) m

      page_rest : (knows : Bool) → Queryable h rows subset → knows ≡ all (known h.columns) conditions
          → page_refusal h rows subset start n conditions output ≡ first_refusal (check (ltb (size subset) start) 5 ∷ check (not knows) 6 ∷ check (ltb output (min n (size subset - start))) 2 ∷ [])
      unfolding page_refusal first_refusal query_checks
      page_rest knows a k = rw (a.inside, a.long, a.formed, a.below, k)

    module _ (knows : Bool) where
      page_refused : (number : ℕ) → ((conditions : List Constraint) → knows ≡ all (known h.columns) conditions → number ≡ page_refusal h rows subset start n conditions output)
          → (number ≡ 0 → ⊥) → PageRefused h rows subset start n knows output number
      page_refused number is m = record { number_is = is; queryable = λ z. absurd (m z); within = λ z. absurd (m z); room = λ z. absurd (m z) }

      pub page_early : (number : ℕ) → number ≡ subset_refusal h rows subset → (number ≡ 0 → ⊥) → PageRefused h rows subset start n knows output number
      page_early number e m = page_refused number (λ conditions k. e ∙ page_shared conditions (λ z. m (e ∙ z))) m

      module _ (e : subset_refusal h rows subset ≡ 0) where
        pub page_beyond : size subset < start → PageRefused h rows subset start n knows output 5
        unfolding first_refusal
        page_beyond l = page_refused 5 (λ conditions k. sym (page_rest conditions knows (queryable_of e) k ∙ rw (lt-ltb (size subset) start l))) (λ z. omega arith)

        module _ (l : start ≤ size subset) where
          pub page_unknown : knows ≡ false → PageRefused h rows subset start n knows output 6
          unfolding first_refusal
          page_unknown f = page_refused 6 (λ conditions k. sym (page_rest conditions knows (queryable_of e) k ∙ rw (le-ltb (size subset) start l, f))) (λ z. omega arith)

          pub page_narrow : knows ≡ true → output < min n (size subset - start) → PageRefused h rows subset start n knows output 2
          unfolding first_refusal
          page_narrow f m =
              page_refused 2 (λ conditions k. sym (page_rest conditions knows (queryable_of e) k ∙ rw (le-ltb (size subset) start l, f, lt-ltb output (min n (size subset - start)) m)))
              (λ z. omega arith)

          pub page_allowed : knows ≡ true → min n (size subset - start) ≤ output → PageRefused h rows subset start n knows output 0
          unfolding first_refusal
          page_allowed f m =
              record {
                number_is = λ conditions k. sym (page_rest conditions knows (queryable_of e) k ∙ rw (le-ltb (size subset) start l, f, le-ltb output (min n (size subset - start)) m));
                queryable = λ z. queryable_of e;
                within = λ z. l;
                room = λ z. m;
              }
