-- The checks one by one, and what is known if nothing is refused. Assumes nothing.
use Rattle.refusals.specs.Laws.Numbers.{none_outcome, number_some}
use Rattle.refusals.specs.declared.Refusal.{Refusal}
use Rattle.std.specs.Prelude.{Ok, Err, Some, None}
use Rattle.precedence.proofs.Prelude.{ℕ, ◌/◌, ◌%◌, ◌≤◌, ◌<◌, ◌≡◌, refl, sym, ap, ◌∙◌, arith, length, leb-false, ltb-false, le-leb, lt-leb, lt-ltb, le-ltb, eq-eqb, ne_eqb, inl, inr, false, not, ◌||◌, List, [], ◌∷◌, none, some, leb, ltb, eqb, split, or_no_right, outcome_accepted, first_refusal_no, first_refusal_rest, Header, of_rows, lookup_accepted, inside_fits, Tested, OnTable}
use Rattle.refusals.specs.Refusals.{check, first_refusal, accepted, found_view, number}
use Rattle.table.specs.Refusing.{outside, rows_short, pairs_short, lookup_checks, lookup_refusal}
use Rattle.precedence.specs.Precedence.{pairs_of, precedence_failure, precedence_refusal, PrecedenceChecked}

module _ (h : Header) (rows keys column words : ℕ) where
  -- what a lookup refuses, with the same number
  pub lookup_refused : (lookup_refusal h rows keys h.keys ≡ 0 → ⊥) → lookup_refusal h rows keys h.keys ≡ precedence_refusal h rows keys column words
  unfolding lookup_refusal lookup_checks precedence_refusal first_refusal
  lookup_refused refused_is =
      elim (split (outside h)) [
        | inl a ↦ rw a
        | inr a ↦ elim (split (rows_short h rows || pairs_short h keys)) [
          | inl b ↦ rw (a, b)
          | inr b ↦ absurd (refused_is (rw (a, b, eq-eqb h.keys h.keys refl)))
        ]
      ]

  module _ (passed : lookup_refusal h rows keys h.keys ≡ 0) where
    lookup_tests : (outside h ≡ false) × ((rows_short h rows || pairs_short h keys) ≡ false)
    unfolding lookup_refusal lookup_checks
    lookup_tests =
        (first_refusal_no (outside h) 0 _ passed, first_refusal_no (rows_short h rows || pairs_short h keys) 1 _ (first_refusal_rest (outside h) 0 _ passed))

    rest : precedence_refusal h rows keys column words ≡ first_refusal (check (leb h.keys column) 6 ∷ check (not (eqb (words % 2) 0) || ltb (words / 2) 1 || ltb 16 (words / 2)) 14 ∷ [])
    unfolding precedence_refusal first_refusal
    rest = rw (lookup_tests.0, lookup_tests.1)

    pub no_key_column : h.keys ≤ column → 6 ≡ precedence_refusal h rows keys column words
    unfolding first_refusal
    no_key_column k = rw (rest, le-leb _ _ k)

    module _ (k : column < h.keys) where
      pub odd_words : (words % 2 ≡ 0 → ⊥) → 14 ≡ precedence_refusal h rows keys column words
      unfolding first_refusal
      odd_words o = rw (rest, lt-leb _ _ k, ne_eqb _ _ o)

      pub no_pairs : words % 2 ≡ 0 → words / 2 < 1 → 14 ≡ precedence_refusal h rows keys column words
      unfolding first_refusal
      no_pairs e n = rw (rest, lt-leb _ _ k, eq-eqb _ _ e, lt-ltb _ _ n)

      pub many_pairs : words % 2 ≡ 0 → 1 ≤ words / 2 → 16 < words / 2 → 14 ≡ precedence_refusal h rows keys column words
      unfolding first_refusal
      many_pairs e n m = rw (rest, lt-leb _ _ k, eq-eqb _ _ e, le-ltb _ _ n, lt-ltb _ _ m)

      pub none_refused : words % 2 ≡ 0 → 1 ≤ words / 2 → words / 2 ≤ 16 → 0 ≡ precedence_refusal h rows keys column words
      unfolding first_refusal
      none_refused e n m = rw (rest, lt-leb _ _ k, eq-eqb _ _ e, le-ltb _ _ n, le-ltb _ _ m)

  module _ (passed : precedence_refusal h rows keys column words ≡ 0) where
    stores_tests : (outside h ≡ false) × ((rows_short h rows || pairs_short h keys) ≡ false)
    unfolding precedence_refusal
    stores_tests =
        (first_refusal_no (outside h) 0 _ passed, first_refusal_no (rows_short h rows || pairs_short h keys) 1 _ (first_refusal_rest (outside h) 0 _ passed))

    lookup_passed : lookup_refusal h rows keys h.keys ≡ 0
    unfolding lookup_refusal lookup_checks first_refusal
    lookup_passed = rw (stores_tests.0, stores_tests.1, eq-eqb h.keys h.keys refl)

    passed_rest : (column < h.keys) × (words / 2 ≤ 16)
    passed_rest =
        let e = sym (rest lookup_passed) ∙ passed in
        (leb-false _ _ (first_refusal_no (leb h.keys column) 5 _ e), ltb-false _ _ (or_no_right (not (eqb (words % 2) 0) || ltb (words / 2) 1) _ (first_refusal_no _ 13 _ (first_refusal_rest _ 5 _ e))))

-- header, stores, column and pairs have passed the tests
pub record Accepted (h : Header) (rows keys : List ℕ) (column words : ℕ) : Type 0 where
  pub tested : Tested h rows keys
  pub column_key : column < h.keys
  pub pairs_few : words / 2 ≤ 16
  pub rows_few : h.rows ≤ 65536

pub passed_accepted : (h : Header) (rows keys : List ℕ) (column words : ℕ) → precedence_refusal h (length rows) (length keys) column words ≡ 0 → Accepted h rows keys column words
passed_accepted h rows keys column words accepts =
    let l = lookup_accepted h (length rows) (length keys) h.keys (lookup_passed h (length rows) (length keys) column words accepts) in
    let i = l.inside in
    let r = passed_rest h (length rows) (length keys) column words accepts in
    record {
      tested = record { fits = inside_fits h rows keys i l.rows_long l.keys_long; sort_there = i.bounds.sort_column };
      column_key = r.0;
      pairs_few = r.1;
      rows_few = omega (arith, i.rows_fit, i.bounds.capacity_few);
    }

module _ (h : Header) (rows keys : List ℕ) (column : ℕ) (pairs : List ℕ) where
  -- refused
  pub check_refused : (r : Refusal) → number r ≡ precedence_refusal h (length rows) (length keys) column (length pairs) → PrecedenceChecked h rows keys column pairs (Err r)
  check_refused r e = record { refusal = none_outcome _ r e; table = λ accepts. absurd (number_some r (e ∙ accepts)) }

  -- accepted: every row meets its pairs, or one fails
  module _ (accepts : precedence_refusal h (length rows) (length keys) column (length pairs) ≡ 0) where
    pub check_met : OnTable h rows keys (none ≡ precedence_failure (of_rows h rows) column (pairs_of pairs)) → PrecedenceChecked h rows keys column pairs (Ok None)
    unfolding found_view
    check_met right =
        record {
          refusal = outcome_accepted _ _ none refl accepts;
          table = λ _ sound differ. ap accepted (right sound differ);
        }

    pub check_fails : (row place : ℕ) → OnTable h rows keys (some (record { row = row; place = place }) ≡ precedence_failure (of_rows h rows) column (pairs_of pairs))
        → PrecedenceChecked h rows keys column pairs (Ok (Some (record { row = row; place = place })))
    unfolding found_view
    check_fails row place right =
        record {
          refusal = outcome_accepted _ _ (some (record { row = row; place = place })) refl accepts;
          table = λ _ sound differ. ap accepted (right sound differ);
        }
