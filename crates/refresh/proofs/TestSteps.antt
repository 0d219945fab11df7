-- The tests before 7: what each of their results implies for the check list, and what is known if all pass. Assumes nothing.
use Rattle.std.specs.Bool.{MatchBool}
use Rattle.std.specs.List.{AllWithin, HoldsAt}
use Rattle.refresh.proofs.Prelude.{ℕ, ◌*◌, ◌≤◌, ◌<◌, ◌≡◌, refl, sym, inl, inr, Bool, true, false, not, List, [], ◌∷◌, ◌++◌, mul-le-mul, arith, ltb, length, get_or, ltb-true, ltb-false, lt-ltb, not-false, or_no_left, split, all_get_d, all_of, Staged, words_all, below, overfull, first_refusal_no, first_refusal_rest, Header, opening_of, largest_view, outside_inside, rows_long_of, Lendable}
use Rattle.lists.specs.Lists.{all}
use Rattle.refusals.specs.Refusals.{Check, check, first_refusal}
use Rattle.plain_table.specs.Refreshing.{Refresh, index_short, refresh_checks}
use Rattle.table.specs.Refusing.{outside, pending_outside, rows_short}
use Rattle.refresh_spec.specs.Refreshes.{refresh_refusal}
use Rattle.refresh.specs.inner.Testing.{early_refusal}

-- the words that an index store needs fit a u32
pub index_fits : (h : Header) (columns : ℕ) → outside h ≡ false → columns ≤ 8 → h.capacity * columns ≤ 524288
index_fits h columns inside few = omega (arith, mul-le-mul (outside_inside h inside).bounds.capacity_few few)

-- checks that refuse do so before any others
first_some : (checks more : List Check) → (first_refusal checks ≡ 0 → ⊥) → first_refusal checks ≡ first_refusal (checks ++ more)
unfolding first_refusal
first_some [] more some = absurd (some refl)
first_some (check true n ∷ checks) more some = refl
first_some (check false n ∷ checks) more some = first_some checks more some

module _ (h : Header) (rows pending index : ℕ) (r : Refresh) where
  -- refused before 7, whatever would be staged
  pub refused_before_seven : (records : List Staged) → (early_refusal h rows pending index r.columns r.stamp ≡ 0 → ⊥)
      → early_refusal h rows pending index r.columns r.stamp ≡ refresh_refusal h rows pending index r records
  unfolding early_refusal refresh_refusal refresh_checks rows_short
  refused_before_seven records some = first_some _ (check (overfull h.pending pending (words_all (opening_of h) records)) 7 ∷ []) some

  -- the tests, passed
  pub record Passed : Type 0 where
    pub inside : pending_outside h pending ≡ false
    pub rows_long : rows_short h rows ≡ false
    pub columns_few : ltb 8 (length r.columns) ≡ false
    pub columns_there : not (all (λ column. ltb column h.columns) r.columns) ≡ false
    pub index_long : index_short (opening_of h) r.columns index ≡ false
    pub stamp_new : below r.stamp (largest_view h.largest) ≡ false

  pub passed : early_refusal h rows pending index r.columns r.stamp ≡ 0 → Passed
  unfolding early_refusal
  passed e =
      let b = first_refusal_rest _ 0 _ e in
      let c = first_refusal_rest _ 1 _ b in
      let d = first_refusal_rest _ 11 _ c in
      let f = first_refusal_rest _ 5 _ d in
      record {
        inside = first_refusal_no _ 0 _ e;
        rows_long = first_refusal_no _ 1 _ b;
        columns_few = first_refusal_no _ 11 _ c;
        columns_there = first_refusal_no _ 5 _ d;
        index_long = first_refusal_no _ 1 _ f;
        stamp_new = first_refusal_no _ 8 _ (first_refusal_rest _ 1 _ f);
      }

  -- 7 is left
  pub only_seven : Passed → (records : List Staged) → refresh_refusal h rows pending index r records ≡ first_refusal (check (overfull h.pending pending (words_all (opening_of h) records)) 7 ∷ [])
  unfolding refresh_refusal refresh_checks rows_short first_refusal
  only_seven p records = rw (p.inside, p.rows_long, p.columns_few, p.columns_there, p.index_long, p.stamp_new)

-- what is lent is enough
pub lendable : (h : Header) (rows : List ℕ) (pending : ℕ) (index : List ℕ) (r : Refresh) → Passed h (length rows) pending (length index) r → Lendable h rows r.columns index
unfolding pending_outside index_short
lendable h rows pending index r p =
    record {
      inside = or_no_left (outside h) _ p.inside;
      rows_long = rows_long_of h (length rows) p.rows_long;
      columns_few = ltb-false _ _ p.columns_few;
      columns_there = not-false _ p.columns_there;
      index_long = ltb-false _ _ p.index_long;
    }

-- ---- the columns named

module _ (wide : ℕ) (columns : List ℕ) where
  pub columns_decided : (there : Bool) → MatchBool there (AllWithin (λ column. column < wide) columns 0 (length columns)) ((k : ℕ) × (k < length columns) × HoldsAt (λ column. wide ≤ column) columns k)
      → there ≡ all (λ column. ltb column wide) columns
  columns_decided true h = sym (all_of _ 0 columns (λ i less. lt-ltb _ wide (h i 0 (omega arith) less)))
  columns_decided false h = elim (split (all (λ (column : ℕ). ltb column wide) columns)) [
    | inl e ↦ absurd (omega (arith, h.2 0, ltb-true (get_or columns h.0 0) wide (all_get_d (λ (column : ℕ). ltb column wide) columns e h.0 h.1 0)))
    | inr e ↦ sym e
  ]
