-- What the answer implies for each live row and pair; that equal values are met; and that the check of the lent rows is the check
-- of the plain table that the stores represent. Assumes nothing.
use Rattle.refusals.specs.Refusals.{found_view}
use Rattle.refusals.specs.declared.Refusal.{Refusal}
use Rattle.std.specs.Prelude.{◌+◌, ◌≤◌, ◌<◌, ◌≡◌, ◌⊎◌, ◌&&◌, ◌||◌, ◌∷◌, Result, Option as Optional}
use Rattle.precedence.specs.Laws.Prelude.{ℕ, zero, suc, refl, sym, ap, ap₂, ◌∙◌, inl, inr, Bool, true, false, not, false≢true, List, [], Option, none, some, arith, eqb, length, get_or, eqb-true, leb-true, eq-eqb, le-leb, any, same, split, and_left, and_right, or_right, or_second, same_refl, same_eq, accepted, Opening, row_of, sort_cell, no_row, Header, opening_of, stores, Represents, of_rows, represents_sound, live_shown}
use Rattle.plain_table.specs.Plain.{Row, Plain, Numbered, live_from, live_rows}
use Rattle.precedence.specs.Precedence.{Pair, pairs_of, other_key_cells, precedes, meets_pair, first_failing, failure_among, precedence_failure, precedence_refusal, PrecedenceChecked}
use Rattle.precedence.specs.declared.Failure.{Failure}
use Rattle.precedence.specs.Laws.Scan.{any_live_lem, live_any, fails_here, fails_later, failing_pair, failure_here, failure_later, failure_dead}

-- a pair past the end
abbrev pub no_pair : Pair
no_pair = record { first = 0; second = 0 }

-- row i has, by its own sort cell, a live row with this value in the column and the same other key cells
pub record Preceded (p : Plain) (column value i : ℕ) : Type 0 where
  pub row : ℕ
  pub live : (row_of p row).live ≡ true
  pub value_there : get_or (row_of p row).cells column 0 ≡ value
  pub others_same : other_key_cells p.opening.keys column (row_of p row).cells ≡ other_key_cells p.opening.keys column (row_of p i).cells
  pub no_larger : sort_cell p (row_of p row) ≤ sort_cell p (row_of p i)

module _ (p : Plain) (column : ℕ) where
  -- a live row that meets a pair and has its first value is preceded by the second
  pub meets_preceded : (i : ℕ) (pair : Pair) → meets_pair p column (row_of p i).cells pair ≡ true → get_or (row_of p i).cells column 0 ≡ pair.first → Preceded p column pair.second i
  unfolding meets_pair live_rows precedes
  meets_preceded i pair e named =
      let a = or_second (not (eqb (get_or (row_of p i).cells column 0) pair.first)) _ e (rw (eq-eqb _ _ named)) in
      let l = live_any (precedes p.opening column pair.second (row_of p i).cells) 0 p.rows a in
      let both = and_left (eqb (get_or (row_of p l.0).cells column 0) pair.second && same (other_key_cells p.opening.keys column (row_of p l.0).cells) (other_key_cells p.opening.keys column (row_of p i).cells)) _ l.2 in
      record {
        row = l.0;
        live = l.1;
        value_there = eqb-true _ _ (and_left (eqb (get_or (row_of p l.0).cells column 0) pair.second) _ both);
        others_same = same_eq _ _ (and_right (eqb (get_or (row_of p l.0).cells column 0) pair.second) _ both);
        no_larger = leb-true _ _ (and_right (eqb (get_or (row_of p l.0).cells column 0) pair.second && same (other_key_cells p.opening.keys column (row_of p l.0).cells) (other_key_cells p.opening.keys column (row_of p i).cells)) _ l.2);
      }

  -- conversely
  pub preceded_meets : (i : ℕ) (pair : Pair) → Preceded p column pair.second i → meets_pair p column (row_of p i).cells pair ≡ true
  unfolding meets_pair live_rows precedes
  preceded_meets i pair r =
      or_right (not (eqb (get_or (row_of p i).cells column 0) pair.first)) _
      (any_live_lem (precedes p.opening column pair.second (row_of p i).cells) 0 p.rows r.row r.live (rw (eq-eqb _ _ r.value_there, r.others_same, same_refl (other_key_cells p.opening.keys column (row_of p i).cells)) (le-leb _ _ r.no_larger)))

  -- "A pair of two equal values is met by the row itself"
  pub equal_met : (i value : ℕ) → (row_of p i).live ≡ true → meets_pair p column (row_of p i).cells (record { first = value; second = value }) ≡ true
  equal_met i value live =
      elim (split (eqb (get_or (row_of p i).cells column 0) value)) [
        | inl e ↦ preceded_meets i (record { first = value; second = value }) (record { row = i; live = live; value_there = eqb-true _ _ e; others_same = refl; no_larger = omega arith })
        | inr e ↦ unfold meets_pair in rw e
      ]

-- ---- what the answer implies

module _ {A : Type 0} (test : A → Bool) (d : A) where
  none_failing : (n : ℕ) (xs : List A) → first_failing test n xs ≡ none → (k : ℕ) → k < length xs → test (get_or xs k d) ≡ true
  none_failing n [] e k h = absurd (omega arith)
  none_failing n (x ∷ xs) e zero h =
      elim (split (test x)) [
        | inl t ↦ t
        | inr t ↦ let f = fails_here test n x xs t in absurd (let z : ◌≡◌ {A = ℕ} 0 1 = cc in omega arith)
      ]
  none_failing n (x ∷ xs) e (suc k) h =
      elim (split (test x)) [
        | inl t ↦ none_failing (suc n) xs (sym (fails_later test n x xs t) ∙ e) k (omega arith)
        | inr t ↦ let f = fails_here test n x xs t in absurd (let z : ◌≡◌ {A = ℕ} 0 1 = cc in omega arith)
      ]

none_or_some : (o : Option ℕ) → (o ≡ none) ⊎ ((place : ℕ) × (o ≡ some place))
none_or_some none = inl refl
none_or_some (some place) = inr (place, refl)

module _ (p : Plain) (column : ℕ) (pairs : List Pair) where
  none_first : (n : ℕ) (row : Row) (rows : List Row) → failure_among p column pairs (live_from n (row ∷ rows)) ≡ none → row.live ≡ true → failing_pair p column pairs row.cells ≡ none
  none_first n row rows e l =
      elim (none_or_some (failing_pair p column pairs row.cells)) [
        | inl f ↦ f
        | inr f ↦ let g = failure_here p column pairs n row rows f.0 l f.1 in absurd (let z : ◌≡◌ {A = ℕ} 0 1 = cc in omega arith)
      ]

  none_rest : (n : ℕ) (row : Row) (rows : List Row) → failure_among p column pairs (live_from n (row ∷ rows)) ≡ none → failure_among p column pairs (live_from (suc n) rows) ≡ none
  none_rest n row rows e =
      elim (split row.live) [
        | inl l ↦ sym (failure_later p column pairs n row rows l (none_first n row rows e l)) ∙ e
        | inr l ↦ sym (failure_dead p column pairs n row rows l) ∙ e
      ]

  none_among : (n : ℕ) (rows : List Row) → failure_among p column pairs (live_from n rows) ≡ none → (i : ℕ) → (get_or rows i no_row).live ≡ true
      → failing_pair p column pairs (get_or rows i no_row).cells ≡ none
  none_among n [] e i l = absurd (false≢true l)
  none_among n (row ∷ rows) e zero l = none_first n row rows e l
  none_among n (row ∷ rows) e (suc i) l = none_among (suc n) rows (none_rest n row rows e) i l

  -- if no row fails, each live row with a pair's first value is preceded by the second
  pub none_preceded : precedence_failure p column pairs ≡ none → (i : ℕ) → (row_of p i).live ≡ true → (k : ℕ) → k < length pairs
      → get_or (row_of p i).cells column 0 ≡ (get_or pairs k no_pair).first → Preceded p column (get_or pairs k no_pair).second i
  unfolding precedence_failure live_rows
  none_preceded e i l k h named =
      meets_preceded p column i (get_or pairs k no_pair) (none_failing (meets_pair p column (row_of p i).cells) no_pair 0 pairs (none_among 0 p.rows e i l) k h) named

-- ---- the row and the pair that an answer names

-- a list's first place that fails a test
pub record FirstFails {A : Type 0} (test : A → Bool) (d : A) (xs : List A) (k : ℕ) : Type 0 where
  pub there : k < length xs
  pub fails : test (get_or xs k d) ≡ false
  pub before : (j : ℕ) → j < k → test (get_or xs j d) ≡ true

module _ {A : Type 0} (test : A → Bool) (d x : A) (xs : List A) (k : ℕ) (t : test x ≡ true) (f : FirstFails test d xs k) where
  behind : (j : ℕ) → j < suc k → test (get_or (x ∷ xs) j d) ≡ true
  behind zero h = t
  behind (suc j) h = f.before j (omega arith)

  fails_behind : FirstFails test d (x ∷ xs) (suc k)
  fails_behind = record { there = omega (arith, f.there); fails = f.fails; before = behind }

some_failing : {A : Type 0} (test : A → Bool) (d : A) (n : ℕ) (xs : List A) (place : ℕ) → first_failing test n xs ≡ some place → (k : ℕ) × (place ≡ n + k) × FirstFails test d xs k
some_failing test d n [] place e = absurd (let z : ◌≡◌ {A = ℕ} 0 1 = unfold first_failing in cc in omega arith)
some_failing test d n (x ∷ xs) place e =
    elim (split (test x)) [
      | inl t ↦
          let r = some_failing test d (suc n) xs place (sym (fails_later test n x xs t) ∙ e) in
          (suc r.0, omega (arith, r.1), fails_behind test d x xs r.0 t r.2)
      | inr t ↦
          let f : some n ≡ some place = sym (fails_here test n x xs t) ∙ e in
          let g : n ≡ place = cc in
          (0, omega arith, record { there = omega arith; fails = t; before = λ j h. absurd (omega arith) })
    ]

module _ (p : Plain) (column : ℕ) (pairs : List Pair) where
  -- row i is live and first fails this pair, and no live row before it fails one
  pub record LowestFails (rows : List Row) (i place : ℕ) : Type 0 where
    pub live : (get_or rows i no_row).live ≡ true
    pub fails : failing_pair p column pairs (get_or rows i no_row).cells ≡ some place
    pub before : (j : ℕ) → j < i → (get_or rows j no_row).live ≡ true → failing_pair p column pairs (get_or rows j no_row).cells ≡ none

  module _ (row : Row) (rows : List Row) (i place : ℕ) (t : row.live ≡ true → failing_pair p column pairs row.cells ≡ none) (f : LowestFails rows i place) where
    above_rows : (j : ℕ) → j < suc i → (get_or (row ∷ rows) j no_row).live ≡ true → failing_pair p column pairs (get_or (row ∷ rows) j no_row).cells ≡ none
    above_rows zero h l = t l
    above_rows (suc j) h l = f.before j (omega arith) l

    lowest_behind : LowestFails (row ∷ rows) (suc i) place
    lowest_behind = record { live = f.live; fails = f.fails; before = above_rows }

  some_among : (n : ℕ) (rows : List Row) (f : Failure) → failure_among p column pairs (live_from n rows) ≡ some f → (i : ℕ) × (f.row ≡ n + i) × LowestFails rows i f.place
  some_among n [] f e = absurd (let z : ◌≡◌ {A = ℕ} 0 1 = unfold failure_among live_from in cc in omega arith)
  some_among n (row ∷ rows) f e =
      elim (split row.live) [
        | inl l ↦ elim (none_or_some (failing_pair p column pairs row.cells)) [
          | inl none_is ↦
              let r = some_among (suc n) rows f (sym (failure_later p column pairs n row rows l none_is) ∙ e) in
              (suc r.0, omega (arith, r.1), lowest_behind row rows r.0 f.place (λ _. none_is) r.2)
          | inr place_is ↦
              let g : some (record { row = n; place = place_is.0 }) ≡ some f = sym (failure_here p column pairs n row rows place_is.0 l place_is.1) ∙ e in
              let same-failure : ◌≡◌ {A = Failure} (record { row = n; place = place_is.0 }) f = cc in
              let number : n ≡ f.row = ap (λ (x : Failure). x.row) same-failure in
              (0, omega arith, record { live = l; fails = place_is.1 ∙ ap (λ (x : Failure). some x.place) same-failure; before = λ j h. absurd (omega arith) })
        ]
        | inr l ↦
            let r = some_among (suc n) rows f (sym (failure_dead p column pairs n row rows l) ∙ e) in
            (suc r.0, omega (arith, r.1), lowest_behind row rows r.0 f.place (λ q. absurd (false≢true (sym l ∙ q))) r.2)
      ]

  -- the row that an answer names is the lowest that fails, and the place is that of the first pair that it fails
  pub some_fails : (f : Failure) → precedence_failure p column pairs ≡ some f
      → LowestFails p.rows f.row f.place × FirstFails (meets_pair p column (row_of p f.row).cells) no_pair pairs f.place
  unfolding precedence_failure live_rows
  some_fails f e =
      let r = some_among 0 p.rows f e in
      let i : f.row ≡ r.0 = omega (arith, r.1) in
      let lowest : LowestFails p.rows f.row f.place = rw i r.2 in
      let k = some_failing (meets_pair p column (row_of p f.row).cells) no_pair 0 pairs f.place lowest.fails in
      let place_is : f.place ≡ k.0 = omega (arith, k.1) in
      (lowest, rw place_is k.2)

-- ---- on every sound table, as in the plain table that it represents

module _ (p q : Plain) (column : ℕ) (pairs : List Pair) (o : p.opening ≡ q.opening) (l : live_rows p ≡ live_rows q) where
  meets_same : (cells : List ℕ) (pair : Pair) → meets_pair p column cells pair ≡ meets_pair q column cells pair
  unfolding meets_pair
  meets_same cells pair =
      ap₂ (λ (o : Opening) (live : List Numbered). not (eqb (get_or cells column 0) pair.first) || any (λ row. precedes o column pair.second cells row.cells) live) o l

  failing_same : (cells : List ℕ) → failing_pair p column pairs cells ≡ failing_pair q column pairs cells
  failing_same cells = ap (λ (test : Pair → Bool). first_failing test 0 pairs) (λ i pair. meets_same cells pair i)

  among_same : (rows : List Numbered) → failure_among p column pairs rows ≡ failure_among q column pairs rows
  unfolding failure_among
  among_same [] = refl
  among_same (row ∷ rows) = rw (failing_same row.cells, among_same rows)

  failure_same : precedence_failure p column pairs ≡ precedence_failure q column pairs
  unfolding precedence_failure
  failure_same = among_same (live_rows p) ∙ ap (failure_among q column pairs) l

module _ {p : Plain} {h : Header} {rows keys sorts pending : List ℕ} (r : Represents p (stores h rows keys sorts pending)) where
  rows_live : live_rows (of_rows h rows) ≡ live_rows p
  unfolding live_rows
  rows_live = live_shown r

  pub checked_plain : {column : ℕ} {pairs : List ℕ} {answer : Result (Optional Failure) Refusal} → PrecedenceChecked h rows keys column pairs answer
      → precedence_refusal h (length rows) (length keys) column (length pairs) ≡ 0 → found_view answer ≡ accepted (precedence_failure p column (pairs_of pairs))
  checked_plain {column} {pairs} m passed =
      m.table passed r.keys_sound (represents_sound r).contents.keys_differ
      ∙ ap accepted (failure_same (of_rows h rows) p column (pairs_of pairs) (ap (λ (x : Header). opening_of x) r.shown.header) rows_live)
