-- The scans of the check, one row or pair at a time; and the row that is needed, found by its key. Assumes nothing.
use Rattle.std.specs.Prelude.{◌+◌, ◌*◌, ◌/◌, ◌≤◌, ◌<◌, ◌≡◌, ◌&&◌, ◌||◌, ◌∷◌, ◌++◌}
use Rattle.precedence.specs.Laws.Prelude.{ℕ, zero, suc, refl, sym, ap₂, ◌∙◌, inl, inr, Bool, true, false, false≢true, List, [], Option, none, some, suc-add, arith, eqb, length, take, drop, get_or, set, length-take, get_or-take, split, or_right, no_row}
use Rattle.lists.specs.Lists.{any, same}
use Rattle.plain_table.specs.Staged.{has_key}
use Rattle.plain_table.specs.Plain.{Row, Plain, live_from}
use Rattle.precedence.specs.Precedence.{Pair, pairs_of, other_key_cells, meets_pair, first_failing, failure_among}
use Rattle.precedence.specs.declared.Failure.{Failure}
use Rattle.std.proofs.Math.Option.{Option-elim}

-- ---- live rows that pass a test of their cells

module _ (test : List ℕ → Bool) where
  -- one of these rows, numbered from n, is live and passes
  abbrev pub any_live : ℕ → List Row → Bool
  any_live n rows = any (λ row. test row.cells) (live_from n rows)

  live_first : (n : ℕ) (row : Row) (rows : List Row) → row.live ≡ true → any_live n (row ∷ rows) ≡ (test row.cells || any_live (suc n) rows)
  unfolding any live_from
  live_first n row rows e = rw e

  dead_first : (n : ℕ) (row : Row) (rows : List Row) → row.live ≡ false → any_live n (row ∷ rows) ≡ any_live (suc n) rows
  unfolding any live_from
  dead_first n row rows e = rw e

  pub any_live_lem : (n : ℕ) (rows : List Row) (i : ℕ) → (get_or rows i no_row).live ≡ true → test (get_or rows i no_row).cells ≡ true → any_live n rows ≡ true
  any_live_lem n [] i e t = absurd (false≢true e)
  any_live_lem n (row ∷ rows) zero e t = live_first n row rows e ∙ rw t
  any_live_lem n (row ∷ rows) (suc i) e t =
      let rest = any_live_lem (suc n) rows i e t in
      elim (split row.live) [
        | inl l ↦ live_first n row rows l ∙ or_right (test row.cells) _ rest
        | inr l ↦ dead_first n row rows l ∙ rest
      ]

  pub none_live : (n : ℕ) (rows : List Row) → ((i : ℕ) → (get_or rows i no_row).live ≡ true → test (get_or rows i no_row).cells ≡ false) → any_live n rows ≡ false
  none_live n [] f = unfold any live_from in refl
  none_live n (row ∷ rows) f =
      let rest = none_live (suc n) rows (λ i. f (suc i)) in
      elim (split row.live) [
        | inl l ↦ live_first n row rows l ∙ rw (f 0 l) rest
        | inr l ↦ dead_first n row rows l ∙ rest
      ]

  -- the row that passes
  pub live_any : (n : ℕ) (rows : List Row) → any_live n rows ≡ true → (i : ℕ) × ((get_or rows i no_row).live ≡ true) × (test (get_or rows i no_row).cells ≡ true)
  live_any n [] e = absurd (false≢true (unfold any live_from in e))
  live_any n (row ∷ rows) e =
      elim (split row.live) [
        | inl l ↦ elim (split (test row.cells)) [
          | inl t ↦ (0, l, t)
          | inr t ↦ let r = live_any (suc n) rows (rw (live_first n row rows l, t) at e) in (suc r.0, r.1, r.2)
        ]
        | inr l ↦ let r = live_any (suc n) rows (sym (dead_first n row rows l) ∙ e) in (suc r.0, r.1, r.2)
      ]

-- two tests that agree on every live row
pub any_same : (s t : List ℕ → Bool) (n : ℕ) (rows : List Row) → ((i : ℕ) → (get_or rows i no_row).live ≡ true → s (get_or rows i no_row).cells ≡ t (get_or rows i no_row).cells)
    → any_live s n rows ≡ any_live t n rows
any_same s t n [] f = unfold any live_from in refl
any_same s t n (row ∷ rows) f =
    let rest = any_same s t (suc n) rows (λ i. f (suc i)) in
    elim (split row.live) [
      | inl l ↦ live_first s n row rows l ∙ rw (f 0 l, rest) (sym (live_first t n row rows l))
      | inr l ↦ dead_first s n row rows l ∙ rest ∙ sym (dead_first t n row rows l)
    ]

-- ---- the first that fails

module _ {A : Type 0} (test : A → Bool) (n : ℕ) (x : A) (xs : List A) where
  pub fails_here : test x ≡ false → first_failing test n (x ∷ xs) ≡ some n
  unfolding first_failing
  fails_here e = rw e

  pub fails_later : test x ≡ true → first_failing test n (x ∷ xs) ≡ first_failing test (suc n) xs
  unfolding first_failing
  fails_later e = rw e

-- the place, from 0, of the first pair that a row with these cells fails
abbrev pub failing_pair : Plain → ℕ → List Pair → List ℕ → Option ℕ
failing_pair p column pairs cells = first_failing (meets_pair p column cells) 0 pairs

module _ (p : Plain) (column : ℕ) (pairs : List Pair) (n : ℕ) (row : Row) (rows : List Row) where
  abbrev among : ℕ → List Row → Option Failure
  among n rows = failure_among p column pairs (live_from n rows)

  pub failure_here : (place : ℕ) → row.live ≡ true → failing_pair p column pairs row.cells ≡ some place → among n (row ∷ rows) ≡ some (record { row = n; place = place })
  unfolding failure_among live_from Option-elim
  failure_here place l e = rw (l, e)

  pub failure_later : row.live ≡ true → failing_pair p column pairs row.cells ≡ none → among n (row ∷ rows) ≡ among (suc n) rows
  unfolding failure_among live_from Option-elim
  failure_later l e = rw (l, e)

  pub failure_dead : row.live ≡ false → among n (row ∷ rows) ≡ among (suc n) rows
  unfolding failure_among live_from Option-elim
  failure_dead l = rw l

-- ---- pairs in words

pub length_pairs_of : (words : List ℕ) → length (pairs_of words) ≡ length words / 2
unfolding pairs_of
length_pairs_of [] = refl
length_pairs_of (a ∷ []) = refl
length_pairs_of (a ∷ b ∷ words) = let rest = length_pairs_of words in omega arith

pub get_d_pairs_of : (words : List ℕ) (i : ℕ) (d : Pair) → i < length words / 2 → get_or (pairs_of words) i d ≡ record { first = get_or words (2 * i) 0; second = get_or words (2 * i + 1) 0 }
unfolding pairs_of
get_d_pairs_of [] i d h = absurd (omega arith)
get_d_pairs_of (a ∷ []) i d h = absurd (omega arith)
get_d_pairs_of (a ∷ b ∷ words) zero d h = refl
get_d_pairs_of (a ∷ b ∷ words) (suc i) d h =
    let e : 2 * suc i ≡ suc (suc (2 * i)) = omega arith in
    let f : 2 * suc i + 1 ≡ suc (suc (2 * i + 1)) = omega arith in
    get_d_pairs_of words i d (omega arith)
    ∙ ap₂ (λ (x y : ℕ). record { first = get_or (a ∷ b ∷ words) x 0; second = get_or (a ∷ b ∷ words) y 0 }) (sym e) (sym f)

-- ---- the row that is needed, found by its key

and_swap : (a b c : Bool) → (a && (b && c)) ≡ (b && (a && c))
and_swap true b c = refl
and_swap false true c = refl
and_swap false false c = refl

-- a list equals another with one place replaced: it has the value there, and the same values elsewhere
replaced : (a b : List ℕ) (i value : ℕ) → i < length a → i < length b
    → same a (set b i value) ≡ (eqb (get_or a i 0) value && same (take i a ++ drop (i + 1) a) (take i b ++ drop (i + 1) b))
unfolding same
replaced [] b i value h k = absurd (omega arith)
replaced (x ∷ xs) [] i value h k = absurd (omega arith)
replaced (x ∷ xs) (y ∷ ys) zero value h k = refl
replaced (x ∷ xs) (y ∷ ys) (suc i) value h k =
    rw (suc-add, replaced xs ys i value (omega arith) (omega arith)) (and_swap (eqb x y) (eqb (get_or xs i 0) value) _)

pub key_replaced : (keys column value : ℕ) (cells before : List ℕ) → column < keys → keys ≤ length cells → keys ≤ length before
    → has_key keys (set (take keys cells) column value) before ≡ (eqb (get_or before column 0) value && same (other_key_cells keys column before) (other_key_cells keys column cells))
unfolding has_key other_key_cells
key_replaced keys column value cells before h c b =
    replaced (take keys before) (take keys cells) column value (omega (arith, length-take keys before)) (omega (arith, length-take keys cells))
    ∙ rw (get_or-take keys before column 0 h)
