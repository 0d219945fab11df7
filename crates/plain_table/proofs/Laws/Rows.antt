-- Properties of the rows of a proper plain table, defined by recursion over the row list. They are preserved when rows die, when
-- rows are dropped and when a row is appended. Assumes nothing.
use Rattle.plain_table.proofs.Laws.Prelude.{ℕ, zero, suc, ◌≤◌, ◌<◌, suc-le-suc, ◌≡◌, refl, sym, ap, ◌∙◌, inl, inr, Bool, true, false, not, ◌&&◌, ◌||◌, false≢true, List, [], ◌∷◌, ◌++◌, Option, none, some, le-max_left, le-max_right, max-eq_left, arith, leb, eqb, length, take, get_or, length-append, ltb-false, leb-true, le-leb, eq-eqb, not-true, split, and_left, and_right, all_get_d, all_of, and_both, or_right, or_second, all_head, all_tail, all_cons, all_snoc, all_weaker, same_refl, same_eq}
use Rattle.lists.specs.Lists.{filter, all}
use Rattle.cells.specs.Cells.{is_dead}
use Rattle.plain_table.specs.Staged.{Opening, has_key}
use Rattle.plain_table.specs.Plain.{Row, dead_row, live_with_key, kill_if, dies, below, raised}
use Rattle.plain_table.specs.Proper.{at_most}

-- the default past the end of a list: a dead row without cells
abbrev pub no_row : Row
no_row = record { live = false; cells = [] }

-- a live row with these cells
abbrev pub live_row : List ℕ → Row
live_row cells = record { live = true; cells = cells }

-- a row's sort cell
abbrev pub sort_of : ℕ → Row → ℕ
sort_of sort row = get_or row.cells sort 0

-- the row has as many cells as there are columns
abbrev pub wide_row : ℕ → Row → Bool
wide_row columns row = eqb (length row.cells) columns

-- the row is dead, or its first cell is not the dead mark
abbrev pub first_fits : Row → Bool
first_fits row = not row.live || not (is_dead (get_or row.cells 0 0))

-- the row is not a live row of this key
abbrev pub free_row : ℕ → List ℕ → Row → Bool
free_row keys key row = not (live_with_key keys key row)

-- no two live rows have the same key
unfoldable pub keys_distinct : ℕ → List Row → Bool
keys_distinct keys [] = true
keys_distinct keys (row ∷ rows) = (not row.live || all (free_row keys (take keys row.cells)) rows) && keys_distinct keys rows

-- sort cells never fall, and the first is not below x
unfoldable pub sorted_from : ℕ → ℕ → List Row → Bool
sorted_from sort x [] = true
sorted_from sort x (row ∷ rows) = leb x (sort_of sort row) && sorted_from sort (sort_of sort row) rows

-- there is a largest value, and the row's sort cell does not exceed it
abbrev pub kept_row : ℕ → Option ℕ → Row → Bool
kept_row sort largest row = at_most (sort_of sort row) largest

-- what `Proper` requires of the rows and of the largest value
pub record ProperRows (o : Opening) (largest : Option ℕ) (rows : List Row) : Type 0 where
  pub fit : length rows ≤ o.capacity
  pub wide : all (wide_row o.columns) rows ≡ true
  pub first : all first_fits rows ≡ true
  pub differ : keys_distinct o.keys rows ≡ true
  pub climb : sorted_from o.sort 0 rows ≡ true
  pub kept : all (kept_row o.sort largest) rows ≡ true

-- ---- a key and its rows

-- a live row with these first cells is a live row of the key
pub live_with_key_of : (keys : ℕ) (key : List ℕ) (row : Row) → row.live ≡ true → take keys row.cells ≡ key → live_with_key keys key row ≡ true
unfolding live_with_key has_key
live_with_key_of keys key row p q = rw (p, q) (same_refl key)

-- a live row of a key is live
pub live_with_key_live : (keys : ℕ) (key : List ℕ) (row : Row) → live_with_key keys key row ≡ true → row.live ≡ true
unfolding live_with_key
live_with_key_live keys key row e = and_left _ _ e

-- and has the key
pub live_with_key_key : (keys : ℕ) (key : List ℕ) (row : Row) → live_with_key keys key row ≡ true → take keys row.cells ≡ key
unfolding live_with_key has_key
live_with_key_key keys key row e = same_eq _ _ (and_right row.live _ e)

-- a dead row is not a live row of any key
pub free_dead : (keys : ℕ) (key : List ℕ) (row : Row) → free_row keys key (dead_row row) ≡ true
unfolding live_with_key
free_dead keys key row = refl

-- ---- `keys_distinct` by positions

-- adds a row in front whose key no other live row has
pub keys_distinct_cons : (keys : ℕ) (row : Row) (rows : List Row) → (row.live ≡ true → all (free_row keys (take keys row.cells)) rows ≡ true) → keys_distinct keys rows ≡ true
    → keys_distinct keys (row ∷ rows) ≡ true
unfolding keys_distinct
keys_distinct_cons keys row rows f e =
    elim (split row.live) [ inl q ↦ rw (f q, e) (and_both _ _ (or_right (not row.live) true refl) refl) | inr q ↦ rw (q, e) ]

-- no other live row has the key of the first
pub keys_distinct_head : (keys : ℕ) (row : Row) (rows : List Row) → keys_distinct keys (row ∷ rows) ≡ true → row.live ≡ true → all (free_row keys (take keys row.cells)) rows ≡ true
unfolding keys_distinct
keys_distinct_head keys row rows e q = or_second (not row.live) _ (and_left _ _ e) (rw q)

-- the remaining rows are apart
pub keys_distinct_tail : (keys : ℕ) (row : Row) (rows : List Row) → keys_distinct keys (row ∷ rows) ≡ true → keys_distinct keys rows ≡ true
unfolding keys_distinct
keys_distinct_tail keys row rows e = and_right (not row.live || all (free_row keys (take keys row.cells)) rows) _ e

-- live rows at different positions have different keys
abbrev pub KeysDiffer : ℕ → List Row → Type 0
KeysDiffer keys rows = (i j : ℕ) → (get_or rows i no_row).live ≡ true → (get_or rows j no_row).live ≡ true
    → take keys (get_or rows i no_row).cells ≡ take keys (get_or rows j no_row).cells → i ≡ j

-- if keys differ at all positions, the rows are apart
pub keys_distinct_of : (keys : ℕ) (rows : List Row) → KeysDiffer keys rows → keys_distinct keys rows ≡ true
keys_distinct_of keys [] f = unfold keys_distinct in refl
keys_distinct_of keys (row ∷ rows) f =
    keys_distinct_cons keys row rows
    (λ q. all_of (free_row keys (take keys row.cells)) no_row rows (λ i h. other q i))
    (keys_distinct_of keys rows (λ i j p q e. let s : suc i ≡ suc j = f (suc i) (suc j) p q e in omega arith))
  where
    other : row.live ≡ true → (i : ℕ) → free_row keys (take keys row.cells) (get_or rows i no_row) ≡ true
    other q i =
        elim (split (live_with_key keys (take keys row.cells) (get_or rows i no_row))) [
          | inl e ↦
              let s : 0 ≡ suc i = f 0 (suc i) q (live_with_key_live keys _ (get_or rows i no_row) e) (sym (live_with_key_key keys _ (get_or rows i no_row) e)) in
              absurd (omega arith)
          | inr e ↦ rw e
        ]

-- a live row that is not one of the key has another key
free_differs : (keys : ℕ) (key : List ℕ) (row : Row) → free_row keys key row ≡ true → row.live ≡ true → key ≡ take keys row.cells → ⊥
free_differs keys key row e p q = false≢true (sym (not-true _ e) ∙ live_with_key_of keys key row p (sym q))

-- a live row is located before the end
pub live_below_lem : (rows : List Row) (i : ℕ) → (get_or rows i no_row).live ≡ true → i < length rows
live_below_lem [] i e = absurd (false≢true e)
live_below_lem (row ∷ rows) zero e = omega arith
live_below_lem (row ∷ rows) (suc i) e = suc-le-suc (live_below_lem rows i e)

-- if the rows are apart, keys differ at all positions
pub keys_distinct_at : (keys : ℕ) (rows : List Row) → keys_distinct keys rows ≡ true → KeysDiffer keys rows
keys_distinct_at keys [] a i j p q e = absurd (false≢true p)
keys_distinct_at keys (row ∷ rows) a zero zero p q e = refl
keys_distinct_at keys (row ∷ rows) a zero (suc j) p q e =
    absurd (free_differs keys (take keys row.cells) (get_or rows j no_row) (all_get_d _ rows (keys_distinct_head keys row rows a p) j (live_below_lem rows j q) no_row) q e)
keys_distinct_at keys (row ∷ rows) a (suc i) zero p q e =
    absurd (free_differs keys (take keys row.cells) (get_or rows i no_row) (all_get_d _ rows (keys_distinct_head keys row rows a q) i (live_below_lem rows i p) no_row) p (sym e))
keys_distinct_at keys (row ∷ rows) a (suc i) (suc j) p q e = ap suc (keys_distinct_at keys rows (keys_distinct_tail keys row rows a) i j p q e)

-- ---- `sorted_from` by positions

module _ (sort : ℕ) where
  -- adds a row in front whose sort cell is not below x and not above the others
  pub sorted_from_cons : (x : ℕ) (row : Row) (rows : List Row) → x ≤ sort_of sort row → sorted_from sort (sort_of sort row) rows ≡ true → sorted_from sort x (row ∷ rows) ≡ true
  unfolding sorted_from
  sorted_from_cons x row rows h e = rw (le-leb x (sort_of sort row) h, e)

  -- the first sort cell is not below x
  pub sorted_from_head : (x : ℕ) (row : Row) (rows : List Row) → sorted_from sort x (row ∷ rows) ≡ true → x ≤ sort_of sort row
  unfolding sorted_from
  sorted_from_head x row rows e = leb-true x (sort_of sort row) (and_left _ _ e)

  -- the remaining sort cells are not below the first
  pub sorted_from_tail : (x : ℕ) (row : Row) (rows : List Row) → sorted_from sort x (row ∷ rows) ≡ true → sorted_from sort (sort_of sort row) rows ≡ true
  unfolding sorted_from
  sorted_from_tail x row rows e = and_right (leb x (sort_of sort row)) _ e

  -- a smaller start holds too
  pub sorted_from_weaker : (x y : ℕ) (rows : List Row) → x ≤ y → sorted_from sort y rows ≡ true → sorted_from sort x rows ≡ true
  sorted_from_weaker x y [] h e = unfold sorted_from in refl
  sorted_from_weaker x y (row ∷ rows) h e = sorted_from_cons x row rows (omega (arith, sorted_from_head y row rows e)) (sorted_from_tail y row rows e)

  -- the remaining sort cells are not below x
  pub sorted_from_rest : (x : ℕ) (row : Row) (rows : List Row) → sorted_from sort x (row ∷ rows) ≡ true → sorted_from sort x rows ≡ true
  sorted_from_rest x row rows e = sorted_from_weaker x (sort_of sort row) rows (sorted_from_head x row rows e) (sorted_from_tail x row rows e)

  -- no sort cell is below the start
  pub sorted_from_at : (x : ℕ) (rows : List Row) → sorted_from sort x rows ≡ true → (j : ℕ) → j < length rows → x ≤ sort_of sort (get_or rows j no_row)
  sorted_from_at x [] e j h = absurd (omega arith)
  sorted_from_at x (row ∷ rows) e zero h = sorted_from_head x row rows e
  sorted_from_at x (row ∷ rows) e (suc j) h = sorted_from_at x rows (sorted_from_rest x row rows e) j (omega arith)

  -- no later row has a smaller sort cell
  pub sorted_from_sorted : (x : ℕ) (rows : List Row) → sorted_from sort x rows ≡ true → (i j : ℕ) → i ≤ j → j < length rows
      → sort_of sort (get_or rows i no_row) ≤ sort_of sort (get_or rows j no_row)
  sorted_from_sorted x [] e i j h k = absurd (omega arith)
  sorted_from_sorted x (row ∷ rows) e zero zero h k = omega arith
  sorted_from_sorted x (row ∷ rows) e zero (suc j) h k = sorted_from_at (sort_of sort row) rows (sorted_from_tail x row rows e) j (omega arith)
  sorted_from_sorted x (row ∷ rows) e (suc i) zero h k = absurd (omega arith)
  sorted_from_sorted x (row ∷ rows) e (suc i) (suc j) h k = sorted_from_sorted (sort_of sort row) rows (sorted_from_tail x row rows e) i j (omega arith) (omega arith)

  -- conversely: sort cells that never fall, none below the start
  pub sorted_from_of : (x : ℕ) (rows : List Row) → ((j : ℕ) → j < length rows → x ≤ sort_of sort (get_or rows j no_row))
      → ((i j : ℕ) → i ≤ j → j < length rows → sort_of sort (get_or rows i no_row) ≤ sort_of sort (get_or rows j no_row)) → sorted_from sort x rows ≡ true
  sorted_from_of x [] f g = unfold sorted_from in refl
  sorted_from_of x (row ∷ rows) f g =
      sorted_from_cons x row rows (f 0 (omega arith))
      (sorted_from_of (sort_of sort row) rows (λ j h. g 0 (suc j) (omega arith) (suc-le-suc h)) (λ i j h k. g (suc i) (suc j) (suc-le-suc h) (suc-le-suc k)))

  -- appends a row whose sort cell is not below any other
  pub sorted_from_snoc : (x : ℕ) (rows : List Row) (row : Row) → sorted_from sort x rows ≡ true → x ≤ sort_of sort row
      → all (λ r. leb (sort_of sort r) (sort_of sort row)) rows ≡ true → sorted_from sort x (rows ++ (row ∷ [])) ≡ true
  sorted_from_snoc x [] row e h f = sorted_from_cons x row [] h (unfold sorted_from in refl)
  sorted_from_snoc x (r ∷ rows) row e h f =
      sorted_from_cons x r (rows ++ (row ∷ [])) (sorted_from_head x r rows e)
      (sorted_from_snoc (sort_of sort r) rows row (sorted_from_tail x r rows e) (leb-true _ _ (all_head (λ s. leb (sort_of sort s) (sort_of sort row)) r rows f)) (all_tail _ r rows f))

-- ---- the largest value

-- a value that is not below the largest is not below any cell that is at most the largest
at_most_above : (value cell : ℕ) (largest : Option ℕ) → below value largest ≡ false → at_most cell largest ≡ true → leb cell value ≡ true
unfolding below at_most
at_most_above value cell none a e = absurd (false≢true e)
at_most_above value cell (some n) a e = le-leb cell value (omega (arith, ltb-false value n a, leb-true cell n e))

-- a cell that is at most the largest value is at most the raised one
at_most_raised : (value cell : ℕ) (largest : Option ℕ) → at_most cell largest ≡ true → at_most cell (some (raised value largest)) ≡ true
unfolding at_most raised
at_most_raised value cell none e = absurd (false≢true e)
at_most_raised value cell (some n) e = le-leb cell _ (omega (arith, leb-true cell n e, le-max_right value n))

-- the appended value is at most the raised one
raised_at_most : (value : ℕ) (largest : Option ℕ) → at_most value (some (raised value largest)) ≡ true
unfolding at_most raised
raised_at_most value none = le-leb value value (omega arith)
raised_at_most value (some n) = le-leb value _ (le-max_left value n)

-- the raised value is the appended one, since a value below the largest is refused
pub raised_same : (value : ℕ) (largest : Option ℕ) → below value largest ≡ false → raised value largest ≡ value
unfolding below raised
raised_same value none a = refl
raised_same value (some n) a = max-eq_left (ltb-false value n a)

-- ---- rows die or are dropped

-- the second list is the first with some rows dead and some dropped
pub data Thinned : List Row → List Row → Type 0 where
  empty : Thinned [] []
  same_row_lem : (row : Row) {a b : List Row} → Thinned a b → Thinned (row ∷ a) (row ∷ b)
  died : (row : Row) {a b : List Row} → Thinned a b → Thinned (row ∷ a) (dead_row row ∷ b)
  gone : (row : Row) {a b : List Row} → Thinned a b → Thinned (row ∷ a) b

-- reflexivity
pub thinned_same : (rows : List Row) → Thinned rows rows
thinned_same [] = empty
thinned_same (row ∷ rows) = same_row_lem row (thinned_same rows)

-- every row that passes a test dies
pub kill_if_thinned : (test : Row → Bool) (rows : List Row) → Thinned rows (kill_if test rows)
unfolding kill_if
kill_if_thinned test [] = empty
kill_if_thinned test (row ∷ rows) =
    let h = kill_if_thinned test rows in
    elim (split (test row)) [ inl e ↦ rw e (died row h) | inr e ↦ rw e (same_row_lem row h) ]

-- one row dies
pub dies_thinned : (keys : ℕ) (key : List ℕ) (number : ℕ) (rows : List Row) → Thinned rows (dies keys key number rows)
unfolding dies
dies_thinned keys key number [] = empty
dies_thinned keys key zero (row ∷ rows) =
    let h = thinned_same rows in
    elim (split (live_with_key keys key row)) [ inl e ↦ rw e (died row h) | inr e ↦ rw e (same_row_lem row h) ]
dies_thinned keys key (suc number) (row ∷ rows) = same_row_lem row (dies_thinned keys key number rows)

-- rows that fail a test are dropped
pub filter_thinned : (test : Row → Bool) (rows : List Row) → Thinned rows (filter test rows)
unfolding filter
filter_thinned test [] = empty
filter_thinned test (row ∷ rows) =
    let h = filter_thinned test rows in
    elim (split (test row)) [ inl e ↦ rw e (same_row_lem row h) | inr e ↦ rw e (gone row h) ]

-- the row count does not rise
pub thinned_length : {a b : List Row} → Thinned a b → length b ≤ length a
thinned_length empty = omega arith
thinned_length (same_row_lem row t) = let h = thinned_length t in omega arith
thinned_length (died row t) = let h = thinned_length t in omega arith
thinned_length (gone row t) = let h = thinned_length t in omega arith

-- preserves a test that holds of a dead row whenever it holds of the live one
pub thinned_all : (test : Row → Bool) → ((row : Row) → test row ≡ true → test (dead_row row) ≡ true) → {a b : List Row} → Thinned a b → all test a ≡ true → all test b ≡ true
thinned_all test f empty e = e
thinned_all test f (same_row_lem row t) e = all_cons test row _ (all_head test row _ e) (thinned_all test f t (all_tail test row _ e))
thinned_all test f (died row t) e = all_cons test (dead_row row) _ (f row (all_head test row _ e)) (thinned_all test f t (all_tail test row _ e))
thinned_all test f (gone row t) e = thinned_all test f t (all_tail test row _ e)

-- if no live row has the key before, none has it afterwards
pub thinned_free : (keys : ℕ) (key : List ℕ) {a b : List Row} → Thinned a b → all (free_row keys key) a ≡ true → all (free_row keys key) b ≡ true
thinned_free keys key t e = thinned_all (free_row keys key) (λ row q. free_dead keys key row) t e

-- keys of live rows still differ
pub thinned_keys_distinct : (keys : ℕ) {a b : List Row} → Thinned a b → keys_distinct keys a ≡ true → keys_distinct keys b ≡ true
thinned_keys_distinct keys empty e = e
thinned_keys_distinct keys (same_row_lem row t) e =
    keys_distinct_cons keys row _ (λ q. thinned_free keys _ t (keys_distinct_head keys row _ e q)) (thinned_keys_distinct keys t (keys_distinct_tail keys row _ e))
thinned_keys_distinct keys (died row t) e = keys_distinct_cons keys (dead_row row) _ (λ q. absurd (false≢true q)) (thinned_keys_distinct keys t (keys_distinct_tail keys row _ e))
thinned_keys_distinct keys (gone row t) e = thinned_keys_distinct keys t (keys_distinct_tail keys row _ e)

-- sort cells still never fall
pub thinned_sorted_from : (sort x : ℕ) {a b : List Row} → Thinned a b → sorted_from sort x a ≡ true → sorted_from sort x b ≡ true
thinned_sorted_from sort x empty e = e
thinned_sorted_from sort x (same_row_lem row t) e = sorted_from_cons sort x row _ (sorted_from_head sort x row _ e) (thinned_sorted_from sort (sort_of sort row) t (sorted_from_tail sort x row _ e))
thinned_sorted_from sort x (died row t) e = sorted_from_cons sort x (dead_row row) _ (sorted_from_head sort x row _ e) (thinned_sorted_from sort (sort_of sort row) t (sorted_from_tail sort x row _ e))
thinned_sorted_from sort x (gone row t) e = thinned_sorted_from sort x t (sorted_from_rest sort x row _ e)

-- tidy rows remain tidy
pub thinned_proper_rows : (o : Opening) {largest : Option ℕ} {a b : List Row} → Thinned a b → ProperRows o largest a → ProperRows o largest b
thinned_proper_rows o {largest} t g =
    record {
      fit = omega (arith, thinned_length t);
      wide = thinned_all (wide_row o.columns) (λ row q. q) t g.wide;
      first = thinned_all first_fits (λ row q. refl) t g.first;
      differ = thinned_keys_distinct o.keys t g.differ;
      climb = thinned_sorted_from o.sort 0 t g.climb;
      kept = thinned_all (kept_row o.sort largest) (λ row q. q) t g.kept;
    }

-- ---- a row is appended

-- appends a row whose key no live row has
pub keys_distinct_snoc : (keys : ℕ) (rows : List Row) (row : Row) → keys_distinct keys rows ≡ true → all (free_row keys (take keys row.cells)) rows ≡ true
    → keys_distinct keys (rows ++ (row ∷ [])) ≡ true
keys_distinct_snoc keys [] row e f = keys_distinct_cons keys row [] (λ q. unfold all in refl) e
keys_distinct_snoc keys (r ∷ rows) row e f =
    keys_distinct_cons keys r (rows ++ (row ∷ []))
    (λ q. all_snoc (free_row keys (take keys r.cells)) rows row (keys_distinct_head keys r rows e q) (other q))
    (keys_distinct_snoc keys rows row (keys_distinct_tail keys r rows e) (all_tail (free_row keys (take keys row.cells)) r rows f))
  where
    other : r.live ≡ true → free_row keys (take keys r.cells) row ≡ true
    other q =
        elim (split (live_with_key keys (take keys r.cells) row)) [
          | inl k ↦ absurd (free_differs keys (take keys row.cells) r (all_head (free_row keys (take keys row.cells)) r rows f) q (live_with_key_key keys _ row k))
          | inr k ↦ rw k
        ]

-- appends a live row that fits to tidy rows
pub proper_rows_snoc : (o : Opening) (largest : Option ℕ) (rows : List Row) (cells : List ℕ) → ProperRows o largest rows
    → length rows < o.capacity
    → length cells ≡ o.columns
    → is_dead (get_or cells 0 0) ≡ false
    → all (free_row o.keys (take o.keys cells)) rows ≡ true
    → below (get_or cells o.sort 0) largest ≡ false
    → ProperRows o (some (raised (get_or cells o.sort 0) largest)) (rows ++ (live_row cells ∷ []))
proper_rows_snoc o largest rows cells g room width head free above =
    let value : ℕ = get_or cells o.sort 0 in
    let sort : ℕ = o.sort in
    record {
      fit = simp length-append (omega arith);
      wide = all_snoc (wide_row o.columns) rows (live_row cells) g.wide (eq-eqb _ _ width);
      first = all_snoc first_fits rows (live_row cells) g.first (rw head);
      differ = keys_distinct_snoc o.keys rows (live_row cells) g.differ free;
      climb = sorted_from_snoc sort 0 rows (live_row cells) g.climb (omega arith) (all_weaker (kept_row sort largest) (λ r. leb (sort_of sort r) value) (λ r. at_most_above value (sort_of sort r) largest above) rows g.kept);
      kept =
          all_snoc (kept_row sort (some (raised value largest))) rows (live_row cells)
          (all_weaker (kept_row sort largest) (kept_row sort (some (raised value largest))) (λ r. at_most_raised value (sort_of sort r) largest) rows g.kept)
          (raised_at_most value largest);
    }
