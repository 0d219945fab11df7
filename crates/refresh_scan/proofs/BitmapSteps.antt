-- The turns of the passes: a row, the rows from one on, the parts of the values. Assumes nothing.
use Rattle.refresh_scan.proofs.Prelude.{ℕ, ◌+◌, ◌-◌, ◌*◌, ◌≤◌, ◌<◌, ◌≡◌, refl, sym, ap, ◌∙◌, Bool, true, false, not, ◌&&◌, ◌||◌, false≢true, List, [], ◌∷◌, ◌++◌, dec_lt, add-zero, suc-mul, add-one, arith, leb, ltb, eqb, length, take, drop, get_or, append_assoc, append-nil, eq-eqb, eqb-true, le-leb, leb-true, lt-ltb, ltb-true, and_left, and_right, and_both, or_right, part_width, elem_append, length_row_at, get_d_row_at, Inside, inside, Header, outside_inside, MarkedOne, Marked, marked_one, marked_none, marked_then, marked_weaker}
use Rattle.lists.specs.Lists.{all, any, elem, row_at}
use Rattle.cells.specs.Cells.{is_dead}
use Rattle.constraints.specs.Constraints.{is_live}
use Rattle.plain_table.specs.Refreshing.{mentions}
use Rattle.refresh_spec.specs.inner.Finding.{mentions_at, mentions_from}
use Rattle.refresh_scan.specs.inner.Scanning.{Scannable, mentions_only}

-- what the scan requires holds from each row on, while bits are set
pub scan_on : {h : Header} {rows columns words words' : List ℕ} {from row : ℕ} → Scannable h rows from columns words → row ≤ h.rows → length words' ≡ 1040
    → Scannable h rows row columns words'
scan_on s k l =
    record {
      inside = s.inside;
      rows_long = s.rows_long;
      from_inside = k;
      columns_few = s.columns_few;
      columns_there = s.columns_there;
      words_long = l;
    }

-- ---- a row

pub record RowInStore (h : Header) (rows : List ℕ) (row : ℕ) : Type 0 where
  pub lies : Inside rows h.columns row
  pub some_columns : 1 ≤ h.columns
  pub below : row < 65536
  pub wide : length (row_at h.columns row rows) ≡ h.columns

pub row_in_store : {h : Header} {rows columns words : List ℕ} {from row : ℕ} → Scannable h rows from columns words → row < h.rows → RowInStore h rows row
row_in_store {h} {rows} {row = row} s k =
    let i = outside_inside h s.inside in
    let l = inside rows h.columns h.capacity row i.bounds.capacity_few i.bounds.columns_few s.rows_long (omega (arith, i.rows_fit)) in
    record {
      lies = l;
      some_columns = i.bounds.columns_some;
      below = omega (arith, i.rows_fit, i.bounds.capacity_few);
      wide = length_row_at h.columns row rows (rw (add-one row, suc-mul) l.in_store);
    }

module _ (h : Header) (rows columns values : List ℕ) (row : ℕ) (lies : RowInStore h rows row) (k : row < h.rows) where
  pub columns_in_lem : all (λ column. ltb column h.columns) columns ≡ true
      → all (λ column. ltb column (length (take (row * h.columns + h.columns - row * h.columns) (drop (row * h.columns) rows)))) columns ≡ true
  unfolding row_at
  columns_in_lem e = rw (part_width rows (row * h.columns) h.columns, lies.wide) e

  module _ (dead : Bool) (e : dead ≡ is_dead (get_or rows (row * h.columns) 0)) where
    alive : is_live (row_at h.columns row rows) ≡ not dead
    unfolding is_live
    alive = rw (get_d_row_at h.columns row rows 0 0 lies.some_columns, add-zero) (ap not (sym e))

    pub dead_mentions : dead ≡ true → mentions_at h rows columns values row ≡ false
    unfolding mentions_at
    dead_mentions d = rw (lt-ltb row h.rows k, alive, d)

    pub live_mentions : dead ≡ false → (result : Bool) → result ≡ mentions columns values (take (row * h.columns + h.columns - row * h.columns) (drop (row * h.columns) rows))
        → mentions_at h rows columns values row ≡ result
    unfolding mentions_at row_at
    live_mentions d result q = rw (lt-ltb row h.rows k, alive, d) (ap (mentions columns values) (sym (part_width rows (row * h.columns) h.columns)) ∙ sym q)

module _ (h : Header) (rows columns values : List ℕ) where
  abbrev only : ℕ → ℕ → Bool
  only = mentions_only h rows columns values

  only_row : (row i : ℕ) → only row i ≡ true → eqb i row ≡ true
  unfolding mentions_only
  only_row row i e = and_left (eqb i row) _ e

  only_at : (row i : ℕ) → only row i ≡ true → mentions_at h rows columns values i ≡ true
  unfolding mentions_only
  only_at row i e = and_right (eqb i row) _ e

  only_of : (row i : ℕ) → eqb i row ≡ true → mentions_at h rows columns values i ≡ true → only row i ≡ true
  unfolding mentions_only
  only_of row i = and_both _ _

  pub row_passed : {words : List ℕ} (row : ℕ) → mentions_at h rows columns values row ≡ false → Marked (only row) (only row) words words 0
  row_passed row out =
      marked_weaker (λ i e. e)
      (λ i e. absurd (false≢true (sym out ∙ ap (mentions_at h rows columns values) (sym (eqb-true i row (only_row row i e))) ∙ only_at row i e)))
      marked_none

  pub row_marked : {words words' : List ℕ} {more : ℕ} (row : ℕ) → mentions_at h rows columns values row ≡ true → row < 65536 → MarkedOne words row words' more
      → Marked (only row) (only row) words words' more
  row_marked row in-it few m = marked_weaker (λ i e. e) (only_row row) (marked_one m few (only_of row row (eq-eqb row row refl) in-it))

  -- ---- the rows from one on
  module _ (from : ℕ) where
    abbrev wanted : ℕ → Bool
    wanted = mentions_from h rows columns values from

    -- of those, the rows below this one
    abbrev pub up_to : ℕ → ℕ → Bool
    up_to row i = ltb i row && wanted i

    wanted_from : (i : ℕ) → wanted i ≡ true → from ≤ i
    unfolding mentions_from
    wanted_from i e = leb-true from i (and_left (leb from i) _ e)

    wanted_at : (i : ℕ) → wanted i ≡ true → mentions_at h rows columns values i ≡ true
    unfolding mentions_from
    wanted_at i e = and_right (leb from i) _ e

    wanted_below : (i : ℕ) → wanted i ≡ true → i < h.rows
    unfolding mentions_at
    wanted_below i e = ltb-true i h.rows (and_left _ _ (and_left _ _ (wanted_at i e)))

    wanted_of : (i : ℕ) → from ≤ i → mentions_at h rows columns values i ≡ true → wanted i ≡ true
    unfolding mentions_from
    wanted_of i k e = and_both _ _ (le-leb from i k) e

    pub rows_begin : {words : List ℕ} → Marked wanted (up_to from) words words 0
    rows_begin =
        marked_weaker (λ i e. e)
        (λ i e. absurd (let a = ltb-true i from (and_left _ _ e) in let b = wanted_from i (and_right (ltb i from) _ e) in omega arith))
        marked_none

    pub rows_on : {words words' words'' : List ℕ} {a b : ℕ} (row : ℕ) → from ≤ row → Marked wanted (up_to row) words words' a → Marked (only row) (only row) words' words'' b
        → Marked wanted (up_to (row + 1)) words words'' (a + b)
    rows_on row k m n =
        marked_weaker (λ i e. e) reached
        (marked_then m
        (marked_weaker (λ i e. wanted_of i (let q = eqb-true i row (only_row row i e) in omega arith) (only_at row i e)) (λ i e. e) n))
      where
        reached : (i : ℕ) → up_to (row + 1) i ≡ true → (up_to row i || only row i) ≡ true
        reached i e =
            let w = and_right (ltb i (row + 1)) _ e in
            let b = ltb-true i (row + 1) (and_left _ _ e) in
            elim (dec_lt i row) [
              | yes p ↦ rw (lt-ltb i row p, w)
              | no p ↦ or_right (up_to row i) _ (only_of row i (eq-eqb i row (omega arith)) (wanted_at i w))
            ]

    pub rows_end : {words words' : List ℕ} {more : ℕ} (row : ℕ) → h.rows ≤ row → Marked wanted (up_to row) words words' more → Marked wanted wanted words words' more
    rows_end row k m = marked_weaker (λ i e. e) (λ i e. and_both _ _ (lt-ltb i row (let b = wanted_below i e in omega arith)) e) m

    pub no_rows : {words : List ℕ} → from ≡ h.rows → Marked wanted wanted words words 0
    no_rows e = rows_end from (omega arith) rows_begin

-- ---- the parts of the values

any_none : (l : List ℕ) → any (λ (column : ℕ). false) l ≡ false
unfolding any
any_none [] = refl
any_none (x ∷ l) = any_none l

any_or : (f g : ℕ → Bool) (l : List ℕ) → any (λ x. f x || g x) l ≡ (any f l || any g l)
unfolding any
any_or f g [] = refl
any_or f g (x ∷ l) = rw (any_or f g l) (four (f x) (g x) (any f l) (any g l))
  where
    four : (a b c d : Bool) → ((a || b) || (c || d)) ≡ ((a || c) || (b || d))
    four true b c d = refl
    four false true true d = refl
    four false true false d = refl
    four false false c d = refl

module _ (columns cells : List ℕ) where
  mentions_none : mentions columns [] cells ≡ false
  unfolding mentions elem
  mentions_none = any_none columns

  mentions_append : (a b : List ℕ) → mentions columns (a ++ b) cells ≡ (mentions columns a cells || mentions columns b cells)
  unfolding mentions
  mentions_append a b = simp elem_append (any_or _ _ columns)

module _ (h : Header) (rows columns : List ℕ) (from : ℕ) where
  abbrev wants : List ℕ → ℕ → Bool
  wants values = mentions_from h rows columns values from

  wants_none : (i : ℕ) → wants [] i ≡ true → ⊥
  unfolding mentions_from mentions_at
  wants_none i e =
      false≢true (sym (mentions_none columns (row_at h.columns i rows)) ∙ and_right (ltb i h.rows && is_live (row_at h.columns i rows)) _ (and_right (leb from i) _ e))

  wants_append : (a b : List ℕ) (i : ℕ) → wants (a ++ b) i ≡ (wants a i || wants b i)
  unfolding mentions_from mentions_at
  wants_append a b i = rw (mentions_append columns (row_at h.columns i rows) a b) (over (leb from i) (ltb i h.rows && is_live (row_at h.columns i rows)) _ _)
    where
      over : (p q m n : Bool) → (p && (q && (m || n))) ≡ ((p && (q && m)) || (p && (q && n)))
      over false q m n = refl
      over true false m n = refl
      over true true m n = refl

  module _ (values : List ℕ) where
    -- the rows of the values before the rest are marked
    pub record Parted (rest words words' : List ℕ) (more : ℕ) : Type 0 where
      pub done : List ℕ
      pub cut : values ≡ done ++ rest
      pub marked : Marked (wants values) (wants done) words words' more

    pub parts_begin : {words : List ℕ} → Parted values words words 0
    parts_begin = record { done = []; cut = refl; marked = marked_weaker (λ i e. e) (λ i e. absurd (wants_none i e)) marked_none }

    pub parts_on : {words words' words'' rest : List ℕ} {a b : ℕ} (part rest' : List ℕ) → rest ≡ part ++ rest' → Parted rest words words' a
        → Marked (wants part) (wants part) words' words'' b → Parted rest' words words'' (a + b)
    parts_on {rest = rest} part rest' e p n =
        let cut : values ≡ p.done ++ (part ++ rest') = p.cut ∙ ap (λ (l : List ℕ). p.done ++ l) e in
        record {
          done = p.done ++ part;
          cut = cut ∙ sym (append_assoc p.done part rest');
          marked = marked_weaker (λ i w. w) (λ i w. sym (wants_append p.done part i) ∙ w) (marked_then p.marked (marked_weaker (within cut) (λ i w. w) n));
        }
      where
        within : values ≡ p.done ++ (part ++ rest') → (i : ℕ) → wants part i ≡ true → wants values i ≡ true
        within cut i w =
            ap (λ (v : List ℕ). wants v i) cut
            ∙ wants_append p.done (part ++ rest') i
            ∙ or_right (wants p.done i) _ (wants_append part rest' i ∙ rw w)

    pub parts_end : {words words' rest : List ℕ} {more : ℕ} → rest ≡ [] → Parted rest words words' more → Marked (wants values) (wants values) words words' more
    parts_end e p = let whole : p.done ≡ values = sym (p.cut ∙ rw e (append-nil p.done)) in rw whole at p.marked
