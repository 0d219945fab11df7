-- Laws of the rows as stored: row by row, how many, how wide. Assumes nothing.
use Rattle.table.proofs.Laws.Prelude.{ℕ, zero, suc, ◌≤◌, ◌<◌, suc-le-suc, ◌≡◌, refl, sym, ap, ap₂, ◌∙◌, Bool, true, false, not, cond, false≢true, List, [], ◌∷◌, map, head-eq_of_cons-eq, tail-eq_of_cons-eq, arith, leb, eqb, length, get_or, set, length-set, get_or-set_same, set-get_or, set-set, leb-true, eqb-true, eq-eqb, not-false, or_second, all_head, all_tail, all_cons, widths, Row, no_row, wide_row, first_fits}
use Rattle.lists.specs.Lists.{all}
use Rattle.cells.specs.Cells.{is_dead}
use Rattle.constraints.specs.Constraints.{is_live}
use Rattle.table.specs.Stores.{marked, stored, RowShown}

-- ---- the dead mark

-- a row that is marked is dead
pub marked_dead : (cells : List ℕ) → 1 ≤ length cells → is_live (marked cells) ≡ false
unfolding is_live is_dead
marked_dead cells h = rw (get_or-set_same cells 0 4294967295 0 h)

-- a dead row already has the mark
pub dead_marked : (cells : List ℕ) → is_live cells ≡ false → marked cells ≡ cells
unfolding is_live is_dead
dead_marked cells e =
    let q : get_or cells 0 0 ≡ 4294967295 = eqb-true _ _ (not-false _ e) in
    ap (set cells 0) (sym q) ∙ set-get_or cells 0 0

-- ---- one row

-- a row stored over the cells that show it does not change them
pub shown_one : (row : Row) (cells : List ℕ) → RowShown row cells → cond row.live row.cells (marked cells) ≡ cells
shown_one row cells s = go row.live refl
  where
    go : (b : Bool) → row.live ≡ b → cond b row.cells (marked cells) ≡ cells
    go true e = s.same e
    go false e = dead_marked cells (sym s.live ∙ e)

-- conversely
pub one_shown : (row : Row) (cells : List ℕ) → first_fits row ≡ true → 1 ≤ length cells → cond row.live row.cells (marked cells) ≡ cells → RowShown row cells
one_shown row cells f h e = go row.live refl e
  where
    go : (b : Bool) → row.live ≡ b → cond b row.cells (marked cells) ≡ cells → RowShown row cells
    go true q r =
        let first : is_live row.cells ≡ true = unfold is_live in or_second (not row.live) _ f (rw q) in
        record { live = q ∙ sym first ∙ ap is_live r; same = λ t. r }
    go false q r =
        record {
          live = q ∙ sym (marked_dead cells h) ∙ ap is_live r;
          same = λ t. absurd (false≢true (sym q ∙ t));
        }

-- ---- all rows

-- as many rows are stored as there are
pub length_stored : (rows : List Row) (before : List (List ℕ)) → length (stored rows before) ≡ length rows
unfolding stored
length_stored [] before = refl
length_stored (row ∷ rows) [] = ap suc (length_stored rows [])
length_stored (row ∷ rows) (old ∷ before) = ap suc (length_stored rows before)

-- rows stored over themselves do not change
pub stored_again : (rows : List Row) (before : List (List ℕ)) → stored rows (stored rows before) ≡ stored rows before
unfolding stored
stored_again [] before = refl
stored_again (row ∷ rows) [] = ap₂ (λ (r : List ℕ) (rs : List (List ℕ)). r ∷ rs) (go row.live) (stored_again rows [])
  where
    go : (b : Bool) → cond b row.cells (marked (cond b row.cells (marked row.cells))) ≡ cond b row.cells (marked row.cells)
    go true = refl
    go false = set-set row.cells 0 4294967295 4294967295
stored_again (row ∷ rows) (old ∷ before) = ap₂ (λ (r : List ℕ) (rs : List (List ℕ)). r ∷ rs) (go row.live) (stored_again rows before)
  where
    go : (b : Bool) → cond b row.cells (marked (cond b row.cells (marked old))) ≡ cond b row.cells (marked old)
    go true = refl
    go false = set-set old 0 4294967295 4294967295

-- live rows are stored with their cells
pub stored_live : (rows : List Row) (before : List (List ℕ)) → all (λ row. row.live) rows ≡ true → stored rows before ≡ map (λ row. row.cells) rows
unfolding stored
stored_live [] before e = refl
stored_live (row ∷ rows) [] e = rw (all_head (λ r. r.live) row rows e, stored_live rows [] (all_tail (λ r. r.live) row rows e))
stored_live (row ∷ rows) (old ∷ before) e = rw (all_head (λ r. r.live) row rows e, stored_live rows before (all_tail (λ r. r.live) row rows e))

-- rows of one width are stored at that width
pub stored_widths : (w : ℕ) (rows : List Row) (before : List (List ℕ)) → all (wide_row w) rows ≡ true → widths w before ≡ true → widths w (stored rows before) ≡ true
unfolding stored
stored_widths w [] before e f = unfold all in refl
stored_widths w (row ∷ rows) [] e f =
    all_cons (λ r. eqb (length r) w) _ _ (go row.live) (stored_widths w rows [] (all_tail (wide_row w) row rows e) f)
  where
    wide : length row.cells ≡ w
    wide = eqb-true _ _ (all_head (wide_row w) row rows e)

    go : (b : Bool) → eqb (length (cond b row.cells (marked row.cells))) w ≡ true
    go true = eq-eqb _ _ wide
    go false = eq-eqb _ _ (length-set row.cells 0 4294967295 ∙ wide)
stored_widths w (row ∷ rows) (old ∷ before) e f =
    all_cons (λ r. eqb (length r) w) _ _ (go row.live) (stored_widths w rows before (all_tail (wide_row w) row rows e) (all_tail (λ r. eqb (length r) w) old before f))
  where
    wide : length row.cells ≡ w
    wide = eqb-true _ _ (all_head (wide_row w) row rows e)

    wide_old : length old ≡ w
    wide_old = eqb-true _ _ (all_head (λ r. eqb (length r) w) old before f)

    go : (b : Bool) → eqb (length (cond b row.cells (marked old))) w ≡ true
    go true = eq-eqb _ _ wide
    go false = eq-eqb _ _ (length-set old 0 4294967295 ∙ wide_old)

-- a live row is stored with its cells at its place
pub stored_at_live : (rows : List Row) (before : List (List ℕ)) (i : ℕ) → (get_or rows i no_row).live ≡ true → get_or (stored rows before) i [] ≡ (get_or rows i no_row).cells
unfolding stored
stored_at_live [] before i e = absurd (false≢true e)
stored_at_live (row ∷ rows) [] zero e = rw e
stored_at_live (row ∷ rows) (old ∷ before) zero e = rw e
stored_at_live (row ∷ rows) [] (suc i) e = stored_at_live rows [] i e
stored_at_live (row ∷ rows) (old ∷ before) (suc i) e = stored_at_live rows before i e

-- a dead row that existed before has the cells stored there before, with the mark
pub stored_at_dead : (rows : List Row) (before : List (List ℕ)) (i : ℕ) → i < length rows → i < length before → (get_or rows i no_row).live ≡ false
    → get_or (stored rows before) i [] ≡ marked (get_or before i [])
unfolding stored
stored_at_dead [] before i h k e = absurd (omega arith)
stored_at_dead (row ∷ rows) [] i h k e = absurd (omega arith)
stored_at_dead (row ∷ rows) (old ∷ before) zero h k e = rw e
stored_at_dead (row ∷ rows) (old ∷ before) (suc i) h k e = stored_at_dead rows before i (omega arith) (omega arith) e

-- a new dead row has the cells that were appended, with the mark
pub stored_at_new : (rows : List Row) (before : List (List ℕ)) (i : ℕ) → i < length rows → length before ≤ i → (get_or rows i no_row).live ≡ false
    → get_or (stored rows before) i [] ≡ marked (get_or rows i no_row).cells
unfolding stored
stored_at_new [] before i h k e = absurd (omega arith)
stored_at_new (row ∷ rows) [] zero h k e = rw e
stored_at_new (row ∷ rows) [] (suc i) h k e = stored_at_new rows [] i (omega arith) (omega arith) e
stored_at_new (row ∷ rows) (old ∷ before) zero h k e = absurd (omega arith)
stored_at_new (row ∷ rows) (old ∷ before) (suc i) h k e = stored_at_new rows before i (omega arith) (omega arith) e

-- if the rows stored over themselves do not change, each row is shown
pub stored_shown : (rows : List Row) (before : List (List ℕ)) → length before ≡ length rows → all first_fits rows ≡ true → all (λ r. leb 1 (length r)) before ≡ true
    → stored rows before ≡ before → (i : ℕ) → i < length rows → RowShown (get_or rows i no_row) (get_or before i [])
unfolding stored
stored_shown [] before n f w e i h = absurd (omega arith)
stored_shown (row ∷ rows) [] n f w e i h = absurd (omega arith)
stored_shown (row ∷ rows) (old ∷ before) n f w e zero h =
    one_shown row old (all_head first_fits row rows f) (leb-true _ _ (all_head (λ r. leb 1 (length r)) old before w)) (head-eq_of_cons-eq e)
stored_shown (row ∷ rows) (old ∷ before) n f w e (suc i) h =
    stored_shown rows before (omega arith) (all_tail first_fits row rows f) (all_tail (λ r. leb 1 (length r)) old before w) (tail-eq_of_cons-eq e) i (omega arith)

-- conversely
pub shown_stored : (rows : List Row) (before : List (List ℕ)) → length before ≡ length rows
    → ((i : ℕ) → i < length rows → RowShown (get_or rows i no_row) (get_or before i [])) → stored rows before ≡ before
unfolding stored
shown_stored [] [] n f = refl
shown_stored [] (old ∷ before) n f = absurd (omega arith)
shown_stored (row ∷ rows) [] n f = absurd (omega arith)
shown_stored (row ∷ rows) (old ∷ before) n f =
    ap₂ (λ (r : List ℕ) (rs : List (List ℕ)). r ∷ rs) (shown_one row old (f 0 (omega arith))) (shown_stored rows before (omega arith) (λ i h. f (suc i) (suc-le-suc h)))
