-- A D line that is read: what `row_at` finds. Assumes nothing.
use Rattle.listing_check.proofs.Prelude.{ℕ, suc, ◌+◌, ◌-◌, ◌≤◌, ◌<◌, ◌≡◌, refl, sym, ap, subst, ◌∙◌, true, List, [], ◌∷◌, arith, leb-true, le-leb, length, take, drop, get_or, length-drop, length-take-le, leb, all_head, and_right, take_put, begins, pieces, Found, RowRead}
use Rattle.lists.specs.Lists.{splice, above, rising}
use Rattle.cells.specs.Cells.{is_dead}
use Rattle.constraints.specs.Constraints.{is_live}
use Rattle.listing_spec.specs.Listings.{prefix_width, are_numbers, is_row, row_numbers}
use Rattle.listing_spec.specs.Laws.Texts.{rising_from, rising_from_lem, RowsFit, row_parts, rows_shown}
use Rattle.listing_parse.specs.Laws.Steps.{rows_from, ValidRows, valid_rows_line, valid_rows_next, valid_rows_row}

-- rows that fit, the first of them
module _ (columns count least left n : ℕ) (cells : List ℕ) (rows : List (List ℕ)) (r : RowsFit true columns count least left ((n ∷ cells) ∷ rows)) where
  fits : n < 4294967296
  unfolding are_numbers
  fits = let e = leb-true n 4294967295 (all_head (λ m. leb m 4294967295) n cells (all_head are_numbers (n ∷ cells) rows r.fit)) in omega arith

  live : is_live cells ≡ true
  unfolding is_live is_dead prefix_width
  live = (row_parts true columns count (n ∷ cells) (all_head (is_row true columns) (n ∷ cells) rows r.wide)).1

  rises : above n (row_numbers rows) ≡ true
  unfolding row_numbers rising_from rising
  rises = rising_from_lem (n ∷ row_numbers rows) ∙ rw (le-leb 0 n (omega arith)) (and_right (leb least n) (rising_from (suc n) (row_numbers rows)) (r.ordered refl).0)

pub row_due : {columns : ℕ} {text : List ℕ} {start : ℕ} → start < length text → ValidRows true columns text start → begins 68 (1 + columns) (pieces (drop start text)) ≡ true
unfolding prefix_width
row_due {columns} {text} {start} = valid_rows_line true columns text start

-- a number and the cells behind it
front : (stored : List ℕ) (columns : ℕ) → 1 + columns ≤ length stored → take (1 + columns) stored ≡ get_or stored 0 0 ∷ take columns (drop 1 stored)
front [] columns h = absurd (omega arith)
front (x ∷ stored) columns h = let e : 1 + columns ≡ suc columns = omega arith in rw e

module _ {columns : ℕ} {text : List ℕ} {start next : ℕ} {stored : List ℕ} (w : ValidRows true columns text start) (at : Found text start 68 (1 + columns) next stored) where
  there : Found text start 68 (prefix_width true + columns) next stored
  unfolding prefix_width
  there = at

  wide : 1 + columns ≤ length stored
  unfolding prefix_width
  wide = there.wide

  module _ {cells : List ℕ} (zeros : List ℕ) (put : cells ≡ splice zeros 0 (take (1 + columns - 1) (drop 1 stored))) where
    cells_are : take columns cells ≡ take columns (drop 1 stored)
    cells_are =
        let behind = take columns (drop 1 stored) in
        let many : length behind ≡ columns = length-take-le columns (drop 1 stored) (omega (arith, length-drop 1 stored, wide)) in
        let put' : cells ≡ splice zeros 0 behind = let e : 1 + columns - 1 ≡ columns = omega arith in rw e at put in
        ap (take columns) put' ∙ subst (λ (k : ℕ). take k (splice zeros 0 behind) ≡ behind) many (take_put zeros behind)

    read : rows_from text start ≡ (get_or stored 0 0 ∷ take columns cells) ∷ rows_from text next
    unfolding prefix_width
    read = valid_rows_row true columns text start there ∙ ap (λ (row : List ℕ). row ∷ rows_from text next) (front stored columns wide ∙ ap (λ (l : List ℕ). get_or stored 0 0 ∷ l) (sym cells_are))

    shown : RowsFit true columns w.count w.least w.left (rows_from text start)
    unfolding rows_from
    shown = (rows_shown true columns w.count w.least w.left (pieces (drop start text)) w.good).1

    pub row_read : RowRead columns text start (record { number = get_or stored 0 0; cells = cells; next = next })
    row_read =
        let all = rw read at shown in
        record {
          forward = there.forward;
          read = read;
          fits = fits columns w.count w.least w.left (get_or stored 0 0) (take columns cells) (rows_from text next) all;
          live = live columns w.count w.least w.left (get_or stored 0 0) (take columns cells) (rows_from text next) all;
          rises = rises columns w.count w.least w.left (get_or stored 0 0) (take columns cells) (rows_from text next) all;
          valid_rows = valid_rows_next true columns text start there w;
        }
