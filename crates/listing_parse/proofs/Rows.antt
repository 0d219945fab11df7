-- The ways through `row_at` and `row_fits`. Assumes nothing.
use Rattle.listing_parse.proofs.Prelude.{ℕ, suc, ◌+◌, ◌-◌, ◌≤◌, ◌<◌, ◌≡◌, sym, ap, ◌∙◌, Bool, true, false, not, ◌&&◌, and-true, and-false, List, ◌∷◌, arith, length, take, drop, get_or, length-drop, ne_eqb, eq-eqb, le-leb, lt-leb, ltb, eqb, get_or-take, numbers, joined_pieces, pieces_some, good_more, no_row, rows_more, line_from, Found, LineAt, RowAt}
use Rattle.listing_spec.specs.Listings.{prefix_width}
use Rattle.listing_spec.specs.inner.Checking.{pieces, begins, row_fits, rows_good}

-- ---- the tests of a row's numbers

module _ (count least : ℕ) (ns : List ℕ) where
  pub dead_numbered : get_or ns 1 0 ≡ 4294967295 → false ≡ row_fits true count least ns
  unfolding row_fits prefix_width
  dead_numbered e = rw (eq-eqb (get_or ns 1 0) 4294967295 e)

  pub too_low : (get_or ns 1 0 ≡ 4294967295 → ⊥) → get_or ns 0 0 < least → false ≡ row_fits true count least ns
  unfolding row_fits prefix_width
  too_low ne low = rw (ne_eqb (get_or ns 1 0) 4294967295 ne, lt-leb least (get_or ns 0 0) low)

  pub below_count : (get_or ns 1 0 ≡ 4294967295 → ⊥) → least ≤ get_or ns 0 0 → ltb (get_or ns 0 0) count ≡ row_fits true count least ns
  unfolding row_fits prefix_width
  below_count ne high = rw (ne_eqb (get_or ns 1 0) 4294967295 ne, le-leb least (get_or ns 0 0) high)

  pub not_dead : not (eqb (get_or ns 0 0) 4294967295) ≡ row_fits false count least ns
  unfolding row_fits prefix_width
  not_dead = sym (and-true (not (eqb (get_or ns 0 0) 4294967295)))

-- ---- one row

module _ (numbered : Bool) (columns count least : ℕ) where
  module _ (text : List ℕ) (start : ℕ) (before : start < length text) where
    pub row_no_line : {next : ℕ} {stored stored' : List ℕ} → LineAt text start 68 (prefix_width numbered + columns) next stored → next ≡ 0 → RowAt numbered columns count least text start 0 stored'
    row_no_line l zero = record {
      wrong = λ z left. no_row numbered columns count least left (pieces (drop start text)) (l.wrong zero) (rw (joined_pieces (drop start text)) (omega (arith, length-drop start text)));
      found = λ some. absurd (omega (arith, some));
    }

    module _ {next : ℕ} {stored : List ℕ} (f : Found text start 68 (prefix_width numbered + columns) next stored) where
      abbrev line : List ℕ
      line = line_from (drop start text)

      stepped : (left : ℕ) → rows_good numbered columns count least left (pieces (drop start text))
          ≡ (ltb 0 left && row_fits numbered count least (take (prefix_width numbered + columns) stored) && rows_good numbered columns count (suc (get_or (numbers line) 0 0)) (left - 1) (pieces (drop next text)))
      stepped left =
          let good : begins 68 (prefix_width numbered + columns) (line ∷ pieces (drop next text)) ≡ true = rw f.cut at f.good in
          rw f.cut (good_more numbered columns count line (pieces (drop next text)) least left (pieces_some (drop next text))
          ∙ rw (good, f.read))

      pub row_unfit : {b : Bool} → b ≡ row_fits numbered count least (take (prefix_width numbered + columns) stored) → b ≡ false → RowAt numbered columns count least text start 0 stored
      row_unfit e no-fit = record {
        wrong = λ z left. stepped left ∙ rw (← e, no-fit, and-false (ltb 0 left));
        found = λ some. absurd (omega (arith, some));
      }

      pub row_found : 1 ≤ columns → {b : Bool} → b ≡ row_fits numbered count least (take (prefix_width numbered + columns) stored) → b ≡ true → RowAt numbered columns count least text start next stored
      row_found some e fit =
          let first : get_or (numbers line) 0 0 ≡ get_or stored 0 0 = ap (λ (l : List ℕ). get_or l 0 0) (sym f.read) ∙ get_or-take (prefix_width numbered + columns) stored 0 0 (omega arith) in
          record {
            wrong = λ z. absurd (omega (arith, z, f.forward));
            found = λ h. record {
              forward = f.forward;
              inside = f.inside;
              good = λ left. stepped left ∙ rw (← e, fit, first, and-true (ltb 0 left));
              row = rw (f.cut, f.read) (rows_more line (pieces (drop next text)) (pieces_some (drop next text)));
            };
          }

-- the numbers of a row are more than those before its cells, and few
pub lead_below : (numbered : Bool) (columns width : ℕ) → width ≡ prefix_width numbered + columns → 1 ≤ columns → prefix_width numbered < width
lead_below numbered columns width e some = omega (arith, e)
