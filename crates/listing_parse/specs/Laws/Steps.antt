-- A second iteration over D lines that have passed their checks. Assumes nothing.
use Rattle.std.specs.Prelude.{ℕ, suc, ◌+◌, ◌-◌, ◌≤◌, ◌<◌, ◌≡◌, refl, Bool, ◌&&◌, ltb, take, drop, get_or}
use Rattle.std.proofs.Common.{sym, ◌∙◌, inl, inr, arith, length-drop, drop_of_length-le}
use Rattle.std.proofs.Math.Bool.{true}
use Rattle.std.proofs.lemmas.Bool.{false≢true}
use mathlib.Core.List.{List, [], ◌∷◌}
use Rattle.std.proofs.Math.ListN.{length, length-append}
use Rattle.lists.specs.Lists.{flatten}
use Rattle.lists.specs.Laws.Filter.{split, and_right}
use Rattle.levels_text.specs.Lines.{numbers}
use Rattle.listing_spec.specs.Listings.{prefix_width}
use Rattle.listing_spec.specs.inner.Checking.{pieces, is_nil, begins, row_fits, rows_good, lines_to_rows}
use Rattle.listing_spec.specs.Laws.Pieces.{joined_pieces, pieces_some}
use Rattle.listing_spec.specs.Laws.Texts.{begins_more, good_more, lead_few, line_matches, no_row, rows_more}
use Rattle.listing_parse.specs.inner.Lines.{line_from, Found}

-- a row has few numbers
pub row_few : (numbered : Bool) (columns width : ℕ) → width ≡ prefix_width numbered + columns → columns ≤ 8 → width ≤ 9
row_few numbered columns width e narrow = omega (arith, e, lead_few numbered)

-- the rows from an offset on
unfoldable pub rows_from : List ℕ → ℕ → List (List ℕ)
rows_from text at = lines_to_rows (pieces (drop at text))

-- valid D lines from an offset on
pub record ValidRows (numbered : Bool) (columns : ℕ) (text : List ℕ) (at : ℕ) : Type 0 where
  pub count : ℕ
  pub least : ℕ
  pub left : ℕ
  pub good : rows_good numbered columns count least left (pieces (drop at text)) ≡ true

module _ (numbered : Bool) (columns : ℕ) (text : List ℕ) (at : ℕ) where
  -- before the end of the text there is one more line
  pub valid_rows_line : at < length text → ValidRows numbered columns text at → begins 68 (prefix_width numbered + columns) (pieces (drop at text)) ≡ true
  valid_rows_line before w =
      elim (split (begins 68 (prefix_width numbered + columns) (pieces (drop at text)))) [
        | inl e ↦ e
        | inr e ↦ absurd (false≢true (sym (no_row numbered columns w.count w.least w.left (pieces (drop at text)) e (rw (joined_pieces (drop at text)) (omega (arith, length-drop at text)))) ∙ w.good))
      ]

  -- it has as many numbers as are stored
  pub valid_rows_room : at < length text → ValidRows numbered columns text at → prefix_width numbered + columns ≤ length (flatten (rows_from text at))
  unfolding rows_from
  valid_rows_room before w = room (pieces (drop at text)) (valid_rows_line before w)
    where
      room : (ps : List (List ℕ)) → begins 68 (prefix_width numbered + columns) ps ≡ true → prefix_width numbered + columns ≤ length (flatten (lines_to_rows ps))
      room [] e = absurd (false≢true (unfold begins in e))
      room (line ∷ rest) e =
          let wide = (line_matches 68 (prefix_width numbered + columns) line rest e).wide in
          rw (rows_more line rest (begins_more 68 (prefix_width numbered + columns) line rest e))
          (unfold flatten in omega (arith, wide, length-append (numbers line) (flatten (lines_to_rows rest))))

  module _ {next : ℕ} {stored : List ℕ} (f : Found text at 68 (prefix_width numbered + columns) next stored) where
    pub valid_rows_next : ValidRows numbered columns text at → ValidRows numbered columns text next
    valid_rows_next w =
        let line = line_from (drop at text) in
        let rest = pieces (drop next text) in
        let front = ltb 0 w.left && (begins 68 (prefix_width numbered + columns) (line ∷ rest) && row_fits numbered w.count w.least (numbers line)) in
        let behind = rows_good numbered columns w.count (suc (get_or (numbers line) 0 0)) (w.left - 1) rest in
        let good : rows_good numbered columns w.count w.least w.left (line ∷ rest) ≡ true = rw f.cut at w.good in
        record {
          count = w.count;
          least = suc (get_or (numbers line) 0 0);
          left = w.left - 1;
          good = and_right front behind (sym (good_more numbered columns w.count line rest w.least w.left (pieces_some (drop next text))) ∙ good);
        }

    pub valid_rows_row : rows_from text at ≡ take (prefix_width numbered + columns) stored ∷ rows_from text next
    unfolding rows_from
    valid_rows_row = rw (f.cut, f.read) (rows_more (line_from (drop at text)) (pieces (drop next text)) (pieces_some (drop next text)))

-- at the end of the text there are no more rows
pub none_from : (text : List ℕ) (at : ℕ) → length text ≤ at → rows_from text at ≡ []
unfolding rows_from
none_from text at over = rw (drop_of_length-le text over) (unfold pieces lines_to_rows is_nil in refl)
