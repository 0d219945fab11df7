-- The ways out of `read_found` and `read`. Assumes nothing.
use Rattle.refusals.specs.declared.Refusal.TheVariants.{TooShort, NoListing}
use Rattle.refusals.specs.declared.Refusal.{Refusal}
use Rattle.listing_read.proofs.Prelude.{ℕ, ◌+◌, ◌*◌, ◌≤◌, ◌<◌, ◌≡◌, refl, sym, ap, ◌∙◌, Bool, true, false, not, List, none, some, mul-le-mul, arith, eqb, length, get_or, lt-ltb, le-ltb, splice, flatten, all_weaker, and_left, widths, length_flatten, pieces, lines_to_rows, text_good, listing_in, rows_shown, text_shown, text_wrong, Survey}
use mathlib.Core.Option.{Option-elim}
use Rattle.refusals.specs.Refusals.{first_refusal, reply}
use Rattle.listing_spec.specs.Listings.{Listing, prefix_width, is_row, listing_cells, read_refusal, read_words, listing_view, numbered_view, ListingRead}
use Rattle.listing_parse.specs.inner.Surveys.{head_of, Listed}
use Rattle.listing_parse.specs.Laws.Steps.{rows_from, ValidRows}
use Rattle.std.specs.Prelude.{Ok, Err}
use Rattle.listing_read.specs.inner.ReadResults.{read_view}

module _ (l : Listing) (output : ℕ) where
  too_short : output < length (flatten l.rows) → read_refusal (some l) output ≡ 2
  unfolding read_refusal Option-elim first_refusal
  too_short less = rw (lt-ltb output (length (flatten l.rows)) less)

  long_enough : length (flatten l.rows) ≤ output → read_refusal (some l) output ≡ 0
  unfolding read_refusal Option-elim first_refusal
  long_enough fits = rw (le-ltb output (length (flatten l.rows)) fits)

module _ (numbered : Bool) (text : List ℕ) (s : Survey) (l : Listed numbered text s) where
  pub valid_rows : ValidRows numbered s.columns text s.start
  valid_rows = record { count = s.count; least = 0; left = 65536; good = l.good }

  -- as many cells as are written
  row_wide : (ns : List ℕ) → is_row numbered s.columns ns ≡ true → eqb (length ns) (prefix_width numbered + s.columns) ≡ true
  unfolding is_row
  row_wide ns e = and_left (eqb (length ns) (prefix_width numbered + s.columns)) (not (eqb (get_or ns (prefix_width numbered) 0) 4294967295)) e

  rows_there : rows_from text s.start ≡ (listing_in text).rows
  unfolding rows_from
  rows_there = sym l.rows_there

  rows_wide : widths (prefix_width numbered + s.columns) (rows_from text s.start) ≡ true
  unfolding rows_from
  rows_wide =
      all_weaker (is_row numbered s.columns) (λ ns. eqb (length ns) (prefix_width numbered + s.columns)) row_wide (lines_to_rows _)
      (rows_shown numbered s.columns s.count 0 65536 (pieces _) l.good).1.wide

  pub cells_count : {width : ℕ} → width ≡ prefix_width numbered + s.columns → length (flatten (rows_from text s.start)) ≡ s.rows * width
  cells_count {width} e =
      rw (e, l.counted, ← rows_there) (length_flatten (prefix_width numbered + s.columns) (rows_from text s.start) rows_wide)

  same_cells : length (flatten (listing_in text).rows) ≡ length (flatten (rows_from text s.start))
  same_cells = ap (λ (rs : List (List ℕ)). length (flatten rs)) (sym rows_there)

  module _ {width : ℕ} (e : width ≡ prefix_width numbered + s.columns) (output : List ℕ) where
    pub read_short : length output < s.rows * width → ListingRead numbered text output (read_view numbered (Err TooShort)) output
    unfolding read_view
    read_short short = record {
      listing = some (listing_in text);
      shown = text_shown numbered text l.of_form;
      effect =
          record {
            answers = rw refuses (unfold reply in refl);
            unchanged = λ more. refl;
            written = λ zero. absurd (omega (arith, zero, refuses));
          };
    }
      where
        refuses : read_refusal (some (listing_in text)) (length output) ≡ 2
        refuses = too_short (listing_in text) (length output) (omega (arith, cells_count e, same_cells))

    pub read_done : s.rows * width ≤ length output → {output' : List ℕ} → output' ≡ splice output 0 (flatten (rows_from text s.start))
        → ListingRead numbered text output (read_view numbered (Ok s)) output'
    unfolding read_view
    read_done room put = record {
      listing = some (listing_in text);
      shown = text_shown numbered text l.of_form;
      effect =
          record {
            answers = rw accepts (unfold reply read_words Option-elim in rw (l.head, l.counted));
            unchanged = λ more. absurd (omega (arith, more, accepts));
            written = λ zero. put ∙ ap (λ (rs : List (List ℕ)). splice output 0 (flatten rs)) rows_there ∙ unfold listing_cells Option-elim in refl;
          };
    }
      where
        accepts : read_refusal (some (listing_in text)) (length output) ≡ 0
        accepts = long_enough (listing_in text) (length output) (omega (arith, cells_count e, same_cells))

pub read_wrong : (numbered : Bool) (text output : List ℕ) → text_good numbered text ≡ false → ListingRead numbered text output (read_view numbered (Err NoListing)) output
unfolding read_view read_refusal Option-elim reply
read_wrong numbered text output e = record {
  listing = none;
  shown = text_wrong numbered text e;
  effect =
      record {
        answers = refl;
        unchanged = λ more. refl;
        written = λ zero. absurd (omega (arith, zero));
      };
}

-- at most 65,536 rows of nine numbers
pub cells_few : (rows width : ℕ) → rows ≤ 65536 → width ≤ 9 → rows * width ≤ 589824
cells_few rows width a b = let c = mul-le-mul a b in omega arith

-- ---- converted to the answer type of the form

module _ {text output output' : List ℕ} where
  pub listing_refused : (r : Refusal) → ListingRead false text output (read_view false (Err r)) output' → ListingRead false text output (listing_view (Err r)) output'
  unfolding read_view listing_view
  listing_refused r p = p

  pub listing_found : (s : Survey) → ListingRead false text output (read_view false (Ok s)) output'
      → ListingRead false text output (listing_view (Ok (record { columns = s.columns; keys = s.keys; sort = s.sort; rule = s.rule; generation = s.generation; listed = s.rows }))) output'
  unfolding read_view listing_view head_of
  listing_found s p = p

  pub numbered_refused : (r : Refusal) → ListingRead true text output (read_view true (Err r)) output' → ListingRead true text output (numbered_view (Err r)) output'
  unfolding read_view numbered_view
  numbered_refused r p = p

  pub numbered_found : (s : Survey) → ListingRead true text output (read_view true (Ok s)) output'
      → ListingRead true text output (numbered_view (Ok (record { columns = s.columns; keys = s.keys; sort = s.sort; rule = s.rule; generation = s.generation; count = s.count; listed = s.rows }))) output'
  unfolding read_view numbered_view head_of
  numbered_found s p = p
