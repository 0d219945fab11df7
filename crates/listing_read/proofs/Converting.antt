-- The ways through `convert_rows`: what is to be written from a place on ends where all of it does. Assumes nothing.
use Rattle.listing_read.proofs.Prelude.{ℕ, ◌+◌, ◌≤◌, ◌<◌, ◌≡◌, refl, ap, ◌∙◌, Bool, List, ◌∷◌, ◌++◌, map, arith, length, take, length-append, add-one, text_line, Appended, appended_none, appended_then, prefix_width, Found, rows_from, ValidRows, valid_rows_next, valid_rows_row, none_from}
use Rattle.lists.specs.Lists.{flatten}
use Rattle.listing_read.specs.inner.Converting.{converted_row, converted_from}

-- the text of the rows from a place on, in the other form
unfoldable pub converted_lines : Bool → ℕ → List (List ℕ) → List ℕ
converted_lines numbered number rows = flatten (map (text_line 68) (converted_from numbered number rows))

pub record Converting (numbered : Bool) (columns : ℕ) (text : List ℕ) (start : ℕ) (lent output₀ : List ℕ) (used : ℕ) (stored output : List ℕ) (end number at : ℕ) : Type 0 where
  pub inside : at ≤ length text
  pub same_numbers : length stored ≡ length lent
  pub same : length output ≡ length output₀
  pub valid_rows : ValidRows numbered columns text at
  pub counted : number + length (rows_from text at) ≡ length (rows_from text start)
  pub room : end + length (converted_lines numbered number (rows_from text at)) ≤ length output
  pub rest : (o : List ℕ) (e : ℕ) → Appended output end (converted_lines numbered number (rows_from text at)) o e
      → Appended output₀ used (converted_lines numbered 0 (rows_from text start)) o e

module _ (numbered : Bool) (columns : ℕ) (text : List ℕ) (start : ℕ) (lent output₀ : List ℕ) (used : ℕ) where
  pub converting_begin : start ≤ length text → ValidRows numbered columns text start → used + length (flatten (map (text_line 68) (converted_from numbered 0 (rows_from text start)))) ≤ length output₀
      → Converting numbered columns text start lent output₀ used lent output₀ used 0 start
  unfolding converted_lines
  converting_begin inside w room = record { inside = inside; same_numbers = refl; same = refl; valid_rows = w; counted = omega arith; room = room; rest = λ o e a. a }

  module _ {stored output : List ℕ} {end number at : ℕ} (v : Converting numbered columns text start lent output₀ used stored output end number at) where
    module _ {width next : ℕ} {stored' : List ℕ} (e : width ≡ prefix_width numbered + columns) (f : Found text at 68 width next stored') where
      there : Found text at 68 (prefix_width numbered + columns) next stored'
      there = rw e at f

      line : List ℕ
      line = text_line 68 (converted_row numbered number (take (prefix_width numbered + columns) stored'))

      row : rows_from text at ≡ take (prefix_width numbered + columns) stored' ∷ rows_from text next
      row = valid_rows_row numbered columns text at there

      more : converted_lines numbered number (rows_from text at) ≡ line ++ converted_lines numbered (number + 1) (rows_from text next)
      unfolding converted_lines converted_from flatten line
      more = rw (row, add-one number)

      pub converting_wide : prefix_width numbered + columns ≤ length stored'
      converting_wide = there.wide

      pub converting_room : end + length (text_line 68 (converted_row numbered number (take (prefix_width numbered + columns) stored'))) + length (converted_lines numbered (number + 1) (rows_from text next)) ≤ length output
      unfolding line
      converting_room = omega (arith, v.room, ap length more, length-append line (converted_lines numbered (number + 1) (rows_from text next)))

      pub converting_number : number < length (rows_from text start)
      converting_number = omega (arith, v.counted, ap length row)

      pub converting_more : length stored' ≡ length stored → {output' : List ℕ} {end' : ℕ} → length output' ≡ length output
          → Appended output end (text_line 68 (converted_row numbered number (take (prefix_width numbered + columns) stored'))) output' end'
          → Converting numbered columns text start lent output₀ used stored' output' end' (number + 1) next
      unfolding line
      converting_more long kept one = record {
        inside = f.inside;
        same_numbers = long ∙ v.same_numbers;
        same = kept ∙ v.same;
        valid_rows = valid_rows_next numbered columns text at there v.valid_rows;
        counted = omega (arith, v.counted, ap length row);
        room = omega (arith, converting_room, one.counted, kept);
        rest = λ o e a. v.rest o e (rw more (appended_then one a));
      }

    pub converting_end : length text ≤ at → Appended output₀ used (flatten (map (text_line 68) (converted_from numbered 0 (rows_from text start)))) output end
    unfolding converted_lines
    converting_end over = v.rest output end (rw (none_from text at over) (unfold converted_from flatten in appended_none output end))
