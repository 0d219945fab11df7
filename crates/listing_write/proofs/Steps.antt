-- The ways through the loops over numbers and rows, and to the answers. Assumes nothing.
use Rattle.refusals.specs.declared.Refusal.TheVariants.{OutOfBounds, TooShort}
use Rattle.refusals.specs.declared.Refusal.{Refusal}
use Rattle.std.specs.Prelude.{Ok, Err}
use Rattle.listing_write.proofs.Prelude.{ℕ, zero, suc, ◌+◌, ◌-◌, ◌*◌, ◌≤◌, ◌<◌, ◌≡◌, refl, sym, ap, ◌∙◌, arith, length, take, drop, get_or, length-append, length-take}
use mathlib.Core.Bool.{Bool, true, false}
use mathlib.Core.List.{List, [], ◌∷◌, ◌++◌, map}
use native.Mathlib.Nat.{suc-mul}
use native.Mathlib.Numerals.{add-one}
use lib.Seq.{take-suc, take_all, drop-drop}
use borrow.Author.Tests.{lt-ltb, le-ltb}
use Rattle.lists.specs.Lists.{flatten}
use Rattle.refusals.specs.Refusals.{first_refusal, reply, answer_view, number}
use Rattle.refusals.specs.Laws.Numbers.{err_replies, number_some}
use Rattle.constraints.specs.Constraints.{is_live}
use Rattle.table.specs.declared.Header.{Header}
use Rattle.table.specs.Refusing.{outside, rows_short}
use Rattle.levels_text.specs.Written.{field, text_line}
use Rattle.levels_text.specs.Laws.Decimals.{fields_more, length_fields, length_line, length_numbered}
use Rattle.levels_text.specs.inner.Appending.{Appended, appended_none, appended_then, appended_put}
use Rattle.listing_spec.specs.Listings.{head_letter}
use Rattle.listing_write.specs.Writing.{stored_text, write_refusal, ListingWritten}
use Rattle.listing_write.specs.inner.Lines.{head_numbers, head_line, row_line, row_lines, Stored}
use Rattle.listing_write.specs.Laws.Lines.{stored_lines}
use Rattle.listing_write.specs.Laws.Lengths.{row_numbered, row_live, row_dead, length_rows, length_head, length_stored}

-- ---- the bytes of numbers

-- the first i are counted
pub record Counting (numbers : List ℕ) (total i : ℕ) : Type 0 where
  pub inside : i ≤ length numbers
  pub counted : total ≡ length (flatten (map field (take i numbers)))

pub counting_begin : (numbers : List ℕ) → Counting numbers 0 0
unfolding flatten
counting_begin numbers = record { inside = omega arith; counted = refl }

module _ {numbers : List ℕ} {total i : ℕ} (v : Counting numbers total i) where
  pub counting_few : total ≤ 11 * i
  counting_few = omega (arith, v.counted, length_fields (take i numbers), length-take i numbers)

  pub counting_again : {next : ℕ} → i < length numbers → next ≡ length (field (get_or numbers i 0)) → Counting numbers (total + next) (i + 1)
  counting_again {next} less e = record { inside = omega arith; counted = omega (arith, v.counted, e, longer) }
    where
      longer : length (flatten (map field (take (i + 1) numbers))) ≡ length (flatten (map field (take i numbers))) + length (field (get_or numbers i 0))
      longer = rw (add-one, take-suc numbers i 0 less, fields_more (take i numbers) (get_or numbers i 0)) (length-append (flatten (map field (take i numbers))) (field (get_or numbers i 0)))

  pub counting_end : length numbers ≤ i → total ≡ length (flatten (map field numbers))
  counting_end all = rw (take_all i numbers all) at v.counted

-- ---- the head line

module _ (h : Header) {total : ℕ} where
  pub head_numbered : {numbered : Bool} → numbered ≡ true → total ≡ length (flatten (map field (h.columns ∷ h.keys ∷ h.sort ∷ h.rule ∷ h.generation ∷ h.rows ∷ []))) → total + 2 ≡ length (head_line numbered h)
  unfolding head_line head_letter head_numbers
  head_numbered e f = rw e (omega (arith, f, length_line 85 (h.columns ∷ h.keys ∷ h.sort ∷ h.rule ∷ h.generation ∷ h.rows ∷ [])))

  pub head_plain : {numbered : Bool} → numbered ≡ false → total ≡ length (flatten (map field (h.columns ∷ h.keys ∷ h.sort ∷ h.rule ∷ h.generation ∷ []))) → total + 2 ≡ length (head_line numbered h)
  unfolding head_line head_letter head_numbers
  head_plain e f = rw e (omega (arith, f, length_line 84 (h.columns ∷ h.keys ∷ h.sort ∷ h.rule ∷ h.generation ∷ [])))

-- ---- one row

module _ (number : ℕ) (row : List ℕ) (live : is_live row ≡ true) where
  pub bytes_numbered : {numbered : Bool} {cells own : ℕ} → numbered ≡ true → cells ≡ length (flatten (map field row)) → own ≡ length (field number) → cells + 2 + own ≡ length (row_line numbered number row)
  bytes_numbered e f g = rw (e, row_numbered number row live) (omega (arith, f, g, length_numbered 68 number row))

  pub bytes_live : {numbered : Bool} {cells : ℕ} → numbered ≡ false → cells ≡ length (flatten (map field row)) → cells + 2 ≡ length (row_line numbered number row)
  bytes_live e f = rw (e, row_live number row live) (omega (arith, f, length_line 68 row))

  module _ (used : ℕ) {long : ℕ} where
    pub room_numbered : {numbered : Bool} → numbered ≡ true → used + length (row_line numbered number row) ≤ long → used + length (text_line 68 (number ∷ row)) ≤ long
    room_numbered e h = rw (e, row_numbered number row live) at h

    pub room_live : {numbered : Bool} → numbered ≡ false → used + length (row_line numbered number row) ≤ long → used + length (text_line 68 row) ≤ long
    room_live e h = rw (e, row_live number row live) at h

  module _ {text text' : List ℕ} {used end : ℕ} where
    pub put_numbered_row : {numbered : Bool} → numbered ≡ true → Appended text used (text_line 68 (number ∷ row)) text' end → Appended text used (row_line numbered number row) text' end
    put_numbered_row e a = rw (e, row_numbered number row live) a

    pub put_live_row : {numbered : Bool} → numbered ≡ false → Appended text used (text_line 68 row) text' end → Appended text used (row_line numbered number row) text' end
    put_live_row e a = rw (e, row_live number row live) a

module _ (numbered : Bool) (number : ℕ) (row : List ℕ) (dead : is_live row ≡ false) where
  pub bytes_dead : 0 ≡ length (row_line numbered number row)
  bytes_dead = rw (row_dead numbered number row dead)

  pub put_dead_row : {text : List ℕ} {used : ℕ} → Appended text used (row_line numbered number row) text used
  put_dead_row {text} {used} = rw (row_dead numbered number row dead) (appended_none text used)

-- ---- all rows

-- the first row, then the others
rows_step : (numbered : Bool) (columns number left at : ℕ) (rows : List ℕ) → 0 < left
    → row_lines numbered columns number left (drop at rows) ≡ row_line numbered number (take columns (drop at rows)) ++ row_lines numbered columns (number + 1) (left - 1) (drop (at + columns) rows)
unfolding row_lines
rows_step numbered columns number zero at rows some = absurd (omega arith)
rows_step numbered columns number (suc n) at rows some =
    let less : suc n - 1 ≡ n = omega arith in
    rw (less, add-one, ← drop-drop columns at rows)

left_more : (left columns : ℕ) → 0 < left → left * columns ≡ columns + (left - 1) * columns
left_more zero columns some = absurd (omega arith)
left_more (suc n) columns some =
    let less : suc n - 1 ≡ n = omega arith in
    rw (less, suc-mul n columns) (omega arith)

-- the lines still to come
abbrev coming : Bool → ℕ → ℕ → List ℕ → ℕ → ℕ → List ℕ
coming numbered columns count rows at number = row_lines numbered columns number (count - number) (drop at rows)

-- the row at `number` begins at `at`
pub record Place (columns count : ℕ) (rows : List ℕ) (at number : ℕ) : Type 0 where
  pub some_left : number ≤ count
  pub inside : at + (count - number) * columns ≤ length rows

place_begin : {columns count : ℕ} {rows : List ℕ} → count * columns ≤ length rows → Place columns count rows 0 0
place_begin {columns} {count} h = let all : count - 0 ≡ count = omega arith in record { some_left = omega arith; inside = rw all (omega arith) }

module _ {columns count : ℕ} {rows : List ℕ} {at number : ℕ} (v : Place columns count rows at number) (less : number < count) where
  pub place_next : at + columns ≤ length rows
  place_next = omega (arith, v.inside, left_more (count - number) columns (omega arith))

  place_again : Place columns count rows (at + columns) (number + 1)
  place_again =
      let left : count - (number + 1) ≡ count - number - 1 = omega arith in
      record { some_left = omega arith; inside = rw left (omega (arith, v.inside, left_more (count - number) columns (omega arith))) }

  -- the next line and those behind it
  coming_next : (numbered : Bool) → coming numbered columns count rows at number ≡ row_line numbered number (take columns (drop at rows)) ++ coming numbered columns count rows (at + columns) (number + 1)
  coming_next numbered =
      let left : count - (number + 1) ≡ count - number - 1 = omega arith in
      rw left (rows_step numbered columns number (count - number) at rows (omega arith))

  coming_length : (numbered : Bool) → length (coming numbered columns count rows at number) ≡ length (row_line numbered number (take columns (drop at rows))) + length (coming numbered columns count rows (at + columns) (number + 1))
  coming_length numbered =
      ap length (coming_next numbered) ∙ length-append (row_line numbered number (take columns (drop at rows))) (coming numbered columns count rows (at + columns) (number + 1))

coming_all : (numbered : Bool) (columns count : ℕ) (rows : List ℕ) → coming numbered columns count rows 0 0 ≡ row_lines numbered columns 0 count rows
coming_all numbered columns count rows = let all : count - 0 ≡ count = omega arith in rw all

coming_none : (numbered : Bool) (columns count : ℕ) (rows : List ℕ) (at number : ℕ) → count ≤ number → coming numbered columns count rows at number ≡ []
unfolding row_lines
coming_none numbered columns count rows at number h = let none : count - number ≡ 0 = omega arith in rw none

-- the row as it is lent
lent_row : (at columns : ℕ) (rows : List ℕ) → take (at + columns - at) (drop at rows) ≡ take columns (drop at rows)
lent_row at columns rows = let width : at + columns - at ≡ columns = omega arith in rw width

-- ---- the bytes of rows

pub record Measuring (numbered : Bool) (columns count : ℕ) (rows : List ℕ) (total at number : ℕ) : Type 0 where
  pub place : Place columns count rows at number
  pub counted : total + length (coming numbered columns count rows at number) ≡ length (row_lines numbered columns 0 count rows)

pub measuring_begin : (numbered : Bool) {columns count : ℕ} {rows : List ℕ} → count * columns ≤ length rows → Measuring numbered columns count rows 0 0 0
measuring_begin numbered {columns} {count} {rows} h = record { place = place_begin h; counted = omega (arith, ap length (coming_all numbered columns count rows)) }

module _ {numbered : Bool} {columns count : ℕ} {rows : List ℕ} {total at number : ℕ} (v : Measuring numbered columns count rows total at number) where
  module _ {next : ℕ} (less : number < count) (e : next ≡ length (row_line numbered number (take (at + columns - at) (drop at rows)))) where
    next_is : next ≡ length (row_line numbered number (take columns (drop at rows)))
    next_is = e ∙ ap (λ (row : List ℕ). length (row_line numbered number row)) (lent_row at columns rows)

    pub measuring_few : columns ≤ 8 → total + next ≤ 101 * count
    measuring_few narrow = omega (arith, v.counted, next_is, coming_length v.place less numbered, length_rows numbered columns 0 count rows narrow)

    pub measuring_again : Measuring numbered columns count rows (total + next) (at + columns) (number + 1)
    measuring_again = record { place = place_again v.place less; counted = omega (arith, v.counted, next_is, coming_length v.place less numbered) }

  pub measuring_end : count ≤ number → total ≡ length (row_lines numbered columns 0 count rows)
  measuring_end h = omega (arith, v.counted, ap length (coming_none numbered columns count rows at number h))

-- ---- the lines of rows

pub record Putting (numbered : Bool) (text : List ℕ) (used columns count : ℕ) (rows text' : List ℕ) (end at number : ℕ) : Type 0 where
  pub place : Place columns count rows at number
  pub same_length : length text' ≡ length text
  pub counted : end + length (coming numbered columns count rows at number) ≡ used + length (row_lines numbered columns 0 count rows)
  pub rest : (text'' : List ℕ) (end'' : ℕ) → Appended text' end (coming numbered columns count rows at number) text'' end''
      → Appended text used (row_lines numbered columns 0 count rows) text'' end''

pub putting_begin : (numbered : Bool) (text : List ℕ) (used : ℕ) {columns count : ℕ} {rows : List ℕ} → count * columns ≤ length rows → Putting numbered text used columns count rows text used 0 0
putting_begin numbered text used {columns} {count} {rows} h =
    let all = coming_all numbered columns count rows in
    record { place = place_begin h; same_length = refl; counted = omega (arith, ap length all); rest = λ text'' end'' a. rw all at a }

module _ {numbered : Bool} {text : List ℕ} {used columns count : ℕ} {rows text' : List ℕ} {end at number : ℕ} (v : Putting numbered text used columns count rows text' end at number) where
  pub putting_room : number < count → used + length (row_lines numbered columns 0 count rows) ≤ length text → end + length (row_line numbered number (take (at + columns - at) (drop at rows))) ≤ length text'
  putting_room less room =
      rw (lent_row at columns rows) (omega (arith, v.counted, v.same_length, coming_length v.place less numbered))

  pub putting_again : {text'' : List ℕ} {end' : ℕ} → number < count → length text'' ≡ length text'
      → Appended text' end (row_line numbered number (take (at + columns - at) (drop at rows))) text'' end' → Putting numbered text used columns count rows text'' end' (at + columns) (number + 1)
  putting_again {text''} {end'} less lent one =
      let row : Appended text' end (row_line numbered number (take columns (drop at rows))) text'' end' = rw (lent_row at columns rows) at one in
      record {
        place = place_again v.place less;
        same_length = lent ∙ v.same_length;
        counted = omega (arith, v.counted, row.counted, coming_length v.place less numbered);
        rest = λ t e a. v.rest t e (rw (coming_next v.place less numbered) (appended_then row a));
      }

  pub putting_end : count ≤ number → Appended text used (row_lines numbered columns 0 count rows) text' end
  putting_end h = v.rest text' end (rw (coming_none numbered columns count rows at number h) (appended_none text' end))

-- ---- the whole text

module _ (numbered : Bool) (h : Header) (rows : List ℕ) where
  pub text_bytes : {head lines : ℕ} → head ≡ length (head_line numbered h) → lines ≡ length (row_lines numbered h.columns 0 h.rows rows) → head + lines ≡ length (stored_text numbered h rows)
  text_bytes e f = omega (arith, e, f, length_stored numbered h rows)

  pub text_few : {head lines : ℕ} → Stored h rows → head ≡ length (head_line numbered h) → lines ≡ length (row_lines numbered h.columns 0 h.rows rows) → head + lines ≤ 6619204
  text_few s e f = omega (arith, e, f, s.few, length_head numbered h, length_rows numbered h.columns 0 h.rows rows s.narrow)

  pub head_room : {long : ℕ} → length (stored_text numbered h rows) ≤ long → length (head_line numbered h) ≤ long
  head_room room = omega (arith, length_stored numbered h rows)

  module _ {text text₁ : List ℕ} {used : ℕ} (a : Appended text 0 (head_line numbered h) text₁ used) where
    pub rows_room : length text₁ ≡ length text → length (stored_text numbered h rows) ≤ length text → used + length (row_lines numbered h.columns 0 h.rows rows) ≤ length text₁
    rows_room lent room = omega (arith, a.counted, length_stored numbered h rows)

    pub text_put : {text₂ : List ℕ} {end : ℕ} → Appended text₁ used (row_lines numbered h.columns 0 h.rows rows) text₂ end → Appended text 0 (stored_text numbered h rows) text₂ end
    text_put b = rw (stored_lines numbered h rows) (appended_then a b)

-- ---- the answers

module _ (numbered : Bool) (h : Header) (rows output : List ℕ) where
  refused_with : (r : Refusal) → number r ≡ write_refusal numbered h rows (length output) → ListingWritten numbered h rows output (Err r) output
  refused_with r e = record {
    effect =
        record {
          answers = err_replies r _ e;
          unchanged = λ some. refl;
          written = λ zero. absurd (number_some r (e ∙ zero));
        };
  }

  pub refused_outside : outside h ≡ true → ListingWritten numbered h rows output (Err OutOfBounds) output
  refused_outside e = refused_with OutOfBounds (unfold write_refusal first_refusal in rw e)

  module _ (inside : outside h ≡ false) where
    pub refused_rows : rows_short h (length rows) ≡ true → ListingWritten numbered h rows output (Err TooShort) output
    refused_rows e = refused_with TooShort (unfold write_refusal first_refusal in rw (inside, e))

    module _ (long : rows_short h (length rows) ≡ false) where
      pub refused_output : length output < length (stored_text numbered h rows) → ListingWritten numbered h rows output (Err TooShort) output
      refused_output less = refused_with TooShort (unfold write_refusal first_refusal in rw (inside, long, lt-ltb (length output) (length (stored_text numbered h rows)) less))

      pub written_all : length (stored_text numbered h rows) ≤ length output → {output' : List ℕ} {end : ℕ} → Appended output 0 (stored_text numbered h rows) output' end → ListingWritten numbered h rows output (Ok end) output'
      written_all fits {output'} {end} a =
          let none : write_refusal numbered h rows (length output) ≡ 0 = unfold write_refusal first_refusal in rw (inside, long, le-ltb (length output) (length (stored_text numbered h rows)) fits) in
          let n : end ≡ length (stored_text numbered h rows) = omega (arith, a.counted) in
          record {
            effect =
                record {
                  answers = rw (none, n) (unfold answer_view reply in refl);
                  unchanged = λ more. absurd (omega (arith, more, none));
                  written = λ zero. appended_put a;
                };
          }
