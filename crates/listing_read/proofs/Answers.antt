-- The ways through `write_converted`, `lacks_room` and `convert_found`. Assumes nothing.
use Rattle.refusals.specs.declared.Refusal.TheVariants.{TooShort, NoListing, MissingRow}
use Rattle.refusals.specs.Laws.Numbers.{err_replies, number_some}
use Rattle.refusals.specs.declared.Refusal.{Refusal}
use Rattle.std.specs.Prelude.{Ok, Err}
use Rattle.listing_read.proofs.Prelude.{ℕ, ◌+◌, ◌-◌, ◌≤◌, ◌<◌, ◌≡◌, refl, sym, ap, ◌∙◌, Bool, true, false, not, ◌&&◌, false≢true, List, [], ◌∷◌, ◌++◌, map, arith, length, drop, get_or, length-append, inl, inr, none, some, ℕ_discrete, ltb, eqb, eq-eqb, ne_eqb, lt-ltb, le-ltb, ltb-true, ltb-false, flatten, split, bool_ext, text_line, Appended, appended_then, appended_put, text_good, listing_in, shown_listing, shown_text, text_shown, text_wrong, lacks_none, lacks_no_row, fields_length, numbered_longer, plain_shorter, Survey}
use mathlib.Core.Option.{Option-elim}
use Rattle.refusals.specs.Refusals.{first_refusal, reply, number, answer_view}
use Rattle.listing_spec.specs.Listings.{Listing, head_letter, listing_text, numbered_from, to_numbered, from_numbered, lacks_row, converted_text, convert_refusal, ListingConverted}
use Rattle.listing_parse.specs.inner.Surveys.{head_of, Listed}
use Rattle.listing_parse.specs.Laws.Steps.{rows_from, ValidRows}
use Rattle.listing_read.specs.inner.Converting.{converted_row, converted_from, converted_head, converted_length}

-- ---- the text in the other form

rows_back_lem : (n : ℕ) (rows : List (List ℕ)) → map (drop 1) rows ≡ converted_from true n rows
unfolding converted_from converted_row
rows_back_lem n [] = refl
rows_back_lem n (ns ∷ rows) = ap (λ (l : List (List ℕ)). drop 1 ns ∷ l) (rows_back_lem _ rows)

rows_forth : (n : ℕ) (rows : List (List ℕ)) → numbered_from n rows ≡ converted_from false n rows
unfolding converted_from converted_row numbered_from
rows_forth n [] = refl
rows_forth n (ns ∷ rows) = ap (λ (l : List (List ℕ)). (n ∷ ns) ∷ l) (rows_forth _ rows)

module _ (text : List ℕ) (s : Survey) where
  pub converted_text_lem : (numbered : Bool) → Listed numbered text s
      → converted_text numbered (some (listing_in text)) ≡ text_line (head_letter (not numbered)) (converted_head numbered s) ++ flatten (map (text_line 68) (converted_from numbered 0 (rows_from text s.start)))
  unfolding converted_text Option-elim listing_text from_numbered to_numbered head_letter converted_head head_of rows_from
  converted_text_lem true l = rw (l.head, l.rows_there, rows_back_lem 0 _)
  converted_text_lem false l = rw (l.head, ← l.counted, l.rows_there, rows_forth 0 _)

module _ (text : List ℕ) (s : Survey) where
  -- rows that lack
  pub lacks_same : (numbered : Bool) → Listed numbered text s → (numbered && lacks_row (listing_in text)) ≡ (numbered && not (eqb s.rows s.count))
  lacks_same false l = refl
  lacks_same true l =
      let good = shown_listing (text_shown true text l.of_form) in
      let count : get_or (listing_in text).head 5 0 ≡ s.count = rw l.head (unfold head_of in refl) in
      elim (ℕ_discrete s.rows s.count) [
        | yes e ↦ lacks_none (listing_in text) good (sym l.counted ∙ e ∙ sym count) ∙ sym (none_missing e)
        | no e ↦ elim (split (lacks_row (listing_in text))) [
          | inl t ↦ t ∙ sym (missing e)
          | inr f ↦ absurd (e (l.counted ∙ lacks_no_row (listing_in text) good f ∙ count))
        ]
      ]
    where
      none_missing : s.rows ≡ s.count → not (eqb s.rows s.count) ≡ false
      none_missing e = rw (eq-eqb s.rows s.count e)

      missing : (s.rows ≡ s.count → ⊥) → not (eqb s.rows s.count) ≡ true
      missing e = rw (ne_eqb s.rows s.count e)

  longer : (numbered : Bool) → Listed numbered text s → (numbered && lacks_row (listing_in text)) ≡ false → (numbered ≡ true → fields_length s.rows ≤ length text) × (length (converted_text numbered (some (listing_in text))) ≡ converted_length numbered s.rows (length text))
  unfolding converted_text Option-elim converted_length
  longer true l full =
      let shown = text_shown true text l.of_form in
      let e = ap length (shown_text shown) ∙ plain_shorter (listing_in text) (shown_listing shown) full ∙ ap (λ (n : ℕ). length (listing_text false (from_numbered (listing_in text))) + fields_length n) (sym l.counted) in
      (λ t. omega (arith, e), omega (arith, e))
  longer false l full =
      let shown = text_shown false text l.of_form in (
        λ t. absurd (false≢true t),
        numbered_longer (listing_in text)
            ∙ ap (λ (n : ℕ). length (listing_text false (listing_in text)) + fields_length n) (sym l.counted)
            ∙ ap (λ (n : ℕ). n + fields_length s.rows) (sym (ap length (shown_text shown))),
      )

-- ---- the answers

pub converted_wrong : (numbered : Bool) (text output : List ℕ) → text_good numbered text ≡ false → ListingConverted numbered text output (Err NoListing) output
unfolding answer_view convert_refusal Option-elim reply
converted_wrong numbered text output e = record {
  listing = none;
  shown = text_wrong numbered text e;
  effect =
      record {
        answers = refl;
        unchanged = λ more. refl;
        written = λ zero. absurd (omega (arith, zero));
      };
}

module _ (numbered : Bool) (l : Listing) (output : ℕ) where
  gives_17 : (numbered && lacks_row l) ≡ true → convert_refusal numbered (some l) output ≡ 17
  unfolding convert_refusal Option-elim first_refusal
  gives_17 e = rw e

  gives_2 : (numbered && lacks_row l) ≡ false → output < length (converted_text numbered (some l)) → convert_refusal numbered (some l) output ≡ 2
  unfolding convert_refusal Option-elim first_refusal
  gives_2 e h = rw (e, lt-ltb output (length (converted_text numbered (some l))) h)

  gives_0 : (numbered && lacks_row l) ≡ false → length (converted_text numbered (some l)) ≤ output → convert_refusal numbered (some l) output ≡ 0
  unfolding convert_refusal Option-elim first_refusal
  gives_0 e h = rw (e, le-ltb output (length (converted_text numbered (some l))) h)

module _ (numbered : Bool) (text : List ℕ) (s : Survey) (l : Listed numbered text s) (output : List ℕ) where
  pub valid_rows : ValidRows numbered s.columns text s.start
  valid_rows = record { count = s.count; least = 0; left = 65536; good = l.good }

  pub rows_few : length (rows_from text s.start) ≤ 65536
  unfolding rows_from
  rows_few = omega (arith, l.few, l.counted, ap length l.rows_there)

  refused_with : (r : Refusal) → number r ≡ convert_refusal numbered (some (listing_in text)) (length output) → ListingConverted numbered text output (Err r) output
  refused_with r e = record {
    listing = some (listing_in text);
    shown = text_shown numbered text l.of_form;
    effect =
        record {
          answers = err_replies r _ e;
          unchanged = λ more. refl;
          written = λ zero. absurd (number_some r (e ∙ zero));
        };
  }

  module _ {missing : Bool} (tested : missing ≡ (numbered && not (eqb s.rows s.count))) where
    pub converted_missing : missing ≡ true → ListingConverted numbered text output (Err MissingRow) output
    converted_missing t = refused_with MissingRow (sym (gives_17 numbered (listing_in text) (length output) (lacks_same text s numbered l ∙ sym tested ∙ t)))

    module _ (none_missing : missing ≡ false) where
      whole : (numbered && lacks_row (listing_in text)) ≡ false
      whole = lacks_same text s numbered l ∙ sym tested ∙ none_missing

      pub fields_fit : numbered ≡ true → fields_length s.rows ≤ length text
      fields_fit = (longer text s numbered l whole).0

      converted_length_lem : length (converted_text numbered (some (listing_in text))) ≡ converted_length numbered s.rows (length text)
      converted_length_lem = (longer text s numbered l whole).1

      module _ {short : Bool} (measured : short ≡ ltb (length output) (converted_length numbered s.rows (length text))) where
        pub converted_short : short ≡ true → ListingConverted numbered text output (Err TooShort) output
        converted_short t =
            refused_with TooShort
            (sym (gives_2 numbered (listing_in text) (length output) whole
            (let h = ltb-true (length output) (converted_length numbered s.rows (length text)) (sym measured ∙ t) in omega (arith, h, converted_length_lem))))

        module _ (fits : short ≡ false) where
          pub converted_room : length (converted_text numbered (some (listing_in text))) ≤ length output
          converted_room = let h = ltb-false (length output) (converted_length numbered s.rows (length text)) (sym measured ∙ fits) in omega (arith, h, converted_length_lem)

          pub converted_done : {output' : List ℕ} {bytes : ℕ} → Appended output 0 (converted_text numbered (some (listing_in text))) output' bytes → ListingConverted numbered text output (Ok bytes) output'
          converted_done {output'} {bytes} a = record {
            listing = some (listing_in text);
            shown = text_shown numbered text l.of_form;
            effect =
                record {
                  answers = answered;
                  unchanged = λ more. absurd (omega (arith, more, none_given));
                  written = λ zero. appended_put a;
                };
          }
            where
              none_given : convert_refusal numbered (some (listing_in text)) (length output) ≡ 0
              none_given = gives_0 numbered (listing_in text) (length output) whole converted_room

              answered : answer_view (Ok bytes) ≡ reply (convert_refusal numbered (some (listing_in text)) (length output)) (length (converted_text numbered (some (listing_in text))))
              answered = let n : bytes ≡ length (converted_text numbered (some (listing_in text))) = omega (arith, a.counted) in rw (none_given, n) (unfold answer_view reply in refl)

-- ---- the head, then the rows

module _ (numbered : Bool) (text : List ℕ) (s : Survey) (l : Listed numbered text s) (output : List ℕ) (room : length (converted_text numbered (some (listing_in text))) ≤ length output) where
  abbrev head : List ℕ
  head = text_line (head_letter (not numbered)) (converted_head numbered s)

  abbrev lines : List ℕ
  lines = flatten (map (text_line 68) (converted_from numbered 0 (rows_from text s.start)))

  both : length head + length lines ≤ length output
  both = omega (arith, room, ap length (converted_text_lem text s numbered l), length-append head lines)

  pub head_room : length head ≤ length output
  head_room = omega (arith, both)

  module _ {output' : List ℕ} {used : ℕ} (a : Appended output 0 head output' used) where
    pub rows_room : length output' ≡ length output → used + length lines ≤ length output'
    rows_room kept = omega (arith, both, a.counted, kept)

    pub all_converted : {output'' : List ℕ} {end : ℕ} → Appended output' used lines output'' end → Appended output 0 (converted_text numbered (some (listing_in text))) output'' end
    all_converted b = rw (converted_text_lem text s numbered l) (appended_then a b)

-- ---- the length, compared

module _ (rows text output fields : ℕ) (e : fields ≡ fields_length rows) where
  pub length_back : {numbered : Bool} → numbered ≡ true → ltb output (text - fields) ≡ ltb output (converted_length numbered rows text)
  unfolding converted_length
  length_back t = rw (t, e)

  pub length_under : {numbered : Bool} → numbered ≡ false → output < text → true ≡ ltb output (converted_length numbered rows text)
  unfolding converted_length
  length_under t h = rw t (sym (lt-ltb output (text + fields_length rows) (omega arith)))

  pub length_forth : {numbered : Bool} → numbered ≡ false → text ≤ output → ltb (output - text) fields ≡ ltb output (converted_length numbered rows text)
  unfolding converted_length
  length_forth t h = rw (t, e) (bool_ext (ltb (output - text) (fields_length rows)) (ltb output (text + fields_length rows))
      (λ y. let k = ltb-true (output - text) (fields_length rows) y in lt-ltb output (text + fields_length rows) (omega arith))
      (λ y. let k = ltb-true output (text + fields_length rows) y in lt-ltb (output - text) (fields_length rows) (omega arith)))
