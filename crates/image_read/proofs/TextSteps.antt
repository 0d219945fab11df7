-- The steps of reading an image's text: one law for each way that a function returns. Assumes nothing.
use Rattle.std.specs.Int.{to_le_bytes, w32}
use Rattle.image_read.proofs.Prelude.{ℕ, zero, suc, ◌+◌, ◌*◌, ◌/◌, ◌%◌, ◌≤◌, ◌<◌, ◌≡◌, refl, sym, ap, ◌∙◌, List, [], ◌∷◌, ◌++◌, append-nil, none, some, arith, length, take, drop, get_or, set, length-drop, drop_of_length-le, drop-cons, take-length, get_or-drop, get_or-take, length-take-le, lt-ltb, le-ltb, copy_step, bytes_of, Reads, Layout, bytes_cons, length_bytes, byte_of, text_length, TextIn}
use Rattle.lists.specs.Lists.{splice}
use Rattle.std.specs.Prelude.{Ok, Err}
use Rattle.refusals.specs.declared.Refusal.TheVariants.{TooShort, NoImage}
use Rattle.refusals.specs.Refusals.{first_refusal, reply, answer_view}
use Rattle.image_spec.specs.Outcomes.{text_refusal, text_of, TextRead}
use Rattle.image_check.specs.inner.Parsed.{image_in, IsAt}
use mathlib.Core.Option.{Option-elim}

-- ---- `byte_at`

below_four : (P : ℕ → Type 0) → P 0 → P 1 → P 2 → P 3 → (r : ℕ) → r < 4 → P r
below_four P a b c d zero h = a
below_four P a b c d (suc zero) h = b
below_four P a b c d (suc (suc zero)) h = c
below_four P a b c d (suc (suc (suc zero))) h = d
below_four P a b c d (suc (suc (suc (suc r)))) h = absurd (omega arith)

module _ (words : List ℕ) (i : ℕ) (t : TextIn words (i + 1)) where
  here : bytes_of (drop (i / 4) (drop 15 words)) ≡ bytes_of (get_or words (15 + i / 4) 0 ∷ drop (suc (i / 4)) (drop 15 words))
  here =
      let k : i / 4 < length (drop 15 words) = rw (length-drop 15 words) (omega (arith, t.long)) in
      ap bytes_of (drop-cons (drop 15 words) (i / 4) 0 k ∙ ap (λ (w : ℕ). w ∷ drop (suc (i / 4)) (drop 15 words)) (get_or-drop 15 words (i / 4) 0))

  at_place : (r : ℕ) → i % 4 ≡ r → get_or (bytes_of (drop 15 words)) i 0 ≡ get_or (bytes_of (get_or words (15 + i / 4) 0 ∷ drop (suc (i / 4)) (drop 15 words))) r 0
  at_place r e =
      let n : i ≡ 4 * (i / 4) + r = omega arith in
      ap (λ (m : ℕ). get_or (bytes_of (drop 15 words)) m 0) n ∙ byte_of (i / 4) r (drop 15 words) ∙ ap (λ (b : List ℕ). get_or b r 0) here

  pub byte_is : get_or (to_le_bytes w32 (get_or words (15 + i / 4) 0)) (i % 4) 0 ≡ get_or (bytes_of (drop 15 words)) i 0
  byte_is =
      below_four (λ (r : ℕ). i % 4 ≡ r → get_or (to_le_bytes w32 (get_or words (15 + i / 4) 0)) r 0 ≡ get_or (bytes_of (drop 15 words)) i 0)
      (λ e. sym (at_place 0 e ∙ rw bytes_cons)) (λ e. sym (at_place 1 e ∙ rw bytes_cons)) (λ e. sym (at_place 2 e ∙ rw bytes_cons)) (λ e. sym (at_place 3 e ∙ rw bytes_cons))
      (i % 4) (omega arith) refl

-- ---- `write_text`

pub text_before : (words : List ℕ) (count i : ℕ) → TextIn words count → i < count → TextIn words (i + 1)
text_before words count i t k = record { few = omega (arith, t.few); long = omega (arith, t.long) }

module _ (words : List ℕ) (count : ℕ) (t : TextIn words count) where
  abbrev text : List ℕ
  text = take count (bytes_of (drop 15 words))

  pub count_is : length text ≡ count
  count_is =
      length-take-le count (bytes_of (drop 15 words)) (rw (length_bytes, length-drop) (omega (arith, t.long)))

  -- one more byte is written
  pub text_step : (output : List ℕ) (i b : ℕ) → i < count → count ≤ length output → b ≡ get_or (bytes_of (drop 15 words)) i 0
      → set (take i text ++ drop i output) i b ≡ take (i + 1) text ++ drop (i + 1) output
  text_step output i b k long e =
      let f : b ≡ get_or text i 0 = e ∙ sym (get_or-take count (bytes_of (drop 15 words)) i 0 k) in
      ap (λ (x : ℕ). set (take i text ++ drop i output) i x) f ∙ copy_step text output i 0 (omega (arith, count_is)) (omega arith)

  -- all bytes are
  pub text_end : (output : List ℕ) (i : ℕ) (part : List ℕ) → count ≤ length output → i ≡ count → part ≡ take i text ++ drop i (take count output)
      → part ++ drop count output ≡ splice output 0 text
  unfolding splice
  text_end output i part long e p =
      let n : i ≡ length text = e ∙ sym count_is in
      let none_left : drop i (take count output) ≡ [] = drop_of_length-le (take count output) (omega (arith, length-take-le count output long)) in
      let whole : part ≡ text = p ∙ rw (none_left, append-nil (take i text), n, take-length text) in
      let m : 0 + length text ≡ count = omega (arith, count_is) in
      rw (whole, m)

-- ---- `read_text`

pub text_none : (words output : List ℕ) → Reads words none → TextRead words output (Err NoImage) output
unfolding answer_view text_refusal text_of Option-elim reply
text_none words output n =
    record { image = none; reads = n; effect = record { answers = refl; unchanged = λ _. refl; written = λ z. absurd (omega arith) } }

module _ (words output : List ℕ) (l : Layout) (t : IsAt words l) where
  pub text_in : TextIn words l.text
  text_in =
      let p = t.placed in
      record { few = p.few; long = omega (arith, t.counted, p.rows_at, p.sorts_at, p.pending_at, p.end_at) }

  length_is : length (image_in words l).text ≡ l.text
  unfolding image_in
  length_is = text_length words l t.placed t.counted

  pub text_short : length output < l.text → TextRead words output (Err TooShort) output
  text_short k =
      let n : text_refusal (some (image_in words l)) (length output) ≡ 2 = refused_by in
      record {
        image = some (image_in words l);
        reads = t.reads;
        effect =
            record {
              answers = rw n answer_is;
              unchanged = λ _. refl;
              written = λ z. absurd (omega (arith, n, z));
            };
      }
    where
      refused_by : text_refusal (some (image_in words l)) (length output) ≡ 2
      refused_by = unfold text_refusal Option-elim first_refusal in rw (length_is, lt-ltb _ _ k)

      answer_is : answer_view {A = ℕ} (Err TooShort) ≡ reply 2 (length (text_of (some (image_in words l))))
      answer_is = unfold answer_view reply in refl

  pub text_written : l.text ≤ length output → (output' : List ℕ) → output' ≡ splice output 0 (take l.text (bytes_of (drop 15 words))) → TextRead words output (Ok l.text) output'
  text_written k output' e =
      let n : text_refusal (some (image_in words l)) (length output) ≡ 0 = accepted_by in
      record {
        image = some (image_in words l);
        reads = t.reads;
        effect =
            record {
              answers = rw n answer_is;
              unchanged = λ z. absurd (omega (arith, n, z));
              written = λ _. e ∙ text_is;
            };
      }
    where
      accepted_by : text_refusal (some (image_in words l)) (length output) ≡ 0
      accepted_by = unfold text_refusal Option-elim first_refusal in rw (length_is, le-ltb _ _ k)

      answer_is : answer_view (Ok l.text) ≡ reply 0 (length (text_of (some (image_in words l))))
      answer_is = unfold answer_view reply text_of Option-elim in rw length_is

      text_is : splice output 0 (take l.text (bytes_of (drop 15 words))) ≡ splice output 0 (text_of (some (image_in words l)))
      text_is = unfold text_of Option-elim image_in in refl
