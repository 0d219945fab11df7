-- The bit of a row in its word, and the bitmap with it. Assumes nothing.
use Rattle.bitmap.proofs.Prelude.{ℕ, suc, ◌+◌, ◌-◌, ◌*◌, ◌/◌, ◌%◌, ◌^◌, ◌<◌, ◌≡◌, refl, sym, ap, ◌∙◌, inl, inr, Bool, false, cond, ◌||◌, List, one-mul, zero-mul, pow-suc, ℕ_discrete, one-add, arith, bit_and, bit_or, and_high, or_add_and, eqb, length, get_or, set, length-set, pow_pos, shl_exact, get_or-set_same, get_or-set_other, eq-eqb, ne_eqb, eqb-true, eqb-false, or_no_left, or_no_right, split, bitmap_word_same, below_bitmap_word, bitmap_word_with, word_bits}
use Rattle.row_buffer.specs.Ranks.{set_below, bitmap_word, count_to}
use Rattle.bitmap.specs.inner.Bitmaps.{Bitmap, bit_of, Summarised, MarkedOne}

module _ (f : ℕ → Bool) (k n : ℕ) (h : k < n) where
  digit_of : bitmap_word f n / 2 ^ k % 2 ≡ cond (f k) 1 0
  unfolding set_below count_to
  digit_of = omega (arith, below_bitmap_word f k n (omega arith), below_bitmap_word f (suc k) n h)

  and_bit : bit_and (bitmap_word f n) (2 ^ k) ≡ cond (f k) (2 ^ k) 0
  and_bit =
      let e : 2 ^ k ≡ 2 ^ (1 + k) - 2 ^ k = rw (one-add k, pow-suc 2 k) (omega arith) in
      ap (bit_and (bitmap_word f n)) e ∙ and_high (bitmap_word f n) 1 k ∙ rw digit_of (elim (split (f k)) [ inl q ↦ rw q (one-mul (2 ^ k)) | inr q ↦ rw q (zero-mul (2 ^ k)) ])

  or_bit : bit_or (bitmap_word f n) (2 ^ k) ≡ bitmap_word (λ i. eqb i k || f i) n
  or_bit =
      rw (bitmap_word_with f k n h)
      (elim (split (f k)) [
        | inl q ↦ let a : bit_and (bitmap_word f n) (2 ^ k) ≡ 2 ^ k = and_bit ∙ rw q in rw q (omega (arith, or_add_and (bitmap_word f n) (2 ^ k)))
        | inr q ↦ let a : bit_and (bitmap_word f n) (2 ^ k) ≡ 0 = and_bit ∙ rw q in rw q (omega (arith, or_add_and (bitmap_word f n) (2 ^ k)))
      ])

  bit_read : bit_of (bitmap_word f n) k ≡ f k
  unfolding bit_of
  bit_read =
      ap (λ (d : ℕ). eqb d 1) digit_of ∙ elim (split (f k)) [ inl q ↦ rw q (eq-eqb 1 1 refl) | inr q ↦ rw q (ne_eqb 0 1 (λ e. omega arith)) ]

shifted : (place : ℕ) → place < 64 → (1 * 2 ^ place) % 2 ^ 64 ≡ 2 ^ place
shifted place h = shl_exact {a = 1} 1 place 64 (omega arith) (omega arith) ∙ one-mul (2 ^ place)

-- the bitmap with the bit of a row
module _ (words : List ℕ) (row : ℕ) (long : length words ≡ 1040) (h : row < 65536) where
  abbrev bit : ℕ
  bit = (1 * 2 ^ (row % 64)) % 2 ^ 64

  abbrev word : ℕ
  word = get_or words (row / 64) 0

  bit_is : bit ≡ 2 ^ (row % 64)
  bit_is = shifted (row % 64) (omega arith)

  -- the summary word, and the bit of the row's word in it
  abbrev over : ℕ
  over = 1024 + row / 64 / 64

  abbrev flags : ℕ
  flags = get_or words over 0

  abbrev flag : ℕ
  flag = (1 * 2 ^ (row / 64 % 64)) % 2 ^ 64

  abbrev one_set : List ℕ
  one_set = set words (row / 64) (bit_or word bit)

  abbrev words' : List ℕ
  words' = set one_set over (bit_or flags flag)

  long_after : length words' ≡ 1040
  long_after = length-set one_set over (bit_or flags flag) ∙ length-set words (row / 64) (bit_or word bit) ∙ long

  first_words : (w : ℕ) → w < 1024 → get_or words' w 0 ≡ get_or one_set w 0
  first_words w few = get_or-set_other one_set over w (bit_or flags flag) 0 (λ e. omega arith)

  other_words : (w : ℕ) → w < 1024 → (w ≡ row / 64 → ⊥) → get_or words' w 0 ≡ get_or words w 0
  other_words w few ne = first_words w few ∙ get_or-set_other words (row / 64) w (bit_or word bit) 0 ne

  module _ (small : flags < 2 ^ 64) (s : Summarised words) where
    flag_bits : (k : ℕ) → k < 64 → bit_of (bit_or flags flag) k ≡ (eqb k (row / 64 % 64) || bit_of flags k)
    flag_bits k b =
        let e : bit_or flags flag ≡ bitmap_word (λ i. eqb i (row / 64 % 64) || bit_of flags i) 64 =
        ap (λ (x : ℕ). bit_or x flag) (word_bits flags small)
        ∙ ap (bit_or (bitmap_word (λ i. bit_of flags i) 64)) (shifted (row / 64 % 64) (omega arith))
        ∙ or_bit (λ i. bit_of flags i) (row / 64 % 64) 64 (omega arith) in
        ap (λ (x : ℕ). bit_of x k) e ∙ bit_read (λ i. eqb i (row / 64 % 64) || bit_of flags i) k 64 b

    -- in the same group of 64 words, and in another
    same_group : (w : ℕ) → w < 1024 → w / 64 ≡ row / 64 / 64 → bit_of (get_or words' (1024 + w / 64) 0) (w % 64) ≡ false → get_or words' w 0 ≡ 0
    same_group w few g off =
        let here : get_or words' (1024 + w / 64) 0 ≡ bit_or flags flag =
        ap (λ (n : ℕ). get_or words' (1024 + n) 0) g
        ∙ get_or-set_same one_set over (bit_or flags flag) 0 (omega (arith, length-set words (row / 64) (bit_or word bit), long)) in
        let both : (eqb (w % 64) (row / 64 % 64) || bit_of flags (w % 64)) ≡ false =
        sym (flag_bits (w % 64) (omega arith)) ∙ sym (ap (λ (x : ℕ). bit_of x (w % 64)) here) ∙ off in
        let apart = eqb-false (w % 64) (row / 64 % 64) (or_no_left (eqb (w % 64) (row / 64 % 64)) _ both) in
        let before : bit_of (get_or words (1024 + w / 64) 0) (w % 64) ≡ false =
        ap (λ (n : ℕ). bit_of (get_or words (1024 + n) 0) (w % 64)) g ∙ or_no_right (eqb (w % 64) (row / 64 % 64)) _ both in
        other_words w few (λ e. apart (omega (arith, e))) ∙ s.empty w few before

    other_group : (w : ℕ) → w < 1024 → (w / 64 ≡ row / 64 / 64 → ⊥) → bit_of (get_or words' (1024 + w / 64) 0) (w % 64) ≡ false → get_or words' w 0 ≡ 0
    other_group w few g off =
        let same : get_or words' (1024 + w / 64) 0 ≡ get_or words (1024 + w / 64) 0 =
        get_or-set_other one_set over (1024 + w / 64) (bit_or flags flag) 0 (λ e. g (omega (arith, e)))
        ∙ get_or-set_other words (row / 64) (1024 + w / 64) (bit_or word bit) 0 (λ e. omega (arith, e)) in
        other_words w few (λ e. g (omega (arith, e))) ∙ s.empty w few (sym (ap (λ (x : ℕ). bit_of x (w % 64)) same) ∙ off)

    summarised_after : Summarised words'
    summarised_after =
        record {
          empty = λ w few off. elim (ℕ_discrete (w / 64) (row / 64 / 64)) [ yes g ↦ same_group w few g off | no g ↦ other_group w few g off ];
        }

  here : (i : ℕ) → i < 64 → eqb i (row % 64) ≡ eqb (64 * (row / 64) + i) row
  here i b = elim (split (eqb i (row % 64))) [
    | inl e ↦ e ∙ sym (eq-eqb _ row (omega (arith, eqb-true i (row % 64) e)))
    | inr e ↦ e ∙ sym (ne_eqb _ row (λ q. eqb-false i (row % 64) e (omega arith)))
  ]

  module _ (test : ℕ → Bool) (b : Bitmap words test) where
    abbrev of_word : ℕ → Bool
    of_word i = test (64 * (row / 64) + i)

    is_row : of_word (row % 64) ≡ test row
    is_row = let e : 64 * (row / 64) + row % 64 ≡ row = omega arith in rw e

    marked_before : bit_and word bit ≡ cond (test row) (2 ^ (row % 64)) 0
    marked_before =
        rw (bit_is, b.marked (row / 64) (omega arith))
        (and_bit of_word (row % 64) 64 (omega arith) ∙ rw is_row)

    one_more : Bitmap words' (λ i. eqb i row || test i)
    one_more =
        record {
          long = long_after;
          marked = λ w few. elim (ℕ_discrete w (row / 64)) [ yes e ↦ rw e same | no ne ↦ other w few ne ];
        }
      where
        other : (w : ℕ) → w < 1024 → (w ≡ row / 64 → ⊥) → get_or words' w 0 ≡ bitmap_word (λ i. eqb (64 * w + i) row || test (64 * w + i)) 64
        other w few ne =
            other_words w few ne
            ∙ b.marked w few
            ∙ bitmap_word_same _ _ 64 (λ i q. rw (ne_eqb (64 * w + i) row (λ e. ne (omega arith))))

        same : get_or words' (row / 64) 0 ≡ bitmap_word (λ i. eqb (64 * (row / 64) + i) row || of_word i) 64
        same =
            let e : bit_or word bit ≡ bitmap_word (λ i. eqb i (row % 64) || of_word i) 64 =
            rw (bit_is, b.marked (row / 64) (omega arith)) (or_bit of_word (row % 64) 64 (omega arith)) in
            first_words (row / 64) (omega arith) ∙ get_or-set_same words (row / 64) (bit_or word bit) 0 (omega arith) ∙ e ∙ bitmap_word_same _ _ 64 (λ i q. rw (here i q))

  pub marked_new : flags < 2 ^ 64 → bit_and word bit ≡ 0 → MarkedOne words row words' 1
  marked_new small z =
      record {
        long = long_after;
        summary = summarised_after small;
        one_more = one_more;
        new = λ test b. elim (split (test row)) [
          | inl e ↦ absurd (let n : 0 ≡ 2 ^ (row % 64) = sym z ∙ marked_before test b ∙ rw e in omega (arith, pow_pos (row % 64)))
          | inr e ↦ rw e
        ];
      }

  pub marked_already : flags < 2 ^ 64 → (bit_and word bit ≡ 0 → ⊥) → MarkedOne words row words' 0
  marked_already small nz =
      record {
        long = long_after;
        summary = summarised_after small;
        one_more = one_more;
        new = λ test b. elim (split (test row)) [ inl e ↦ rw e | inr e ↦ absurd (nz (marked_before test b ∙ rw e)) ];
      }
