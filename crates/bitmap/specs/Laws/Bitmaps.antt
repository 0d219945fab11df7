-- Laws of bitmaps: all words of 64 bits are one; the empty bitmap; setting one bit; passes that set one bit after another. Assumes
-- nothing.
use Rattle.std.specs.Prelude.{◌+◌, ◌*◌, ◌/◌, ◌%◌, ◌^◌, ◌≤◌, ◌<◌, ◌≡◌, ◌||◌}
use Rattle.bitmap.specs.Laws.Prelude.{ℕ, zero, suc, refl, sym, ap, ◌∙◌, inl, inr, Bool, true, false, cond, false≢true, List, add-zero, add_assoc, mod-eq_of_lt, dec_lt, one-add, arith, eqb, length, get_or, replicate, length-replicate, get_or-replicate, mod-pow-add, eq-eqb, ne_eqb, eqb-true, split, or_right, or_second}
use Rattle.bitmap.specs.Laws.Lowest.{bitmap_word_same}
use Rattle.row_buffer.specs.Ranks.{bitmap_word, count_to}
use Rattle.bitmap.specs.inner.Bitmaps.{Bitmap, bit_of, Summarised, MarkedOne, Marked}

-- ---- setting one bit, in a sum over the bits; words and counts are such sums

unfoldable sum_to : (ℕ → ℕ) → (ℕ → Bool) → ℕ → ℕ
sum_to weight f zero = 0
sum_to weight f (suc n) = sum_to weight f n + cond (f n) (weight n) 0

bitmap_word_sum : (f : ℕ → Bool) (n : ℕ) → bitmap_word f n ≡ sum_to (λ i. 2 ^ i) f n
unfolding bitmap_word sum_to
bitmap_word_sum f zero = refl
bitmap_word_sum f (suc n) = rw (bitmap_word_sum f n)

count_sum : (f : ℕ → Bool) (n : ℕ) → count_to f n ≡ sum_to (λ i. 1) f n
unfolding count_to sum_to
count_sum f zero = refl
count_sum f (suc n) = rw (count_sum f n)

module _ (weight : ℕ → ℕ) (f : ℕ → Bool) (k : ℕ) where
  sum_before : (n : ℕ) → n ≤ k → sum_to weight (λ i. eqb i k || f i) n ≡ sum_to weight f n
  unfolding sum_to
  sum_before zero h = refl
  sum_before (suc n) h = rw (ne_eqb n k (λ e. omega arith), sum_before n (omega arith))

  sum_with : (n : ℕ) → k < n → sum_to weight (λ i. eqb i k || f i) n ≡ sum_to weight f n + cond (f k) 0 (weight k)
  unfolding sum_to
  sum_with zero h = absurd (omega arith)
  sum_with (suc n) h = elim (dec_lt k n) [
    | yes b ↦ rw (ne_eqb n k (λ e. omega arith), sum_with n b) (omega arith)
    | no b ↦
        let e : n ≡ k = omega arith in
        rw (eq-eqb n k e, sum_before n (omega arith), e) (elim (split (f k)) [ inl q ↦ rw q (omega arith) | inr q ↦ rw q (omega arith) ])
  ]

-- a bitmap word with one more bit
pub bitmap_word_with : (f : ℕ → Bool) (k n : ℕ) → k < n → bitmap_word (λ i. eqb i k || f i) n ≡ bitmap_word f n + cond (f k) 0 (2 ^ k)
bitmap_word_with f k n h = bitmap_word_sum _ n ∙ sum_with (λ i. 2 ^ i) f k n h ∙ ap (λ (x : ℕ). x + cond (f k) 0 (2 ^ k)) (sym (bitmap_word_sum f n))

-- the number of bits
pub count_with : (f : ℕ → Bool) (k n : ℕ) → k < n → count_to (λ i. eqb i k || f i) n ≡ count_to f n + cond (f k) 0 1
count_with f k n h = count_sum _ n ∙ sum_with (λ i. 1) f k n h ∙ ap (λ (x : ℕ). x + cond (f k) 0 1) (sym (count_sum f n))

-- ---- bitmaps

sum_none : (weight : ℕ → ℕ) (n : ℕ) → sum_to weight (λ i. false) n ≡ 0
unfolding sum_to
sum_none weight zero = refl
sum_none weight (suc n) = add-zero (sum_to weight (λ i. false) n) ∙ sum_none weight n

-- the initial bitmap: no row is set
pub bitmap_none : Bitmap (replicate 1040 0) (λ i. false)
bitmap_none = record { long = length-replicate {A = ℕ} 1040 0; marked = λ w h. get_or-replicate 1040 w 0 0 (omega arith) ∙ sym (bitmap_word_sum _ 64 ∙ sum_none (λ i. 2 ^ i) 64) }

pub summarised_none : Summarised (replicate 1040 0)
summarised_none = record { empty = λ w h off. get_or-replicate 1040 w 0 0 (omega arith) }

pub count_none : (n : ℕ) → count_to (λ i. false) n ≡ 0
count_none n = count_sum _ n ∙ sum_none (λ i. 1) n

-- any words of 64 bits are a bitmap, of the rows whose bit is set
unfoldable pub bit_set : List ℕ → ℕ → Bool
bit_set words i = eqb (get_or words (i / 64) 0 / 2 ^ (i % 64) % 2) 1

digits_bitmap_word : (word n : ℕ) → bitmap_word (λ bit. eqb (word / 2 ^ bit % 2) 1) n ≡ word % 2 ^ n
unfolding bitmap_word
digits_bitmap_word word zero = omega arith
digits_bitmap_word word (suc n) =
    let e : word % 2 ^ suc n ≡ word / 2 ^ n % 2 * 2 ^ n + word % 2 ^ n = rw (← one-add n) (mod-pow-add word 1 n) in
    rw (e, digits_bitmap_word word n) (elim (dec_lt (word / 2 ^ n % 2) 1) [
      | yes b ↦ let z : word / 2 ^ n % 2 ≡ 0 = omega arith in rw z (omega arith)
      | no b ↦ let o : word / 2 ^ n % 2 ≡ 1 = omega arith in rw o (omega arith)
    ])

-- a word of 64 bits is the bitmap word of its bits
pub word_bits : (word : ℕ) → word < 2 ^ 64 → word ≡ bitmap_word (λ bit. bit_of word bit) 64
unfolding bit_of
word_bits word h = sym (digits_bitmap_word word 64 ∙ mod-eq_of_lt h)

pub bitmap_of : (words : List ℕ) → length words ≡ 1040 → ((w : ℕ) → get_or words w 0 < 2 ^ 64) → Bitmap words (bit_set words)
unfolding bit_set
bitmap_of words long bits =
    record {
      long = long;
      marked = λ w h. sym (bitmap_word_same _ (λ bit. eqb (get_or words w 0 / 2 ^ bit % 2) 1) 64 (λ bit b. same w bit b) ∙ digits_bitmap_word (get_or words w 0) 64 ∙ mod-eq_of_lt (bits w));
    }
  where
    same : (w bit : ℕ) → bit < 64 → bit_set words (64 * w + bit) ≡ eqb (get_or words w 0 / 2 ^ bit % 2) 1
    same w bit b =
        let place : (64 * w + bit) / 64 ≡ w = omega arith in
        let rest : (64 * w + bit) % 64 ≡ bit = omega arith in
        rw (place, rest)

-- ---- passes that set bits

pub marked_one : {allowed : ℕ → Bool} {words words' : List ℕ} {row more : ℕ}
    → MarkedOne words row words' more → row < 65536 → allowed row ≡ true
    → Marked allowed (λ i. eqb i row) words words' more
marked_one {row = row} m h a =
    record {
      long = λ _. m.long;
      summary = m.summary;
      adds = λ test b. (
        λ i. eqb i row || test i,
        record {
          kept = λ i t. or_right (eqb i row) (test i) t;
          allowed_only = λ i out now.
              elim (split (eqb i row)) [
                | inl e ↦ rw (eqb-true i row e) a
                | inr e ↦ absurd (false≢true (sym out ∙ or_second (eqb i row) (test i) now e))
              ];
          all_needed = λ i e. rw e;
        },
        m.one_more test b,
        count_with test row 65536 h ∙ ap (λ (x : ℕ). count_to test 65536 + x) (sym (m.new test b)),
      );
    }

pub marked_none : {allowed : ℕ → Bool} {words : List ℕ} → Marked allowed (λ i. false) words words 0
marked_none =
    record {
      long = λ e. e;
      summary = λ s. s;
      adds = λ test b. (
        test,
        record { kept = λ i t. t; allowed_only = λ i out now. absurd (false≢true (sym out ∙ now)); all_needed = λ i e. absurd (false≢true e) },
        b,
        sym (add-zero (count_to test 65536)),
      );
    }

pub marked_then : {allowed needed needed' : ℕ → Bool} {words words' words'' : List ℕ} {a b : ℕ}
    → Marked allowed needed words words' a → Marked allowed needed' words' words'' b
    → Marked allowed (λ i. needed i || needed' i) words words'' (a + b)
marked_then {allowed} {needed} {needed'} {a = a} {b} m n =
    record {
      long = λ e. n.long (m.long e);
      summary = λ s. n.summary (m.summary s);
      adds = λ test bitmap.
          let u = m.adds test bitmap in
          let v = n.adds u.0 u.2 in (
            v.0,
            record {
              kept = λ i t. v.1.kept i (u.1.kept i t);
              allowed_only = λ i out now.
                  elim (split (u.0 i)) [ inl e ↦ u.1.allowed_only i out e | inr e ↦ v.1.allowed_only i e now ];
              all_needed = λ i e.
                  elim (split (needed i)) [
                    | inl q ↦ v.1.kept i (u.1.all_needed i q)
                    | inr q ↦ v.1.all_needed i (or_second (needed i) (needed' i) e q)
                  ];
            },
            v.2,
            v.3 ∙ ap (λ (x : ℕ). x + b) u.3 ∙ add_assoc (count_to test 65536) a b,
          );
    }

-- weakening: more rows allowed, fewer needed
pub marked_weaker : {allowed needed allowed' needed' : ℕ → Bool} {words words' : List ℕ} {more : ℕ}
    → ((i : ℕ) → allowed i ≡ true → allowed' i ≡ true) → ((i : ℕ) → needed' i ≡ true → needed i ≡ true)
    → Marked allowed needed words words' more → Marked allowed' needed' words words' more
marked_weaker wider fewer m =
    record {
      long = m.long;
      summary = m.summary;
      adds = λ test b.
          let u = m.adds test b in (
            u.0,
            record {
              kept = u.1.kept;
              allowed_only = λ i out now. wider i (u.1.allowed_only i out now);
              all_needed = λ i e. u.1.all_needed i (fewer i e);
            },
            u.2,
            u.3,
          );
    }

-- there are at most n
pub count_to_le : (f : ℕ → Bool) (n : ℕ) → count_to f n ≤ n
unfolding count_to
count_to_le f zero = omega arith
count_to_le f (suc n) = let h = count_to_le f n in elim (split (f n)) [ inl q ↦ rw q (omega arith) | inr q ↦ rw q (omega arith) ]

pub marked_few : {allowed needed test : ℕ → Bool} {words words' : List ℕ} {more : ℕ} → Marked allowed needed words words' more → Bitmap words test → more ≤ 65536
marked_few {test = test} m b = let u = m.adds test b in omega (arith, u.3, count_to_le u.0 65536)
