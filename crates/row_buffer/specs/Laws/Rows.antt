-- Laws of the new numbers of rows. How a bitmap word grows. The count of ones below a row's bit is the number of live rows before
-- it in the word. Where a compaction moves each kept row. How positions in a store correspond to its rows. Assumes nothing.
use Prim.Native.Nat.{ℕ, zero, suc, ◌+◌, ◌-◌, ◌*◌, ◌/◌, ◌%◌, ◌^◌, ◌≤◌, ◌<◌}
use Rattle.std.specs.Prelude.{◌≡◌, Bool, true, false, length, take, drop, get_or, set}
use Rattle.std.proofs.Math.Path.{refl, sym, ap, ap₂}
use Rattle.std.proofs.Common.{◌∙◌, zero-add, suc-add, add_assoc, mul_assoc, mul_comm, mod-lt, mod-eq_of_lt, add-one, one-add, pow_pos, pow-add, take-take}
use Rattle.std.proofs.Math.Logic.{inl, inr}
use Rattle.std.proofs.Math.Bool.{cond}
use Rattle.std.proofs.lemmas.Bool.{false≢true}
use mathlib.Core.List.{List, [], ◌∷◌}
use Rattle.std.proofs.Math.Nat.{add-zero, add_comm, zero-mul, one-mul, pow-suc, add-mul-mod_self_right}
use Rattle.std.proofs.Math.Decide.{dec_lt}
use native.Mathlib.Omega.{arith}
use Rattle.std.proofs.lemmas.Nat.{mod-pow-add, ones-le}
use Rattle.std.specs.Int.Count.{ones, ones_cat}
use Rattle.lists.specs.Lists.{filter, count, row_at, rows_of}
use Rattle.lists.specs.Laws.Filter.{split}
use Rattle.lists.specs.Laws.Rows.{rows_of_set}
use Rattle.row_buffer.specs.Ranks.{set_below, bitmap_word, count_to, live_at, live_word, new_number}

-- ---- binary digits

one_digit : (b : ℕ) → b < 2 → ones b ≡ b
unfolding ones
one_digit zero h = refl
one_digit (suc zero) h = refl
one_digit (suc (suc b)) h = absurd (omega arith)

-- the number of digits set below a position is the number of ones of the masked word
pub ones_below : (word bit : ℕ) → ones (word % 2 ^ bit) ≡ set_below word bit
unfolding set_below
ones_below word zero = let z : word % 1 ≡ 0 = omega arith in ap ones z ∙ one_digit 0 (omega arith)
ones_below word (suc bit) =
    ap (λ (n : ℕ). ones (word % 2 ^ n)) (sym (one-add bit))
    ∙ ap ones (mod-pow-add word 1 bit)
    ∙ ones_cat bit (word / 2 ^ bit % 2 ^ 1) (word % 2 ^ bit) (mod-lt word (pow_pos bit))
    ∙ ap₂ (λ (a b : ℕ). a + b) (one_digit (word / 2 ^ bit % 2 ^ 1) (omega arith)) (ones_below word bit)
    ∙ add_comm (word / 2 ^ bit % 2) (set_below word bit)

pub set_below_le : (word bit : ℕ) → set_below word bit ≤ bit
set_below_le word bit = rw (← ones_below word bit) (ones-le bit (word % 2 ^ bit) (mod-lt word (pow_pos bit)))

-- ---- bitmap words

module _ (f : ℕ → Bool) where
  -- one more position: set, or not
  pub bitmap_word_yes : (n : ℕ) → f n ≡ true → bitmap_word f (n + 1) ≡ bitmap_word f n + 2 ^ n
  unfolding bitmap_word
  bitmap_word_yes n e = rw (add-one, e)

  pub bitmap_word_no : (n : ℕ) → f n ≡ false → bitmap_word f (n + 1) ≡ bitmap_word f n
  unfolding bitmap_word
  bitmap_word_no n e = rw (add-one, e) (add-zero (bitmap_word f n))

  -- a bitmap word of n positions is below 2 ^ n
  pub bitmap_word_lt : (n : ℕ) → bitmap_word f n < 2 ^ n
  unfolding bitmap_word
  bitmap_word_lt zero = omega arith
  bitmap_word_lt (suc n) =
      let h = bitmap_word_lt n in
      let e : 2 ^ suc n ≡ 2 ^ n * 2 = pow-suc 2 n in
      elim (split (f n)) [ inl q ↦ rw q (omega arith) | inr q ↦ rw q (omega arith) ]

  -- the digit of a position
  digit : ℕ → ℕ
  digit n = cond (f n) 1 0

  digit_lt : (n : ℕ) → digit n < 2
  unfolding digit
  digit_lt n = elim (split (f n)) [ inl e ↦ rw e (omega arith) | inr e ↦ rw e (omega arith) ]

  bitmap_word_digit : (n : ℕ) → bitmap_word f (suc n) ≡ bitmap_word f n + digit n * 2 ^ n
  unfolding bitmap_word digit
  bitmap_word_digit n = elim (split (f n)) [ inl e ↦ rw (e, one-mul (2 ^ n)) | inr e ↦ rw (e, zero-mul (2 ^ n)) ]

  count_to_digit : (n : ℕ) → count_to f (suc n) ≡ count_to f n + digit n
  unfolding count_to digit
  count_to_digit n = refl

  -- the number of ones of a bitmap word of n positions
  ones_bitmap_word : (n : ℕ) → ones (bitmap_word f n) ≡ count_to f n
  unfolding bitmap_word count_to
  ones_bitmap_word zero = one_digit 0 (omega arith)
  ones_bitmap_word (suc n) =
      ap ones (bitmap_word_digit n ∙ add_comm (bitmap_word f n) (digit n * 2 ^ n))
      ∙ ones_cat n (digit n) (bitmap_word f n) (bitmap_word_lt n)
      ∙ ap₂ (λ (a b : ℕ). a + b) (one_digit (digit n) (digit_lt n)) (ones_bitmap_word n)
      ∙ add_comm (digit n) (count_to f n)
      ∙ sym (count_to_digit n)

  -- masked below n, a longer word is the word of n positions
  pub bitmap_word_mod : (n j : ℕ) → bitmap_word f (n + j) % 2 ^ n ≡ bitmap_word f n
  bitmap_word_mod n zero = rw add-zero (mod-eq_of_lt (bitmap_word_lt n))
  bitmap_word_mod n (suc j) =
      let e : n + suc j ≡ suc (n + j) = omega arith in
      let p : digit (n + j) * 2 ^ (n + j) ≡ digit (n + j) * 2 ^ j * 2 ^ n =
      ap (λ (x : ℕ). digit (n + j) * x) (pow-add 2 n j ∙ mul_comm (2 ^ n) (2 ^ j)) ∙ sym (mul_assoc (digit (n + j)) (2 ^ j) (2 ^ n)) in
      rw e
      (ap (λ (x : ℕ). x % 2 ^ n) (bitmap_word_digit (n + j) ∙ ap (λ (x : ℕ). bitmap_word f (n + j) + x) p)
      ∙ add-mul-mod_self_right (bitmap_word f (n + j)) (digit (n + j) * 2 ^ j) (2 ^ n)
      ∙ bitmap_word_mod n j)

  -- "the count of ones below its bit" is the number of set positions below it
  pub below_bitmap_word : (bit n : ℕ) → bit ≤ n → set_below (bitmap_word f n) bit ≡ count_to f bit
  below_bitmap_word bit n h =
      let e : n ≡ bit + (n - bit) = omega arith in
      rw e (sym (ones_below (bitmap_word f (bit + (n - bit))) bit) ∙ ap ones (bitmap_word_mod bit (n - bit)) ∙ ones_bitmap_word bit)

-- ---- new numbers

module _ {A : Type 0} (live : A → Bool) where
  pub live_at_in : (rows : List A) (i : ℕ) (d : A) → i < length rows → live_at live rows i ≡ live (get_or rows i d)
  unfolding live_at
  live_at_in [] i d h = absurd (omega arith)
  live_at_in (row ∷ rows) zero d h = refl
  live_at_in (row ∷ rows) (suc i) d h = live_at_in rows i d (omega arith)

  -- the bitmap word of the rows from `start` on: empty, one more row, live or not
  module _ (rows : List A) (start : ℕ) where
    pub word_none : live_word live rows start 0 ≡ 0
    unfolding live_word bitmap_word
    word_none = refl

    pub word_live : (n : ℕ) → live_at live rows (start + n) ≡ true → live_word live rows start (n + 1) ≡ live_word live rows start n + 2 ^ n
    unfolding live_word
    word_live n e = bitmap_word_yes (λ bit. live_at live rows (start + bit)) n e

    pub word_dead : (n : ℕ) → live_at live rows (start + n) ≡ false → live_word live rows start (n + 1) ≡ live_word live rows start n
    unfolding live_word
    word_dead n e = bitmap_word_no (λ bit. live_at live rows (start + bit)) n e

    pub word_lt : (n : ℕ) → live_word live rows start n < 2 ^ n
    unfolding live_word
    word_lt n = bitmap_word_lt (λ bit. live_at live rows (start + bit)) n

  number_digit : (rows : List A) (i : ℕ) → new_number live rows (suc i) ≡ new_number live rows i + cond (live_at live rows i) 1 0
  unfolding new_number live_at count
  number_digit [] zero = refl
  number_digit [] (suc i) = refl
  number_digit (row ∷ rows) zero = sym (zero-add (cond (live row) 1 0))
  number_digit (row ∷ rows) (suc i) =
      let h = number_digit rows i in
      elim (split (live row)) [ inl e ↦ rw (e, h, suc-add) | inr e ↦ rw (e, h) ]

  -- the number increases by one over a live row, and not over a dead one
  pub number_live : (rows : List A) (i : ℕ) → live_at live rows i ≡ true → new_number live rows (i + 1) ≡ new_number live rows i + 1
  number_live rows i e = rw (add-one i) (number_digit rows i ∙ rw e)

  pub number_dead : (rows : List A) (i : ℕ) → live_at live rows i ≡ false → new_number live rows (i + 1) ≡ new_number live rows i
  number_dead rows i e = rw add-one (number_digit rows i ∙ rw e (add-zero (new_number live rows i)))

  pub number_zero : (rows : List A) → new_number live rows 0 ≡ 0
  unfolding new_number count
  number_zero rows = refl

  number_grows : (rows : List A) (i k : ℕ) → new_number live rows i ≤ new_number live rows (i + k)
  number_grows rows i zero = rw add-zero (omega arith)
  number_grows rows i (suc k) =
      let e : i + suc k ≡ suc (i + k) = omega arith in
      rw e (omega (arith, number_grows rows i k, number_digit rows (i + k)))

  -- the numbers of live rows rise strictly
  pub number_rises : (rows : List A) (i j : ℕ) → i < j → live_at live rows i ≡ true → new_number live rows i < new_number live rows j
  number_rises rows i j h e =
      let k : j ≡ i + 1 + (j - (i + 1)) = omega arith in
      let up : new_number live rows (i + 1) ≤ new_number live rows j = rw k (number_grows rows (i + 1) (j - (i + 1))) in
      omega (arith, number_live rows i e)

  -- each number below that of row n is the number of an earlier live row
  pub number_onto : (rows : List A) (n k : ℕ) → k < new_number live rows n → (i : ℕ) × (i < n) × (live_at live rows i ≡ true) × (new_number live rows i ≡ k)
  number_onto rows zero k h = absurd (omega (arith, number_zero rows))
  number_onto rows (suc n) k h = elim (dec_lt k (new_number live rows n)) [
    | yes b ↦ let g = number_onto rows n k b in (g.0, omega (arith, g.1), g.2, g.3)
    | no b ↦ elim (split (live_at live rows n)) [
      | inl e ↦ let d : new_number live rows (suc n) ≡ new_number live rows n + 1 = number_digit rows n ∙ rw e in (n, omega arith, e, omega arith)
      | inr e ↦ let d : new_number live rows (suc n) ≡ new_number live rows n + 0 = number_digit rows n ∙ rw e in absurd (omega arith)
    ]
  ]

  number_upto : (rows : List A) (start k : ℕ)
      → new_number live rows start + count_to (λ bit. live_at live rows (start + bit)) k ≡ new_number live rows (start + k)
  unfolding count_to
  number_upto rows start zero = add-zero (new_number live rows start) ∙ ap (new_number live rows) (sym (add-zero start))
  number_upto rows start (suc k) =
      let e : suc (start + k) ≡ start + suc k = omega arith in
      let d : ℕ = cond (live_at live rows (start + k)) 1 0 in
      sym (add_assoc (new_number live rows start) (count_to (λ bit. live_at live rows (start + bit)) k) d)
      ∙ ap (λ (x : ℕ). x + d) (number_upto rows start k)
      ∙ sym (number_digit rows (start + k))
      ∙ ap (new_number live rows) e

  -- a row's new number: the number of live rows before its word, plus the count of ones below its bit
  pub number_rank : (rows : List A) (start n bit : ℕ) → bit ≤ n
      → new_number live rows start + set_below (live_word live rows start n) bit ≡ new_number live rows (start + bit)
  unfolding live_word
  number_rank rows start n bit h =
      ap (λ (x : ℕ). new_number live rows start + x) (below_bitmap_word (λ b. live_at live rows (start + b)) bit n h) ∙ number_upto rows start bit

  -- a live row is at its new number among the live rows
  pub filter_at : (rows : List A) (i : ℕ) (d : A) → live_at live rows i ≡ true → get_or (filter live rows) (new_number live rows i) d ≡ get_or rows i d
  unfolding filter count new_number live_at
  filter_at [] i d e = absurd (false≢true e)
  filter_at (row ∷ rows) zero d e = rw e
  filter_at (row ∷ rows) (suc i) d e =
      let h = filter_at rows i d e in
      elim (split (live row)) [ inl q ↦ rw q h | inr q ↦ rw q h ]

-- ---- rows of a store

-- a row's key, at the position that `same_key` reads
pub key_row : (w i k : ℕ) (store : List ℕ) → k ≤ w → take k (row_at w i store) ≡ take k (drop (i * w) store)
unfolding row_at
key_row w i k store h = take-take k w (drop (i * w) store) h

module _ (w n i : ℕ) (store : List ℕ) (some : 0 < w) (in_count : i < n) where
  -- the rows after `set_stale`
  pub stale_rows : rows_of w n (set store (i * w) 4294967295) ≡ set (rows_of w n store) i (set (row_at w i store) 0 4294967295)
  stale_rows =
      ap (λ (k : ℕ). rows_of w n (set store k 4294967295)) (sym (add-zero (i * w))) ∙ rows_of_set w n i 0 store 4294967295 in_count some
