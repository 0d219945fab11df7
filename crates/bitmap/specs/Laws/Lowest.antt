-- Laws of a bitmap word read from its lowest set bit up: its position, and the word without it. Assumes nothing.
use Rattle.std.specs.Prelude.{◌+◌, ◌-◌, ◌*◌, ◌/◌, ◌%◌, ◌^◌, ◌≤◌, ◌<◌, ◌≡◌, ◌&&◌}
use Rattle.bitmap.specs.Laws.Prelude.{ℕ, zero, suc, min, refl, sym, ◌∙◌, inl, inr, Bool, true, false, cond, false≢true, pow-suc, dec_lt, arith, bit_and, and_step, and_self, leb, pow_pos, le-leb, lt-leb, split}
use Rattle.std.specs.Int.Count.{count_trailing_zeros}
use Rattle.row_buffer.specs.Ranks.{bitmap_word}

-- the bitmap words of two tests that agree
pub bitmap_word_same : (f g : ℕ → Bool) (n : ℕ) → ((k : ℕ) → k < n → f k ≡ g k) → bitmap_word f n ≡ bitmap_word g n
unfolding bitmap_word
bitmap_word_same f g zero h = refl
bitmap_word_same f g (suc n) h = rw (bitmap_word_same f g n (λ k b. h k (omega arith)), h n (omega arith))

-- no bit is set
pub bitmap_word_none : (f : ℕ → Bool) (n : ℕ) → bitmap_word f n ≡ 0 → (k : ℕ) → k < n → f k ≡ false
unfolding bitmap_word
bitmap_word_none f zero e k h = absurd (omega arith)
bitmap_word_none f (suc n) e k h = elim (split (f n)) [
  | inl q ↦ absurd (let z : bitmap_word f n + 2 ^ n ≡ 0 = rw q at e in omega (arith, pow_pos n))
  | inr q ↦
      let z : bitmap_word f n + 0 ≡ 0 = rw q at e in
      elim (dec_lt k n) [ yes b ↦ bitmap_word_none f n (omega arith) k b | no b ↦ let s : k ≡ n = omega arith in rw s q ]
]

-- the lowest bit, and the word of the remaining positions shifted down by one
abbrev digit : Bool → ℕ
digit b = cond b 1 0

abbrev above : (ℕ → Bool) → ℕ → Bool
above f k = f (suc k)

bitmap_word_low : (f : ℕ → Bool) (n : ℕ) → bitmap_word f (suc n) ≡ digit (f 0) + 2 * bitmap_word (above f) n
unfolding bitmap_word
bitmap_word_low f zero = omega arith
bitmap_word_low f (suc n) =
    let h = bitmap_word_low f n in
    let p : 2 ^ suc n ≡ 2 ^ n * 2 = pow-suc 2 n in
    elim (split (f (suc n))) [ inl q ↦ rw q (omega arith) | inr q ↦ rw q (omega arith) ]

zeros_odd : (d m : ℕ) → m % 2 ≡ 1 → count_trailing_zeros (suc d) m ≡ 0
unfolding count_trailing_zeros
zeros_odd d m e = rw e

zeros_even : (d m : ℕ) → m % 2 ≡ 0 → count_trailing_zeros (suc d) m ≡ suc (count_trailing_zeros d (m / 2))
unfolding count_trailing_zeros
zeros_even d m e = rw e

-- the word without its lowest set bit: odd and even words
and_odd : (m h : ℕ) → m ≡ 1 + 2 * h → bit_and m (m - 1) ≡ h * 2
and_odd m h e =
    let a : m / 2 ≡ h = omega arith in
    let b : (m - 1) / 2 ≡ h = omega arith in
    let c : min (m % 2) ((m - 1) % 2) ≡ 0 = omega arith in
    and_step m (m - 1) ∙ rw (a, b, c, and_self h) (omega arith)

and_even : (m h : ℕ) → m ≡ 2 * h → 0 < h → bit_and m (m - 1) ≡ bit_and h (h - 1) * 2
and_even m h e some =
    let a : m / 2 ≡ h = omega arith in
    let b : (m - 1) / 2 ≡ h - 1 = omega arith in
    let c : min (m % 2) ((m - 1) % 2) ≡ 0 = omega arith in
    and_step m (m - 1) ∙ rw (a, b, c) (omega arith)

-- z is the position of the lowest set bit of m, and `m & (m - 1)` has the other bits
pub record Lowest (f : ℕ → Bool) (n m z : ℕ) : Type 0 where
  pub below : z < n
  pub set : f z ≡ true
  pub none : (k : ℕ) → k < z → f k ≡ false
  pub rest : (g : ℕ → Bool) → ((k : ℕ) → k < n → (k ≡ z → ⊥) → g k ≡ f k) → g z ≡ false → bit_and m (m - 1) ≡ bitmap_word g n

lowest : (d : ℕ) (f : ℕ → Bool) (n : ℕ) → n ≤ d → 0 < bitmap_word f n → Lowest f n (bitmap_word f n) (count_trailing_zeros d (bitmap_word f n))
lowest d f zero h some = absurd (let z : bitmap_word f 0 ≡ 0 = unfold bitmap_word in refl in omega arith)
lowest zero f (suc n) h some = absurd (omega arith)
lowest (suc d) f (suc n) h some = elim (split (f 0)) [ inl e ↦ odd e | inr e ↦ even e (λ some. lowest d (above f) n (omega arith) some) ]
  where
    odd : f 0 ≡ true → Lowest f (suc n) (bitmap_word f (suc n)) (count_trailing_zeros (suc d) (bitmap_word f (suc n)))
    odd e =
        let m : bitmap_word f (suc n) ≡ 1 + 2 * bitmap_word (above f) n = bitmap_word_low f n ∙ rw e in
        rw (zeros_odd d (bitmap_word f (suc n)) (omega arith))
        (record {
          below = omega arith;
          set = e;
          none = λ k b. absurd (omega arith);
          rest = λ g same off.
              let u : bitmap_word (above g) n ≡ bitmap_word (above f) n = bitmap_word_same _ _ n (λ k b. same (suc k) (omega arith) (λ q. omega arith)) in
              and_odd (bitmap_word f (suc n)) (bitmap_word (above f) n) m ∙ sym (bitmap_word_low g n ∙ rw (off, u) (omega arith));
        })

    even : f 0 ≡ false → (0 < bitmap_word (above f) n → Lowest (above f) n (bitmap_word (above f) n) (count_trailing_zeros d (bitmap_word (above f) n)))
        → Lowest f (suc n) (bitmap_word f (suc n)) (count_trailing_zeros (suc d) (bitmap_word f (suc n)))
    even e deeper =
        let m : bitmap_word f (suc n) ≡ 2 * bitmap_word (above f) n = bitmap_word_low f n ∙ rw e (omega arith) in
        let half : bitmap_word f (suc n) / 2 ≡ bitmap_word (above f) n = omega arith in
        let some_upper : 0 < bitmap_word (above f) n = omega arith in
        let l = deeper some_upper in
        rw (zeros_even d (bitmap_word f (suc n)) (omega arith), half)
        (record {
          below = omega (arith, l.below);
          set = l.set;
          none = λ k b. first e l.none k b;
          rest = λ g same off.
              let zero-off : g 0 ≡ false = same 0 (omega arith) (λ q. omega arith) ∙ e in
              let u = l.rest (above g) (λ k b ne. same (suc k) (omega arith) (λ q. ne (omega arith))) off in
              and_even (bitmap_word f (suc n)) (bitmap_word (above f) n) m some_upper ∙ sym (bitmap_word_low g n ∙ rw (zero-off, ← u) (omega arith));
        })
      where
        first : {z : ℕ} → f 0 ≡ false → ((k : ℕ) → k < z → f (suc k) ≡ false) → (k : ℕ) → k < suc z → f k ≡ false
        first e g zero b = e
        first e g (suc k) b = g k (omega arith)

-- ---- the bits from a position on

unfoldable pub onward : (ℕ → Bool) → ℕ → ℕ → Bool
onward f j k = leb j k && f k

module _ (f : ℕ → Bool) where
  onward_in : (j k : ℕ) → j ≤ k → onward f j k ≡ f k
  unfolding onward
  onward_in j k h = rw (le-leb j k h)

  onward_out : (j k : ℕ) → k < j → onward f j k ≡ false
  unfolding onward
  onward_out j k h = rw (lt-leb j k h)

  -- from position 0 on: all bits
  pub onward_all : (n : ℕ) → bitmap_word f n ≡ bitmap_word (onward f 0) n
  onward_all n = bitmap_word_same f (onward f 0) n (λ k h. sym (onward_in 0 k (omega arith)))

  -- the position of the next set bit
  pub record Next (j n m z : ℕ) : Type 0 where
    pub after : j ≤ z
    pub below : z < n
    pub set : f z ≡ true
    pub none : (k : ℕ) → j ≤ k → k < z → f k ≡ false
    pub rest : bit_and m (m - 1) ≡ bitmap_word (onward f (z + 1)) n

  module _ (j n m : ℕ) (e : m ≡ bitmap_word (onward f j) n) where
    pub next_bit : n ≤ 64 → (m ≡ 0 → ⊥) → Next j n m (count_trailing_zeros 64 m)
    next_bit few some =
        let l : Lowest (onward f j) n m (count_trailing_zeros 64 m) = rw e (lowest 64 (onward f j) n few (omega arith)) in
        let z = count_trailing_zeros 64 m in
        let after : j ≤ z = elim (dec_lt z j) [ yes h ↦ absurd (false≢true (sym (onward_out j z h) ∙ l.set)) | no h ↦ omega arith ] in
        record {
          after = after;
          below = l.below;
          set = sym (onward_in j z after) ∙ l.set;
          none = λ k h b. sym (onward_in j k h) ∙ l.none k b;
          rest = l.rest (onward f (z + 1)) (λ k h ne. elim (dec_lt k z) [
            | yes b ↦ onward_out (z + 1) k (omega arith) ∙ sym (l.none k b)
            | no b ↦ onward_in (z + 1) k (omega arith) ∙ sym (onward_in j k (omega arith))
          ]) (onward_out (z + 1) z (omega arith));
        }

    -- there is no further set bit
    pub no_more : m ≡ 0 → (k : ℕ) → j ≤ k → k < n → f k ≡ false
    no_more z k h b = sym (onward_in j k h) ∙ bitmap_word_none (onward f j) n (sym e ∙ z) k b
