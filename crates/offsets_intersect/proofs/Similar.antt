-- Lists of similar length: the two halves of the test. Assumes nothing.
use Rattle.offsets_intersect.proofs.Prelude.{ℕ, ◌*◌, ◌/◌, ◌≤◌, ◌<◌, ◌≡◌, sym, ◌∙◌, ◌⊎◌, inl, inr, true, false, true≢false, ◌&&◌, dec_lt, arith, leb, le-leb, lt-leb, split, similar, MuchLonger}

module _ (a b : ℕ) where
  -- not both are short
  not_few : (a ≤ 16 × 16 < b) ⊎ (16 < a) → (leb a 16 && leb b 16) ≡ false
  not_few h = elim h [ inl p ↦ rw (le-leb a 16 p.0, lt-leb b 16 p.1) | inr l ↦ rw (lt-leb a 16 l) ]

  pub similar_both : a ≤ 16 → b ≤ 16 → similar a b ≡ true
  unfolding similar
  similar_both h k = rw (le-leb a 16 h, le-leb b 16 k)

  pub similar_upper : (a ≤ 16 × 16 < b) ⊎ (16 < a) → a / 4 ≤ b → leb b (a * 4) ≡ similar a b
  unfolding similar
  similar_upper e h = rw (not_few e, le-leb (a / 4) b h)

  pub similar_not : (a ≤ 16 × 16 < b) ⊎ (16 < a) → b < a / 4 → leb (a / 4) b ≡ similar a b
  unfolding similar
  similar_not e h = rw (not_few e, lt-leb (a / 4) b h)

  similar_near : a / 4 ≤ b → b ≤ a * 4 → similar a b ≡ true
  unfolding similar
  similar_near h k = elim (split (leb a 16 && leb b 16)) [ inl e ↦ rw e | inr e ↦ rw (e, le-leb (a / 4) b h, le-leb b (a * 4) k) ]

  -- lists of different length: the longer one is much longer
  module _ (e : similar a b ≡ false) where
    not_both : a ≤ 16 → b ≤ 16 → ⊥
    not_both h k = true≢false (sym (similar_both h k) ∙ e)

    not_near : a / 4 ≤ b → b ≤ a * 4 → ⊥
    not_near h k = true≢false (sym (similar_near h k) ∙ e)

    pub first_longer : b < a → MuchLonger b a
    first_longer l = (
      elim (dec_lt 16 a) [ yes q ↦ q | no q ↦ absurd (not_both (omega arith) (omega arith)) ],
      elim (dec_lt (4 * b) a) [ yes q ↦ q | no q ↦ absurd (not_near (omega arith) (omega arith)) ],
    )

    pub second_longer : a ≤ b → MuchLonger a b
    second_longer l = (
      elim (dec_lt 16 b) [ yes q ↦ q | no q ↦ absurd (not_both (omega arith) (omega arith)) ],
      elim (dec_lt (4 * a) b) [ yes q ↦ q | no q ↦ absurd (not_near (omega arith) (omega arith)) ],
    )
