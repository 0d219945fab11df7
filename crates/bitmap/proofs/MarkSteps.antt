-- The loop iterations of `bits_of_different_cells`. Assumes nothing.
use Rattle.bitmap.proofs.Prelude.{ℕ, ◌+◌, ◌*◌, ◌^◌, ◌≤◌, ◌<◌, ◌≡◌, refl, sym, ap, ◌∙◌, true, false, not, List, zero-mul, suc-mul, add-one, arith, length, get_or, eq-eqb, ne_eqb, row_in, bitmap_word_yes, bitmap_word_no, bitmap_word_lt}
use Rattle.row_buffer.specs.Ranks.{bitmap_word}
use Rattle.bitmap.specs.inner.Marking.{Spaced, other_at}

module _ (cells : List ℕ) (from stride count than : ℕ) where
  -- what holds at the loop's head
  pub record Marked (word at bit : ℕ) : Type 0 where
    pub few : bit ≤ count
    pub here : at ≡ from + bit * stride
    pub made : word ≡ bitmap_word (other_at cells from stride than) bit

  pub marked_begin : Marked 0 from 0
  unfolding bitmap_word
  marked_begin = record { few = omega arith; here = omega (arith, zero-mul stride); made = refl }

  module _ (s : Spaced cells from stride count) (word at bit : ℕ) (m : Marked word at bit) where
    pub word_below : word < 2 ^ bit
    word_below = rw m.made (bitmap_word_lt (other_at cells from stride than) bit)

    module _ (more : bit < count) where
      -- the position is inside the store, and the next one is at most its end
      pub place_in : (at < length cells) × (at + stride ≤ length cells)
      place_in =
          let r = row_in bit count stride more in
          (omega (arith, m.here, s.inside, s.apart), omega (arith, m.here, s.inside))

      on : at + stride ≡ from + (bit + 1) * stride
      on = let e : (bit + 1) * stride ≡ bit * stride + stride = rw add-one (suc-mul bit stride) in omega (arith, m.here)

      pub marked_other : (get_or cells at 0 ≡ than → ⊥) → (word' : ℕ) → word' ≡ word + 2 ^ bit → Marked word' (at + stride) (bit + 1)
      unfolding other_at
      marked_other ne word' e =
          let y : other_at cells from stride than bit ≡ true = ap not (ne_eqb _ than (rw m.here at ne)) in
          record { few = omega arith; here = on; made = e ∙ ap (λ (x : ℕ). x + 2 ^ bit) m.made ∙ sym (bitmap_word_yes (other_at cells from stride than) bit y) }

      pub marked_same : get_or cells at 0 ≡ than → Marked word (at + stride) (bit + 1)
      unfolding other_at
      marked_same e =
          let y : other_at cells from stride than bit ≡ false = ap not (eq-eqb _ than (rw m.here at e)) in
          record { few = omega arith; here = on; made = m.made ∙ sym (bitmap_word_no (other_at cells from stride than) bit y) }

    pub marked_end : count ≤ bit → word ≡ bitmap_word (other_at cells from stride than) count
    marked_end h = let e : bit ≡ count = omega (arith, m.few) in rw (← e) m.made
