-- Cells as signed numbers (document 02, change 4). Each cell encodes one number from minus 2147483648 to 2147483647, and each such
-- number has one cell. Their order is that of the numbers plus 2147483648. Assumes nothing.
use Rattle.std.specs.Prelude.{◌+◌, ◌-◌, ◌%◌, ◌≤◌, ◌<◌, ◌≡◌, ◌≤ℤ◌}
use Rattle.merge_rules.specs.Laws.Prelude.{ℕ, suc, refl, sym, ap, ◌∙◌, subst, Bool, true, false, dec_lt, arith, ltb, leb→le, le→leb, ℤ, pos, negsuc, lt_z, le_z_yes, lt-ltb, le-ltb}
use Rattle.std.specs.Int.{w32}
use mir.Val.{to_z, of_z, sel}
use Rattle.std.proofs.Math.Facts.{of_z-to_z}
use Rattle.merge_rules.specs.Rules.{signed}

-- ---- the number that a cell encodes

pub not_negative : (cell : ℕ) → cell < 2147483648 → signed cell ≡ pos cell
unfolding signed
not_negative cell h = rw (lt-ltb _ _ h)

pub negative : (cell : ℕ) → 2147483648 ≤ cell → signed cell ≡ negsuc (4294967295 - cell)
unfolding signed
negative cell h = rw (le-ltb _ _ h)

-- "so that 4294967295 means minus one"
pub minus_one : signed 4294967295 ≡ negsuc 0
unfolding signed
minus_one = refl

-- the number that the language reads from these bits as an i32
pub as_the_machine : (cell : ℕ) → signed cell ≡ to_z w32 cell
as_the_machine cell =
    let e : 4294967295 - cell ≡ 4294967296 - suc cell = omega arith in
    elim (dec_lt cell 2147483648) [
      | yes h ↦ not_negative cell h ∙ sym (ap (λ (b : Bool). sel b (pos cell) (negsuc (4294967296 - suc cell))) (lt-ltb cell 2147483648 h))
      | no h ↦ negative cell (omega arith) ∙ ap negsuc e ∙ sym (ap (λ (b : Bool). sel b (pos cell) (negsuc (4294967296 - suc cell))) (le-ltb cell 2147483648 (omega arith)))
    ]

-- "from minus 2147483648 to 2147483647"
pub signed_at_least : (cell : ℕ) → negsuc 2147483647 ≤ℤ signed cell
signed_at_least cell =
    elim (dec_lt cell 2147483648) [
      | yes h ↦ subst (λ (z : ℤ). negsuc 2147483647 ≤ℤ z) (sym (not_negative cell h)) (le_z_yes tt)
      | no h ↦
          let k : 4294967295 - cell ≤ 2147483647 = omega arith in
          subst (λ (z : ℤ). negsuc 2147483647 ≤ℤ z) (sym (negative cell (omega arith))) (le_z_yes (le→leb _ _ k))
    ]

pub at_most : (cell : ℕ) → signed cell ≤ℤ pos 2147483647
at_most cell =
    elim (dec_lt cell 2147483648) [
      | yes h ↦
          let k : cell ≤ 2147483647 = omega arith in
          subst (λ (z : ℤ). z ≤ℤ pos 2147483647) (sym (not_negative cell h)) (le_z_yes (le→leb _ _ k))
      | no h ↦ subst (λ (z : ℤ). z ≤ℤ pos 2147483647) (sym (negative cell (omega arith))) (le_z_yes tt)
    ]

-- each of these numbers has a cell
pub meant : (z : ℤ) → negsuc 2147483647 ≤ℤ z → z ≤ℤ pos 2147483647 → (cell : ℕ) × (cell < 4294967296) × (signed cell ≡ z)
meant (pos n) l h =
    let k : n ≤ 2147483647 = leb→le n 2147483647 h.le in
    (n, omega arith, not_negative n (omega arith))
meant (negsuc n) l h =
    let k : n ≤ 2147483647 = leb→le n 2147483647 l.le in
    let e : 4294967295 - (4294967295 - n) ≡ n = omega arith in
    (4294967295 - n, omega arith, negative (4294967295 - n) (omega arith) ∙ ap negsuc e)

-- that cell is unique
pub meant_once : (a b : ℕ) → a < 4294967296 → b < 4294967296 → signed a ≡ signed b → a ≡ b
meant_once a b p q e = sym (of_z-to_z {w = w32} (record { fits = p })) ∙ ap (of_z w32) (sym (as_the_machine a) ∙ e ∙ as_the_machine b) ∙ of_z-to_z {w = w32} (record { fits = q })

-- ---- their order

-- two tests that agree
agree : (a b c d : ℕ) → (a < b → c < d) → (b ≤ a → d ≤ c) → ltb a b ≡ ltb c d
agree a b c d f g =
    elim (dec_lt a b) [
      | yes h ↦ lt-ltb a b h ∙ sym (lt-ltb c d (f h))
      | no h ↦ le-ltb a b (omega arith) ∙ sym (le-ltb c d (g (omega arith)))
    ]

-- comparison by the signs of two cells
module _ (a b : ℕ) where
  pub less_not_negative : a < 2147483648 → b < 2147483648 → lt_z (signed a) (signed b) ≡ ltb a b
  less_not_negative h k = rw (not_negative a h, not_negative b k)

  pub less_negative : 2147483648 ≤ a → 2147483648 ≤ b → a < 4294967296 → b < 4294967296 → lt_z (signed a) (signed b) ≡ ltb a b
  less_negative h k p q =
      rw (negative a h, negative b k) (agree (4294967295 - b) (4294967295 - a) a b (λ (l : 4294967295 - b < 4294967295 - a). omega arith) (λ (l : 4294967295 - a ≤ 4294967295 - b). omega arith))

  pub negative_less : 2147483648 ≤ a → b < 2147483648 → lt_z (signed a) (signed b) ≡ true
  negative_less h k = rw (negative a h, not_negative b k)

  pub not_less_negative : a < 2147483648 → 2147483648 ≤ b → lt_z (signed a) (signed b) ≡ false
  not_less_negative h k = rw (not_negative a h, negative b k)

-- the order of signed cells is that of the numbers plus 2147483648; x and y are these sums
pub less_lifted : (a b x y : ℕ) → a < 4294967296 → b < 4294967296 → x ≡ (a + 2147483648) % 4294967296 → y ≡ (b + 2147483648) % 4294967296
    → lt_z (signed a) (signed b) ≡ ltb x y
less_lifted a b x y p q e f =
    elim (dec_lt a 2147483648) [
      | yes h ↦ elim (dec_lt b 2147483648) [
        | yes k ↦ less_not_negative a b h k ∙ agree a b x y (λ (l : a < b). omega arith) (λ (l : b ≤ a). omega arith)
        | no k ↦ not_less_negative a b h (omega arith) ∙ sym (le-ltb x y (omega arith))
      ]
      | no h ↦ elim (dec_lt b 2147483648) [
        | yes k ↦ negative_less a b (omega arith) k ∙ sym (lt-ltb x y (omega arith))
        | no k ↦ less_negative a b (omega arith) (omega arith) p q ∙ agree a b x y (λ (l : a < b). omega arith) (λ (l : b ≤ a). omega arith)
      ]
    ]
