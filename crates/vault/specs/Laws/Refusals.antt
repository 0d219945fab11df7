-- The tests one by one, and what is known if they pass. Assumes nothing.
use Rattle.std.specs.Prelude.{◌%◌, ◌≤◌, ◌<◌, ◌≡◌}
use Rattle.vault.specs.Laws.Prelude.{ℕ, dec_lt, ℕ_discrete, arith, lt-ltb, le-ltb, eq-eqb, ne_eqb}
use Rattle.refusals.specs.Refusals.{first_refusal}
use Rattle.vault.specs.Columns.{columns_refusal}

module _ (width cells output : ℕ) where
  pub too_narrow : width < 1 → 1 ≡ columns_refusal width cells output
  unfolding columns_refusal first_refusal
  too_narrow h = rw (lt-ltb _ _ h)

  pub too_wide : 1 ≤ width → 8 < width → 1 ≡ columns_refusal width cells output
  unfolding columns_refusal first_refusal
  too_wide h k = rw (le-ltb _ _ h, lt-ltb _ _ k)

  pub broken : 1 ≤ width → width ≤ 8 → (cells % width ≡ 0 → ⊥) → 13 ≡ columns_refusal width cells output
  unfolding columns_refusal first_refusal
  broken h k n = rw (le-ltb _ _ h, le-ltb _ _ k, ne_eqb _ _ n)

  pub too_short : 1 ≤ width → width ≤ 8 → cells % width ≡ 0 → output < cells → 2 ≡ columns_refusal width cells output
  unfolding columns_refusal first_refusal
  too_short h k e s = rw (le-ltb _ _ h, le-ltb _ _ k, eq-eqb _ _ e, lt-ltb _ _ s)

  pub none : 1 ≤ width → width ≤ 8 → cells % width ≡ 0 → cells ≤ output → 0 ≡ columns_refusal width cells output
  unfolding columns_refusal first_refusal
  none h k e s = rw (le-ltb _ _ h, le-ltb _ _ k, eq-eqb _ _ e, le-ltb _ _ s)

  -- what holds if all tests pass
  pub record Accepted : Type 0 where
    pub narrow : 1 ≤ width
    pub wide : width ≤ 8
    pub multiple : cells % width ≡ 0
    pub room : cells ≤ output

  pub accepted : columns_refusal width cells output ≡ 0 → Accepted
  accepted e =
      elim (dec_lt width 1) [
        | yes h ↦ absurd (omega (arith, too_narrow h))
        | no h ↦ elim (dec_lt 8 width) [
          | yes k ↦ absurd (omega (arith, too_wide (omega arith) k))
          | no k ↦ elim (ℕ_discrete (cells % width) 0) [
            | no m ↦ absurd (omega (arith, broken (omega arith) (omega arith) m))
            | yes m ↦ elim (dec_lt output cells) [
              | yes s ↦ absurd (omega (arith, too_short (omega arith) (omega arith) m s))
              | no s ↦ record { narrow = omega arith; wide = omega arith; multiple = m; room = omega arith }
            ]
          ]
        ]
      ]
