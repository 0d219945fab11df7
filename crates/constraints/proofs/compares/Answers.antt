-- `constraints::compares` meets its contract. Assumes nothing.
use Rattle.constraints.proofs.Prelude.{ℕ, ◌≤◌, ◌<◌, ◌≡◌, refl, ◌∙◌, inl, inr, ⊎_elim, Bool, true, false, cond, ◌||◌, Bool·beq, ℕ_discrete, arith, leb, ltb, eqb, ltb-true, ltb-false, eqb-true, eqb-false, le-leb, lt-leb, le-ltb, ne_eqb, split, or_no_left, or_no_right}
use Rattle.constraints.specs.Constraints.{compares}
use Rattle.constraints.proofs.compares.Goals as goal
use Rattle.constraints.proofs.compares.Goals.{then-kind, else-kind}

-- a comparison, or, for at most and at least, its contrary
kept : (a b : ℕ) (first : Bool) → Bool·beq (ltb a b) first ≡ cond first (ltb a b) (leb b a)
kept a b first =
    elim (split (ltb a b)) [
      | inl e ↦ rw (e, lt-leb b a (ltb-true a b e)) (by_first first)
      | inr e ↦ rw (e, le-leb b a (ltb-false a b e)) (by_not first)
    ]
  where
    by_first : (t : Bool) → Bool·beq true t ≡ cond t true false
    by_first true = refl
    by_first false = refl

    by_not : (t : Bool) → Bool·beq false t ≡ cond t false true
    by_not true = refl
    by_not false = refl

module _ (kind cell other : ℕ) where
  abbrev wanted : Bool
  wanted = cond (eqb kind 0) (eqb cell other) (compares kind cell other)

  -- kinds 0 and 1
  equal : kind < 2 → eqb cell other ≡ wanted
  unfolding compares
  equal l =
      elim (ℕ_discrete kind 0) [
        | yes e ↦ rw e refl
        | no n ↦ let one : kind ≡ 1 = omega arith in rw one refl
      ]

  -- kinds 3 and 4
  greater : (eqb kind 3 || eqb kind 4) ≡ true → Bool·beq (ltb other cell) (ltb kind 4) ≡ wanted
  unfolding compares
  greater taken =
      kept other cell (ltb kind 4) ∙ elim (split (eqb kind 3)) [
        | inl e ↦ rw (eqb-true kind 3 e) refl
        | inr e ↦ rw (eqb-true kind 4 (rw e at taken)) refl
      ]

  -- kinds 2 and 5
  less : 2 ≤ kind → (eqb kind 3 || eqb kind 4) ≡ false → Bool·beq (ltb cell other) (ltb kind 4) ≡ wanted
  unfolding compares
  less l left =
      let three = or_no_left (eqb kind 3) (eqb kind 4) left in
      let four = or_no_right (eqb kind 3) (eqb kind 4) left in
      kept cell other (ltb kind 4) ∙ elim (ℕ_discrete kind 2) [
        | yes e ↦ rw e refl
        | no n ↦
            let high : 4 ≤ kind = omega (arith, n, eqb-false kind 3 three) in
            simp (ne_eqb kind 0 (omega arith), ne_eqb kind 1 (omega arith), ne_eqb kind 2 n, three, four, le-ltb kind 4 high)
      ]

pub returns-then-kind-lt-LESS : goal.returns-then-kind-lt-LESS
returns-then-kind-lt-LESS c = let a = c.args in equal a.kind a.cell a.other c.if-kind-lt-LESS.true

pub returns : goal.returns
returns c =
    let a = c.args in
    elim c.if-kind.branch [
      | then-kind w ↦ rw w.low-is (greater a.kind a.cell a.other w.if-kind.true)
      | else-kind w ↦ rw w.low-is (less a.kind a.cell a.other c.if-kind-lt-LESS.false w.if-kind.false)
    ]
