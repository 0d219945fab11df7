-- The pigeonhole principle on numbers: if m numbers are mapped injectively to numbers below n, then m is at most n. It implies that
-- not all slots of a sound store are taken. Assumes nothing.
use Rattle.std.specs.Prelude.{◌≤◌, ◌<◌, ◌≡◌}
use Rattle.key_index.specs.Laws.Prelude.{ℕ, zero, suc, sym, ◌∙◌, cond, ℕ_discrete, arith, eqb, eq-eqb, ne_eqb}

-- f on the numbers below m, with the value n replaced by f m
moved : (ℕ → ℕ) → ℕ → ℕ → ℕ → ℕ
moved f m n i = cond (eqb (f i) n) (f m) (f i)

moved_hit : (f : ℕ → ℕ) (m n i : ℕ) → f i ≡ n → moved f m n i ≡ f m
unfolding moved
moved_hit f m n i e = rw (eq-eqb _ _ e)

moved_other : (f : ℕ → ℕ) (m n i : ℕ) → (f i ≡ n → ⊥) → moved f m n i ≡ f i
unfolding moved
moved_other f m n i e = rw (ne_eqb _ _ e)

-- an injective map from the numbers below m to the numbers below n
pub pigeonhole : (m n : ℕ) (f : ℕ → ℕ) → ((i : ℕ) → i < m → f i < n) → ((i j : ℕ) → i < m → j < m → f i ≡ f j → i ≡ j) → m ≤ n
pigeonhole zero n f into once = omega arith
pigeonhole (suc m) zero f into once = absurd (let z = into 0 (omega arith) in omega arith)
pigeonhole (suc m) (suc n) f into once = let z : m ≤ n = pigeonhole m n (moved f m n) below apart in omega arith
  where
    last : (i : ℕ) → i < m → f i ≡ n → f m ≡ n → ⊥
    last i h p q = let e : i ≡ m = once i m (omega arith) (omega arith) (p ∙ sym q) in omega arith

    below : (i : ℕ) → i < m → moved f m n i < n
    below i h = elim (ℕ_discrete (f i) n) [
      | yes e ↦ rw (moved_hit f m n i e) (let a = into m (omega arith) in let b : f m ≡ n → ⊥ = last i h e in elim (ℕ_discrete (f m) n) [ yes k ↦ absurd (b k) | no k ↦ omega arith ])
      | no e ↦ rw (moved_other f m n i e) (let a = into i (omega arith) in omega arith)
    ]

    apart : (i j : ℕ) → i < m → j < m → moved f m n i ≡ moved f m n j → i ≡ j
    apart i j h k e = elim (ℕ_discrete (f i) n) [
      | yes p ↦ elim (ℕ_discrete (f j) n) [
        | yes q ↦ once i j (omega arith) (omega arith) (p ∙ sym q)
        | no q ↦ absurd (let z : m ≡ j = once m j (omega arith) (omega arith) (sym (moved_hit f m n i p) ∙ e ∙ moved_other f m n j q) in omega arith)
      ]
      | no p ↦ elim (ℕ_discrete (f j) n) [
        | yes q ↦ absurd (let z : i ≡ m = once i m (omega arith) (omega arith) (sym (moved_other f m n i p) ∙ e ∙ moved_hit f m n j q) in omega arith)
        | no q ↦ once i j (omega arith) (omega arith) (sym (moved_other f m n i p) ∙ e ∙ moved_other f m n j q)
      ]
    ]
