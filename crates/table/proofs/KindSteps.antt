-- The words of a pending record, one law for each way that `kind_words` returns. Assumes nothing.
use Rattle.table.proofs.Prelude.{ℕ, ◌+◌, ◌≤◌, ◌≡◌, arith, eq-eqb, ne_eqb, Opening}
use native.Mathlib.Decide.{ℕ_discrete}
use Rattle.table.specs.inner.Records.{kind_words}

module _ (o : Opening) (kind : ℕ) where
  pub words_insert : kind ≡ 0 → o.columns + 2 ≡ kind_words o kind
  unfolding kind_words
  words_insert e = rw (eq-eqb _ _ e)

  pub words_removal : kind ≤ 2 → (kind ≡ 0 → ⊥) → o.keys + 1 + kind ≡ kind_words o kind
  unfolding kind_words
  words_removal known removal = elim (ℕ_discrete kind 1) [
    | yes e ↦ rw (ne_eqb _ _ removal, eq-eqb _ _ e) (omega (arith, e))
    | no e ↦ rw (ne_eqb _ _ removal, ne_eqb _ _ e) (omega arith)
  ]
