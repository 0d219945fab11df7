-- The entries that a link leads to: the first of them, and that all are below the limit. Assumes nothing.
use Rattle.refresh_spec.proofs.Laws.Prelude.{ℕ, zero, suc, ◌+◌, ◌*◌, ◌<◌, ◌≡◌, sym, ◌∙◌, true, false≢true, List, ◌∷◌, ℕ_discrete, arith, get_or, eq-eqb, ne_eqb, elem_there}
use Rattle.lists.specs.Lists.{elem}
use Rattle.refresh_spec.specs.Index.{rows_seen, columns_named, chain, entries_under}

-- a link to the highest entry below the limit, and to another
pub chain_here : (index : List ℕ) (n link : ℕ) → link ≡ suc n → chain index (suc n) link ≡ n ∷ chain index n (get_or index (16 + n) 0)
unfolding chain
chain_here index n link e = rw (eq-eqb link (suc n) e)

pub chain_below : (index : List ℕ) (n link : ℕ) → (link ≡ suc n → ⊥) → chain index (suc n) link ≡ chain index n link
unfolding chain
chain_below index n link e = rw (ne_eqb link (suc n) e)

-- entries of a chain are below its limit
chain_limit : (index : List ℕ) (n link e : ℕ) → elem e (chain index n link) ≡ true → e < n
chain_limit index zero link e q = absurd (false≢true (unfold chain elem in q))
chain_limit index (suc n) link e q =
    elim (ℕ_discrete link (suc n)) [
      | yes p ↦ elim (ℕ_discrete e n) [
        | yes r ↦ omega arith
        | no r ↦ let b = chain_limit index n (get_or index (16 + n) 0) e (sym (elem_there e n _ r) ∙ rw (chain_here index n link p) at q) in omega arith
      ]
      | no p ↦ let b = chain_limit index n link e (rw (chain_below index n link p) at q) in omega arith
    ]

pub under_limit : (capacity : ℕ) (index : List ℕ) (value e : ℕ) → elem e (entries_under capacity index value) ≡ true → e < rows_seen index * columns_named index
unfolding entries_under
under_limit capacity index value e q = chain_limit index (rows_seen index * columns_named index) _ e q
