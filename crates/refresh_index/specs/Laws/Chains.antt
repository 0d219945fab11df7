-- Laws of the entries that a link refers to, and of an entry pushed. Assumes nothing.
use Rattle.std.specs.Prelude.{◌+◌, ◌-◌, ◌≤◌, ◌<◌, ◌≡◌, ◌≢◌, ◌∷◌}
use Rattle.refresh_index.specs.Laws.Prelude.{ℕ, zero, suc, refl, ap, ◌∙◌, true, false≢true, List, [], add-zero, ℕ_discrete, add-one, arith, length, get_or, set, get_or-set_same, get_or-set_other, lt-length-set, elem_here, elem_there, chain_here, chain_below, chain_same}
use Rattle.lists.specs.Lists.{elem}
use Rattle.refresh_spec.specs.Index.{chain}
use Rattle.refresh_index.specs.inner.Entries.{pushed}

-- a link that is too high
pub chain_above : (index : List ℕ) (n link : ℕ) → n < link → chain index n link ≡ []
chain_above index zero link h = unfold chain in refl
chain_above index (suc n) link h = chain_below index n link (omega arith) ∙ chain_above index n link (omega arith)

-- a link to an entry below the limit
pub chain_on : (index : List ℕ) (n link : ℕ) → 0 < link → link ≤ n → chain index n link ≡ (link - 1) ∷ chain index (link - 1) (get_or index (16 + (link - 1)) 0)
chain_on index zero link some below = absurd (omega arith)
chain_on index (suc n) link some below =
    elim (ℕ_discrete link (suc n)) [
      | yes e ↦ let p : link - 1 ≡ n = omega arith in rw p (chain_here index n link e)
      | no e ↦ chain_below index n link e ∙ chain_on index n link some (omega arith)
    ]

-- a link to none
pub chain_none : (index : List ℕ) (n : ℕ) → chain index n 0 ≡ []
chain_none index zero = unfold chain in refl
chain_none index (suc n) = chain_below index n 0 (omega arith) ∙ chain_none index n

-- entries of a chain are in it with a higher limit too
pub chain_longer : (index : List ℕ) (n link e : ℕ) → elem e (chain index n link) ≡ true → (k : ℕ) → elem e (chain index (n + k) link) ≡ true
chain_longer index n link e q zero = rw (add-zero n) q
chain_longer index n link e q (suc k) =
    let next : n + suc k ≡ suc (n + k) = omega arith in
    rw (next, chain_below index (n + k) link (λ s. false≢true (unfold elem in rw (chain_above index n link (omega arith)) at q))) (chain_longer index n link e q k)

module _ (index : List ℕ) (head n : ℕ) (below : 16 + n < head) (inside : head < length index) where
  other : (at : ℕ) → at ≢ 16 + n → at ≢ head → get_or (pushed index head n) at 0 ≡ get_or index at 0
  unfolding pushed
  other at p q =
      get_or-set_other (set index (16 + n) (get_or index head 0)) head at (n + 1) 0 q ∙ get_or-set_other index (16 + n) at (get_or index head 0) 0 p

  links : (e : ℕ) → e < n → get_or (pushed index head n) (16 + e) 0 ≡ get_or index (16 + e) 0
  links e h = other (16 + e) (omega arith) (omega arith)

  own_link : get_or (pushed index head n) (16 + n) 0 ≡ get_or index head 0
  unfolding pushed
  own_link =
      get_or-set_other (set index (16 + n) (get_or index head 0)) head (16 + n) (n + 1) 0 (omega arith)
      ∙ get_or-set_same index (16 + n) (get_or index head 0) 0 (omega arith)

  own_head : get_or (pushed index head n) head 0 ≡ suc n
  unfolding pushed
  own_head =
      get_or-set_same (set index (16 + n) (get_or index head 0)) head (n + 1) 0 (lt-length-set index (16 + n) (get_or index head 0) inside) ∙ add-one n

  -- the entry's own bucket: the entry, and the previous entries of the bucket
  pub pushed_own : chain (pushed index head n) (suc n) (get_or (pushed index head n) head 0) ≡ n ∷ chain index n (get_or index head 0)
  pushed_own =
      chain_here (pushed index head n) n (get_or (pushed index head n) head 0) own_head
      ∙ rw own_link (ap (λ (es : List ℕ). n ∷ es) (chain_same n index (pushed index head n) (get_or index head 0) links))

  -- no bucket loses an entry: if the link of another bucket refers to this entry, it referred to none before
  pub pushed_keeps : (at e : ℕ) → 16 + n < at → elem e (chain index n (get_or index at 0)) ≡ true
      → elem e (chain (pushed index head n) (suc n) (get_or (pushed index head n) at 0)) ≡ true
  pushed_keeps at e h q =
      elim (ℕ_discrete at head) [
        | yes p ↦ rw (p, pushed_own) (elim (ℕ_discrete e n) [ yes r ↦ elem_here e n _ r | no r ↦ elem_there e n _ r ∙ rw p at q ])
        | no p ↦ rw (other at (omega arith) p) (elim (ℕ_discrete (get_or index at 0) (suc n)) [
          | yes r ↦ absurd (false≢true (unfold elem in rw (chain_above index n (get_or index at 0) (omega arith)) at q))
          | no r ↦ rw (chain_below (pushed index head n) n (get_or index at 0) r, chain_same n index (pushed index head n) (get_or index at 0) links) q
        ])
      ]
