-- The manual proof of a function that is lent fixed arrays: each token and what each parameter owns is an entry of the context of
-- its own, and a call takes those that it needs.
--     shared-array, lent-array    `Known` of a `&[T; n]` and of a `&mut [T; n]`
--     lends-array      a `&mut [T; n]` is lent on
--     FinalArray       the last words of a `&mut [T; n]`
--     tokens-out, tokens-in       tokens, each an entry, the last first; and back
--     owns-out, owns-in           what parameters own, likewise
-- Assumes `Logic`.
use types.Logic.{Logic}
use denote.Ref.{MutBor, shr_vals, mut_vals}
use Rattle.manual_proofs.proofs.Prelude.{ℕ, zero, suc, ◌≡◌, Option, just, List, [], ◌∷◌, Ura, T, Lifetime, Ty, place, deref, addr_of, Body, seq, assign, Val, WT, has_ty, vptr, id⊢, Lft, Fml, ftrue, fsep, flft, fres, Calls, Loops, spot_of, Lfts, Shares, toks, Item, ‵, raw, ◌⊛◌, Post, Goal, runs, Step, step, ◌$◌, move, use0, use1, split, join, fsplit, fjoin, drop, hop, stop, from, addr, assigns, look_in, RattleType, Array, ShrRef, MutRef, shr_Tells, shr_Lawful, mut_Tells, mut_Lawful, nothing}
use Rattle.manual_proofs.proofs.Locals.{Locals, held, set, Within, cell, fills}
use Rattle.manual_proofs.proofs.Walking.{Known}

abbrev pub shared_array : (ℓ : Lifetime) (κ : Lft) (R : RattleType) (n : ℕ) → Known (ShrRef ℓ κ (Array R n))
shared_array ℓ κ R n = record { spell = shr_vals; tell = shr_Tells ℓ κ (Array R n); lawful = λ 𝓛. shr_Lawful 𝓛 ℓ κ (Array R n) }

abbrev pub lent_array : (ℓ : Lifetime) (κ : Lft) (R : RattleType) (n : ℕ) → Known (MutRef ℓ κ (Array R n))
lent_array ℓ κ R n = record { spell = mut_vals; tell = mut_Tells ℓ κ (Array R n); lawful = λ 𝓛. mut_Lawful 𝓛 ℓ κ (Array R n) }

abbrev pub FinalArray : (R : RattleType) (n : ℕ) → MutBor (List R.Denot) → List R.Denot → Fml
FinalArray R n x xs = fres x.ghost_name ((Array R n).coded.code xs)

module _ {M : Type 1} {𝓤 : Ura M} {𝓛 : Logic 𝓤} {K : Type 0} {E : List (Ty × ℕ)} {hs : List (Option Val)} {Γ : List (Item 𝓤)} {C : Calls 𝓤 𝓛.H} {Λ : Loops 𝓤 𝓛.H} {q : Post 𝓤 𝓛.H} {rest : Body} where
  -- local i, a `&mut [T; n]`, is lent on to local j
  open 𝓛 use {H}

  pub lends_array : K → {i j b o : ℕ} {τ : Ty} → held E hs i ≡ just (vptr b o) → Within E hs j → T (has_ty (spot_of 𝓤 H E j).0 (vptr b o)) × WT (vptr b o)
      → Step K 𝓛 (Locals 𝓤 H E (set hs j (vptr b o)) ∷ Γ) (runs C Λ E rest q) (Locals 𝓤 H E hs ∷ Γ) (runs C Λ E (seq (assign (place j []) (addr_of (place i (deref τ ∷ [])))) rest) q)
  lends_array t {i} {j} e z wt = assigns t (addr t (from t (hop t (look_in t 0 (cell t i e)) (stop t)))) (from t (stop t)) (fills t j z wt)

module _ {M : Type 1} {𝓤 : Ura M} where
  -- each token is an entry, the last first
  abbrev pub Spread : (n : ℕ) → Lfts n → Shares n → List (Item 𝓤) → List (Item 𝓤)
  Spread zero κs qs Γ = Γ
  Spread (suc n) κs qs Γ = Spread n κs.1 qs.1 (‵ (flft κs.0 qs.0) ∷ Γ)

  -- what each parameter owns is an entry, the last first
  abbrev pub SpreadOwns : List Fml → List (Item 𝓤) → List (Item 𝓤)
  SpreadOwns [] Γ = Γ
  SpreadOwns (P ∷ Ps) Γ = SpreadOwns Ps (‵ P ∷ Γ)

abbrev pub Owns : List Fml → Fml
Owns [] = ftrue
Owns (P ∷ Ps) = fsep P (Owns Ps)

module _ {M : Type 1} {𝓤 : Ura M} {𝓛 : Logic 𝓤} {K : Type 0} {G : Goal 𝓤 𝓛.H} where
  open 𝓛 use {A}

  pub tokens_out : K → (n : ℕ) (κs : Lfts n) (qs : Shares n) {Γ : List (Item 𝓤)} → Step K 𝓛 (Spread n κs qs Γ) G (raw (toks 𝓛 n κs qs) ∷ Γ) G
  tokens_out t zero κs qs = step (λ s. drop t $ s)
  tokens_out t (suc n) κs qs =
      step (λ s. use1 𝓛 (‵ (flft κs.0 qs.0) ⊛ raw (toks 𝓛 n κs.1 qs.1)) (id⊢ 𝓤 _) $ split t $ move t (1 ∷ []) $ tokens_out t n κs.1 qs.1 $ s)

  pub tokens_in : K → (n : ℕ) (κs : Lfts n) (qs : Shares n) {Γ : List (Item 𝓤)} → Step K 𝓛 (raw (toks 𝓛 n κs qs) ∷ Γ) G (Spread n κs qs Γ) G
  tokens_in t zero κs qs = step (λ s. use0 𝓛 (raw (toks 𝓛 0 κs qs)) (id⊢ 𝓤 _) $ s)
  tokens_in t (suc n) κs qs = step (λ s. tokens_in t n κs.1 qs.1 $ move t (1 ∷ []) $ join t $ use1 𝓛 (raw (toks 𝓛 (suc n) κs qs)) (id⊢ 𝓤 _) $ s)

  pub owns_out : K → (Ps : List Fml) {Γ : List (Item 𝓤)} → Step K 𝓛 (SpreadOwns Ps Γ) G (‵ (Owns Ps) ∷ Γ) G
  owns_out t [] = step (λ s. drop t $ s)
  owns_out t (P ∷ Ps) = step (λ s. fsplit t $ move t (1 ∷ []) $ owns_out t Ps $ s)

  pub owns_in : K → (Ps : List Fml) {Γ : List (Item 𝓤)} → Step K 𝓛 (‵ (Owns Ps) ∷ Γ) G (SpreadOwns Ps Γ) G
  owns_in t [] = step (λ s. nothing t $ s)
  owns_in t (P ∷ Ps) = step (λ s. owns_in t Ps $ move t (1 ∷ []) $ fjoin t $ s)
