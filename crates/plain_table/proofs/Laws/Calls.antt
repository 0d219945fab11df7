-- Laws of refused and of accepted calls. Assumes nothing.
use Rattle.plain_table.proofs.Laws.Prelude.{ℕ, suc, ◌<◌, ◌≡◌, refl, Bool, true, false, List, [], ◌∷◌, ℕ_discrete, arith, eq-eqb, ne_eqb, Lengths, Plain}
use Rattle.refusals.specs.Refusals.{Check, check, first_refusal}
use Rattle.plain_table.specs.Calls.{Call, LentCall, refusal, done, after, after_all}

-- "A refusal .. changes nothing"
pub refused_nothing : (p : Plain) (l : Lengths) (c : Call) → 0 < refusal p l c → after p l c ≡ p
unfolding after
refused_nothing p l c h = rw (ne_eqb (refusal p l c) 0 (omega arith))

-- an accepted call has the effect `done`
pub accepted_done : (p : Plain) (l : Lengths) (c : Call) → refusal p l c ≡ 0 → after p l c ≡ done p c
unfolding after
accepted_done p l c e = rw (eq-eqb (refusal p l c) 0 e)

-- a reflexive and transitive relation that holds for each accepted call holds for every list of calls
module _ (Leads : Plain → Plain → Type 0) (same : (p : Plain) → Leads p p) (joined : (p q r : Plain) → Leads p q → Leads q r → Leads p r)
    (each : (p : Plain) (c : Call) → Leads p (done p c)) where
  leads_one : (p : Plain) (l : Lengths) (c : Call) → Leads p (after p l c)
  leads_one p l c =
      elim (ℕ_discrete (refusal p l c) 0) [
        | yes e ↦ rw (accepted_done p l c e) (each p c)
        | no e ↦ rw (refused_nothing p l c (omega arith)) (same p)
      ]

  pub leads_all : (p : Plain) (cs : List LentCall) → Leads p (after_all p cs)
  unfolding after_all
  leads_all p [] = same p
  leads_all p (c ∷ cs) = joined _ _ _ (leads_one p c.lengths c.call) (leads_all (after p c.lengths c.call) cs)

-- if no check applies, the first one does not
pub first_refusal_no : (applies : Bool) (n : ℕ) (rest : List Check) → first_refusal (check applies (suc n) ∷ rest) ≡ 0 → applies ≡ false
unfolding first_refusal
first_refusal_no true n rest e = absurd (omega arith)
first_refusal_no false n rest e = refl

-- if no check applies, none of the later ones does
pub first_refusal_rest : (applies : Bool) (n : ℕ) (rest : List Check) → first_refusal (check applies (suc n) ∷ rest) ≡ 0 → first_refusal rest ≡ 0
unfolding first_refusal
first_refusal_rest true n rest e = absurd (omega arith)
first_refusal_rest false n rest e = e
