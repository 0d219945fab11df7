-- Each contract determines the outcome. Assumes nothing.
use Rattle.refusals.specs.Laws.Numbers.{answer_view_injective, number_injective}
use Rattle.refusals.specs.declared.Refusal.{Refusal}
use Rattle.std.specs.Prelude.{◌≡◌, ◌∷◌, Result, Ok, Err}
use Rattle.listing_spec.specs.Laws.Prelude.{ℕ, sym, ap, ◌∙◌, ⊎_elim, Bool, true, false, List, [], arith, length, get_or, Reply, some_number, Same}
use Rattle.listing_spec.specs.declared.ListingHead.{ListingHead}
use Rattle.listing_spec.specs.declared.NumberedHead.{NumberedHead}
use Rattle.listing_spec.specs.Listings.{listing_view, numbered_view, read_refusal, convert_refusal, ListingRead, ListingConverted}
use Rattle.listing_spec.specs.Laws.Texts.{parses_determined}

-- the view of an answer determines the answer
listing_view_injective : (a b : Result ListingHead Refusal) → listing_view a ≡ listing_view b → a ≡ b
unfolding listing_view
listing_view_injective (Err r) (Err q) e = ap Err (number_injective r q cc)
listing_view_injective (Err r) (Ok h) e = absurd (let z : ◌≡◌ {A = ℕ} 0 1 = cc in omega arith)
listing_view_injective (Ok h) (Err r) e = absurd (let z : ◌≡◌ {A = ℕ} 0 1 = cc in omega arith)
listing_view_injective (Ok h) (Ok k) e =
    let l : (h.columns ∷ h.keys ∷ h.sort ∷ h.rule ∷ h.generation ∷ h.listed ∷ []) ≡ (k.columns ∷ k.keys ∷ k.sort ∷ k.rule ∷ k.generation ∷ k.listed ∷ []) = cc in
    ap (λ (ns : List ℕ). Ok (record { columns = get_or ns 0 0; keys = get_or ns 1 0; sort = get_or ns 2 0; rule = get_or ns 3 0; generation = get_or ns 4 0; listed = get_or ns 5 0 })) l

numbered_view_injective : (a b : Result NumberedHead Refusal) → numbered_view a ≡ numbered_view b → a ≡ b
unfolding numbered_view
numbered_view_injective (Err r) (Err q) e = ap Err (number_injective r q cc)
numbered_view_injective (Err r) (Ok h) e = absurd (let z : ◌≡◌ {A = ℕ} 0 1 = cc in omega arith)
numbered_view_injective (Ok h) (Err r) e = absurd (let z : ◌≡◌ {A = ℕ} 0 1 = cc in omega arith)
numbered_view_injective (Ok h) (Ok k) e =
    let l : (h.columns ∷ h.keys ∷ h.sort ∷ h.rule ∷ h.generation ∷ h.count ∷ h.listed ∷ []) ≡ (k.columns ∷ k.keys ∷ k.sort ∷ k.rule ∷ k.generation ∷ k.count ∷ k.listed ∷ []) = cc in
    ap (λ (ns : List ℕ). Ok (record { columns = get_or ns 0 0; keys = get_or ns 1 0; sort = get_or ns 2 0; rule = get_or ns 3 0; generation = get_or ns 4 0; count = get_or ns 5 0; listed = get_or ns 6 0 })) l

read_same : {numbered : Bool} {text output output₁ output₂ : List ℕ} {a b : Reply (List ℕ)} → ListingRead numbered text output a output₁ → ListingRead numbered text output b output₂
    → Same a b output₁ output₂
read_same {numbered} {text} {output} x y =
    let l = parses_determined numbered x.shown y.shown in
    record {
      answer = x.effect.answers ∙ rw l (sym y.effect.answers);
      cells =
          ⊎_elim (λ zero. x.effect.written zero ∙ rw l (sym (y.effect.written (sym (ap (λ k. read_refusal k (length output)) l) ∙ zero))))
          (λ more. x.effect.unchanged more ∙ sym (y.effect.unchanged (rw l at more)))
          (some_number (read_refusal x.listing (length output)));
    }

pub listing_determined : {text output output₁ output₂ : List ℕ} {a b : Result ListingHead Refusal} → ListingRead false text output (listing_view a) output₁ → ListingRead false text output (listing_view b) output₂
    → Same a b output₁ output₂
listing_determined {a = a} {b = b} x y = let s = read_same x y in record { answer = listing_view_injective a b s.answer; cells = s.cells }

pub numbered_determined : {text output output₁ output₂ : List ℕ} {a b : Result NumberedHead Refusal} → ListingRead true text output (numbered_view a) output₁ → ListingRead true text output (numbered_view b) output₂
    → Same a b output₁ output₂
numbered_determined {a = a} {b = b} x y = let s = read_same x y in record { answer = numbered_view_injective a b s.answer; cells = s.cells }

pub convert_determined : {numbered : Bool} {text output output₁ output₂ : List ℕ} {a b : Result ℕ Refusal} → ListingConverted numbered text output a output₁ → ListingConverted numbered text output b output₂
    → Same a b output₁ output₂
convert_determined {numbered} {text} {output} {a = a} {b = b} x y =
    let l = parses_determined numbered x.shown y.shown in
    record {
      answer = answer_view_injective a b (x.effect.answers ∙ rw l (sym y.effect.answers));
      cells =
          ⊎_elim (λ zero. x.effect.written zero ∙ rw l (sym (y.effect.written (sym (ap (λ k. convert_refusal numbered k (length output)) l) ∙ zero))))
          (λ more. x.effect.unchanged more ∙ sym (y.effect.unchanged (rw l at more)))
          (some_number (convert_refusal numbered x.listing (length output)));
    }
