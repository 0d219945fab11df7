-- The answer is determined: two programs that answer a line on the same table print the same bytes, and both leave stores that hold
-- the same table. Assumes nothing.
use Rattle.std.specs.Prelude.{◌≡◌}
use Rattle.levels_spec.specs.Laws.Prelude.{ℕ, sym, ◌∙◌, List, Option, take, Plain, Stores, LineResult, line_result, Held, lent, Answering}

pub record SameResult (result : LineResult) (s₁ s₂ : Stores) (text₁ text₂ : List ℕ) (used₁ used₂ : ℕ) : Type 0 where
  pub text : take used₁ text₁ ≡ take used₂ text₂
  pub first : Held result.table s₁
  pub second : Held result.table s₂

pub answering_determined : {line : List ℕ} {s s₁ s₂ : Stores} {text₁ text₂ : List ℕ} {used₁ used₂ : ℕ} (t : Option Plain) → Held t s → Answering line s s₁ text₁ used₁
    → Answering line s s₂ text₂ used₂ → SameResult (line_result (lent s) t line) s₁ s₂ text₁ text₂ used₁ used₂
answering_determined t h a b =
    let x = a.answers t h in
    let y = b.answers t h in
    record { text = x.0 ∙ sym y.0; first = x.1; second = y.1 }
