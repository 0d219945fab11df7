-- A contract determines the outcome if two outcomes that both meet it, on the same input, have the same answer and the same lent
-- cells. Such a law excludes every other program: one that returns another answer, or leaves another number in a lent cell, does
-- not meet the contract. Assumes nothing.
use Rattle.std.specs.Prelude.{ℕ, ◌<◌, ◌≡◌, List}
use Rattle.std.proofs.Common.{sym, ◌∙◌, ⊎_elim}
use Rattle.refusals.specs.Refusals.{Reply, reply, outcome}
use Rattle.refusals.specs.Laws.Replies.{some_number, ruled_refused}

-- two outcomes of a call that writes to one lent list
pub record Same {A : Type 0} (a b : A) (cells₁ cells₂ : List ℕ) : Type 0 where
  pub answer : a ≡ b
  pub cells : cells₁ ≡ cells₂

-- Two answers of a call that reads lent stores, and the number that its checks give. On any stores both are refused with the same
-- number, or both are accepted. If `Known` holds, the answers are equal.
pub record SameAnswer {A B : Type 0} (view : A → Reply B) (number : ℕ) (Known : Type 0) (a b : A) : Type 0 where
  pub outcomes : outcome (view a) ≡ outcome (view b)
  pub refused : 0 < number → a ≡ b
  pub known : Known → a ≡ b

-- for answers that are determined by the reply that they encode
module _ {A B : Type 0} {view : A → Reply B} (view-injective : (x y : A) → view x ≡ view y → x ≡ y) {number : ℕ} {a b : A}
    (x : outcome (view a) ≡ reply number tt) (y : outcome (view b) ≡ reply number tt) where
  pub refused_same : 0 < number → a ≡ b
  refused_same some = view-injective a b (ruled_refused (view a) number x some ∙ sym (ruled_refused (view b) number y some))

  pub answer_same : {Known : Type 0} → (number ≡ 0 → Known → view a ≡ view b) → SameAnswer view number Known a b
  answer_same accepted =
      record {
        outcomes = x ∙ sym y;
        refused = refused_same;
        known = λ k. ⊎_elim (λ none. view-injective a b (accepted none k)) refused_same (some_number number);
      }
