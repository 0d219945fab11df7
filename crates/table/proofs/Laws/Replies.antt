-- Laws of replies: their refusal numbers and values. Assumes nothing.
use Rattle.table.proofs.Laws.Prelude.{ℕ, zero, suc, ◌<◌, ◌≡◌, refl, arith}
use Rattle.refusals.specs.Refusals.{Reply, refused, accepted, reply, outcome}

-- if a reply is accepted, its refusal number is 0
pub outcome_accepted : {A : Type 0} (r : Reply A) (a : A) (n : ℕ) → outcome r ≡ reply n tt → r ≡ accepted a → n ≡ 0
unfolding outcome reply
outcome_accepted (refused m) a n e q = absurd (let z : ◌≡◌ {A = ℕ} 0 1 = cc in omega arith)
outcome_accepted (accepted b) a zero e q = refl
outcome_accepted (accepted b) a (suc n) e q = absurd (let z : ◌≡◌ {A = ℕ} 0 1 = cc in omega arith)

-- a reply with a refusal number, and one with 0
pub reply_refused : {A : Type 0} (n : ℕ) (a : A) → 0 < n → reply n a ≡ refused n
unfolding reply
reply_refused zero a h = absurd (omega arith)
reply_refused (suc n) a h = refl

pub reply_accepted : {A : Type 0} (n : ℕ) (a : A) → n ≡ 0 → reply n a ≡ accepted a
unfolding reply
reply_accepted zero a e = refl
reply_accepted (suc n) a e = absurd (omega arith)

-- an accepted reply has refusal number 0 and its own value
pub accepted_number : {A : Type 0} (n : ℕ) (a b : A) → accepted a ≡ reply n b → n ≡ 0
unfolding reply
accepted_number zero a b e = refl
accepted_number (suc n) a b e = absurd (let z : ◌≡◌ {A = ℕ} 0 1 = cc in omega arith)

pub accepted_same : {A : Type 0} (n : ℕ) (a b : A) → accepted a ≡ reply n b → a ≡ b
unfolding reply
accepted_same zero a b e = cc
accepted_same (suc n) a b e = absurd (let z : ◌≡◌ {A = ℕ} 0 1 = cc in omega arith)
