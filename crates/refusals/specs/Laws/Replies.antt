-- The two results of an entry point: refused with the number that its checks give, or accepted if that number is 0. Assumes
-- nothing.
use Prim.Native.Nat.{ℕ, zero, suc, ◌<◌}
use Rattle.std.proofs.Math.Path.{◌≡◌}
use Rattle.std.specs.Prelude.{refl, ◌⊎◌}
use Rattle.std.proofs.Common.{ap, ◌∙◌, inl, inr, arith}
use Rattle.refusals.specs.Refusals.{Reply, refused, accepted, reply, outcome}

-- the number is 0 or not
pub some_number : (n : ℕ) → (n ≡ 0) ⊎ (0 < n)
some_number zero = inl refl
some_number (suc n) = inr (omega arith)

refused_reply : {A : Type 0} (n : ℕ) (value : A) → (n ≡ 0 → ⊥) → refused n ≡ reply n value
unfolding reply
refused_reply zero value some = absurd (some refl)
refused_reply (suc n) value some = refl

module _ {A : Type 0} where
  -- a reply with a positive number is refused with that number
  pub ruled_refused : (r : Reply A) (n : ℕ) → outcome r ≡ reply n tt → 0 < n → r ≡ refused n
  unfolding outcome reply
  ruled_refused r zero e h = absurd (omega arith)
  ruled_refused (refused m) (suc n) e h = cc
  ruled_refused (accepted a) (suc n) e h = absurd (let z : ◌≡◌ {A = ℕ} 0 1 = cc in omega arith)

  module _ (view : Reply A) (n : ℕ) where
    -- refused with the number of the checks
    pub reply_refused : (m : ℕ) (value : A) → view ≡ refused m → m ≡ n → (m ≡ 0 → ⊥) → view ≡ reply n value
    reply_refused m value e number some = e ∙ refused_reply m value some ∙ ap (λ k. reply k value) number

    -- accepted with this value
    pub reply_accepted : (value : A) → view ≡ accepted value → n ≡ 0 → view ≡ reply n value
    unfolding reply
    reply_accepted value e none = rw (e, none)

    -- refused with the number of the checks, for any value
    pub outcome_refused : (m : ℕ) → view ≡ refused m → m ≡ n → (m ≡ 0 → ⊥) → outcome view ≡ reply n tt
    unfolding outcome
    outcome_refused m e number some = rw (e, ← number) (refused_reply m tt some)

    -- accepted, for any value
    pub outcome_accepted : (value : A) → view ≡ accepted value → n ≡ 0 → outcome view ≡ reply n tt
    unfolding outcome reply
    outcome_accepted value e none = rw (e, none)
