-- The scan of the loops of `find` and `put` round the slots: its start, one step, and a step over several slots. Assumes nothing.
use Rattle.key_index.proofs.Prelude.{ℕ, ◌+◌, ◌-◌, ◌<◌, ◌≡◌, sym, ap, ◌∙◌, List, zero-add, arith, get_or, dec_lt, below_more, slot_from, slot_below, slot_low, slot_zero, slot_then}

-- what holds below a, and of the next b, holds below a + b
pub below_then : (P : ℕ → Type 0) (a b : ℕ) → ((k : ℕ) → k < a → P k) → ((k : ℕ) → k < b → P (a + k)) → (k : ℕ) → k < a + b → P k
below_then P a b low high k h =
    elim (dec_lt k a) [
      | yes q ↦ low k q
      | no q ↦ let e : a + (k - a) ≡ k = omega arith in rw (← e) (high (k - a) (omega arith))
    ]

-- `passed` slots from `start` on were passed, each for the reason P, and `at` is the next
pub record ScannedSlots (n : ℕ) (store : List ℕ) (P : ℕ → Type 0) (start at passed : ℕ) : Type 0 where
  pub here : at ≡ slot_from n start passed
  pub inside : at < n
  pub each : (e : ℕ) → e < passed → P (get_or store (slot_from n start e) 0)

module _ (n : ℕ) (store : List ℕ) (P : ℕ → Type 0) (start : ℕ) where
  pub begin : (at : ℕ) → at ≡ start → at < n → ScannedSlots n store P start at 0
  begin at e h =
      let k : start < n = omega arith in
      record { here = e ∙ sym (slot_zero n start k); inside = h; each = λ e k. absurd (omega arith) }

  pub on : (at passed next : ℕ) → ScannedSlots n store P start at passed → passed < n → P (get_or store at 0) → next ≡ slot_from n at 1
      → ScannedSlots n store P start next (passed + 1)
  on at passed next w h p e =
      let some : 0 < n = omega arith in
      let q : P (get_or store (slot_from n start passed) 0) = rw w.here at p in
      record {
        here = e ∙ ap (λ (a : ℕ). slot_from n a 1) w.here ∙ slot_then n start passed 1;
        inside = rw e (slot_below n at 1 some);
        each = below_more _ passed w.each q;
      }

  -- the next r slots are passed at once; they are before the end of the ring
  pub on_run : (at passed r : ℕ) → ScannedSlots n store P start at passed → at + r < n → ((e : ℕ) → e < r → P (get_or store (at + e) 0))
      → ScannedSlots n store P start (at + r) (passed + r)
  on_run at passed r w h each =
      record {
        here = sym (ahead r h);
        inside = h;
        each = below_then _ passed r w.each (λ e k. rw (ahead e (omega arith)) (each e k));
      }
    where
      ahead : (e : ℕ) → at + e < n → slot_from n start (passed + e) ≡ at + e
      ahead e k = sym (slot_then n start passed e) ∙ ap (λ (a : ℕ). slot_from n a e) (sym w.here) ∙ slot_low n at e k

  -- the start after d slots that are before the end of the ring
  pub begin_past : (at d : ℕ) → at ≡ start → at + d < n → ((e : ℕ) → e < d → P (get_or store (at + e) 0)) → ScannedSlots n store P start (at + d) d
  begin_past at d e h each = rw (zero-add d) at (on_run at 0 d (begin at e (omega arith)) h each)
