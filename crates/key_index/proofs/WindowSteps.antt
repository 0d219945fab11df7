-- What tests of several slots at once imply. Assumes nothing.
use Rattle.key_index.proofs.Prelude.{ℕ, ◌+◌, ◌-◌, ◌/◌, ◌%◌, ◌^◌, ◌≤◌, ◌<◌, ◌≡◌, ap, ◌∙◌, List, add_assoc, add-zero, arith, length, take, drop, get_or, Ahead, FreeSoon}
use Rattle.std.proofs.Common.{subst}
use Rattle.key_index.proofs.ScanSteps.{below_then}
use Rattle.std.proofs.lemmas.List.{get_or-take, get_or-drop, length-take-le, length-drop}

-- the n slots from `from` on, as a slice
module _ (store : List ℕ) (from n : ℕ) (fits : from + n ≤ length store) where
  pub window_length : length (take (from + n - from) (drop from store)) ≡ n
  window_length =
      let e : from + n - from ≡ n = omega arith in
      let k : from + n - from ≤ length (drop from store) = omega (arith, length-drop from store) in
      length-take-le (from + n - from) (drop from store) k ∙ e

  pub window_word : (i : ℕ) → i < n → get_or (take (from + n - from) (drop from store)) i 0 ≡ get_or store (from + i) 0
  window_word i h =
      let k : i < from + n - from = omega arith in
      get_or-take (from + n - from) (drop from store) i 0 k ∙ get_or-drop from store i 0

-- ---- the answers of `is_missing`

pub ahead_none : (n : ℕ) (store : List ℕ) (home hash : ℕ) → home < n → Ahead n store home hash 0
ahead_none n store home hash h = record { below = omega arith; others = λ e p q. absurd (omega arith) }

module _ (n : ℕ) (store : List ℕ) (home hash : ℕ) where
  pub soon_home : home < n → get_or store home 0 ≡ 0 → (d : ℕ) × FreeSoon n store home hash d
  soon_home h z = (0, record { ahead = ahead_none n store home hash h; free = rw (add-zero home) z })

  -- a slot of the window after the home is free, and none there has the hash's bits
  pub soon_window : (i : ℕ) → home + (i + 1) < n → get_or store (home + 1 + i) 0 ≡ 0
      → ((k : ℕ) → k < i → get_or store (home + 1 + k) 0 / 2 ^ 17 ≡ hash % 2 ^ 15 → ⊥) → (d : ℕ) × FreeSoon n store home hash d
  soon_window i h z none =
      let e : home + 1 + i ≡ home + (i + 1) = omega arith in
      (i + 1, record { ahead = record { below = h; others = other }; free = rw e at z })
    where
      other : (e : ℕ) → 0 < e → e < i + 1 → get_or store (home + e) 0 / 2 ^ 17 ≡ hash % 2 ^ 15 → ⊥
      other e p q b =
          let k : home + 1 + (e - 1) ≡ home + e = omega arith in
          none (e - 1) (omega arith) (ap (λ (k : ℕ). get_or store k 0 / 2 ^ 17) k ∙ b)

-- a slot that is not free
abbrev pub Taken : ℕ → Type 0
Taken w = w ≡ 0 → ⊥

-- what holds of each slot of a run, and of each of the window behind it, holds of each of the longer run
pub window_more : (P : ℕ → Type 0) (store : List ℕ) (from run n : ℕ) → from + run + n ≤ length store
    → ((k : ℕ) → k < run → P (get_or store (from + k) 0))
    → ((k : ℕ) → k < length (take (from + run + n - (from + run)) (drop (from + run) store)) → P (get_or (take (from + run + n - (from + run)) (drop (from + run) store)) k 0))
    → (k : ℕ) → k < run + n → P (get_or store (from + k) 0)
window_more P store from run n fits each window =
    below_then _ run n each (λ k h.
    let e = window_word store (from + run) n fits k h in
    let i : k < length (take (from + run + n - (from + run)) (drop (from + run) store)) = rw (window_length store (from + run) n fits) h in
    rw (← add_assoc from run k) (subst P e (window k i)))
