-- What tests of several slots at once show. Assumes nothing.
use Rattle.std.specs.Prelude.{ℕ, ◌+◌, ◌/◌, ◌%◌, ◌^◌, ◌<◌, ◌≡◌, List, get_or}

-- the slot d after a hash's home is before the end of the ring, and no slot between the two has the hash's bits
pub record Ahead (n : ℕ) (store : List ℕ) (home hash d : ℕ) : Type 0 where
  pub below : home + d < n
  pub others : (e : ℕ) → 0 < e → e < d → get_or store (home + e) 0 / 2 ^ 17 ≡ hash % 2 ^ 15 → ⊥

-- the same, and the slot is free
pub record FreeSoon (n : ℕ) (store : List ℕ) (home hash d : ℕ) : Type 0 where
  pub ahead : Ahead n store home hash d
  pub free : get_or store (home + d) 0 ≡ 0

-- the `run` slots from `start` on are taken, and are before the end of the ring
pub record TakenRun (n : ℕ) (store : List ℕ) (start run : ℕ) : Type 0 where
  pub below : start + run < n
  pub each : (e : ℕ) → e < run → get_or store (start + e) 0 ≡ 0 → ⊥

-- the same, and none of them has these 15 bits
pub record OtherRun (n : ℕ) (store : List ℕ) (start bits run : ℕ) : Type 0 where
  pub taken : TakenRun n store start run
  pub others : (e : ℕ) → e < run → get_or store (start + e) 0 / 2 ^ 17 ≡ bits → ⊥
