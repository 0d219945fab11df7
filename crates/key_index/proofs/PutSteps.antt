-- The answers of `put`, one law for each return path, and those of `empty`. Assumes nothing.
use Rattle.std.proofs.Common.{◌++◌}
use Rattle.lists.specs.Lists.{splice}
use Rattle.key_index.proofs.Prelude.{ℕ, ◌+◌, ◌*◌, ◌≤◌, ◌<◌, ◌≡◌, refl, sym, ap, ◌∙◌, true, false, false≢true, List, arith, length, get_or, set, drop, length-replicate, drop-set-lt, drop_splice, slot_met, spread, tagged, PutIs, zeros, EmptyIs}
use Rattle.key_index.proofs.ScanSteps.{ScannedSlots}
use Rattle.key_index.proofs.WindowSteps.{Taken}

module _ (n : ℕ) (store : List ℕ) (hash row : ℕ) where
  pub put_here : (at passed : ℕ) → ScannedSlots n store Taken (spread n hash) at passed → passed < n → get_or store at 0 ≡ 0 → (w : ℕ) → w ≡ tagged hash row
      → PutIs n store hash row true (set store at w)
  put_here at passed walk h z w e =
      record {
        yes = λ _. (passed, record { below = h; free = rw (← walk.here) z; way = walk.each }, rw (← walk.here, e));
        full = λ f. absurd (false≢true (sym f));
        kept = λ f. absurd (false≢true (sym f));
        tail = drop-set-lt n store at w walk.inside;
      }

  pub put_none : (at passed : ℕ) → ScannedSlots n store Taken (spread n hash) at passed → n ≤ passed → PutIs n store hash row false store
  put_none at passed walk h =
      record { yes = λ f. absurd (false≢true f); full = λ _. each; kept = λ _. refl; tail = refl }
    where
      each : (slot : ℕ) → slot < n → get_or store slot 0 ≡ 0 → ⊥
      each slot k z =
          let some : 0 < n = omega arith in
          let m = slot_met n some (spread n hash) slot k in
          walk.each m.0 (omega (arith, m.1)) (rw m.2 z)

-- zeros in front of the rest of a store
pub front_zeros : (n : ℕ) (store : List ℕ) → zeros n ++ drop n store ≡ splice store 0 (zeros n)
unfolding splice
front_zeros n store = let e : 0 + length (zeros n) ≡ n = omega (arith, length-replicate {A = ℕ} n 0) in rw e refl

pub empty_end : (room : ℕ) (store store' : List ℕ) → 2 * room ≤ length store → store' ≡ splice store 0 (zeros (2 * room))
    → EmptyIs room store store'
empty_end room store store' h e =
    let r : length (zeros (2 * room)) ≡ 2 * room = length-replicate (2 * room) 0 in
    record {
      free = e;
      tail = ap (drop (2 * room)) e ∙ drop_splice store (zeros (2 * room)) 0 (omega arith) (2 * room) (omega arith);
    }
