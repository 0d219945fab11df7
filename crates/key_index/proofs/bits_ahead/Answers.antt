-- `key_index::bits_ahead` meets its contract. Assumes nothing.
use Rattle.key_index.proofs.Prelude.{ℕ, ◌+◌, ◌/◌, ◌%◌, ◌^◌, ◌≤◌, ◌<◌, ◌≡◌, arith, rules, eqb, get_or, false, eqb-false}
use Rattle.key_index.proofs.bits_ahead.Goals as goal

pub returns : goal.returns
returns c =
    let each : (k : ℕ) → 1 ≤ k → k < c.nearest.result → eqb (get_or c.args.store.now (c.args.home + k) 0 / 2 ^ 17) (c.args.hash % 2 ^ 15) ≡ false = λ k i h.
    let e = c.nearest.ensures.each k i h in search rules in
    record { below = c.nearest.ensures.below; others = λ k i h. let j : 1 ≤ k = omega arith in eqb-false _ _ (each k j h) }
