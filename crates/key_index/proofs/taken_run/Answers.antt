-- `key_index::taken_run` meets its contract. Assumes nothing.
use Rattle.key_index.proofs.Prelude.{ℕ, ◌+◌, ◌≤◌, ◌<◌, ◌≡◌, arith, rules, eqb, get_or, false, eqb-false}
use Rattle.key_index.proofs.taken_run.Goals as goal

pub returns : goal.returns
returns c =
    let each : (k : ℕ) → k < c.nearest.result → eqb (get_or c.args.store.now (c.args.start + k) 0) 0 ≡ false = λ k h.
    let i : 0 ≤ k = omega arith in
    let e = c.nearest.ensures.each k i h in search rules in
    record { below = c.nearest.ensures.below; each = λ k h. eqb-false _ 0 (each k h) }
