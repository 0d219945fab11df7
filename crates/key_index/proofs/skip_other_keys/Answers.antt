-- `key_index::skip_other_keys` meets its contract. Assumes nothing.
use Rattle.key_index.proofs.Prelude.{ℕ, ◌+◌, ◌/◌, ◌^◌, ◌<◌, ◌≡◌, ◌||◌, rules, eqb, get_or, false, eqb-false, or_no_left, or_no_right}
use Rattle.key_index.proofs.skip_other_keys.Goals as goal

pub returns : goal.returns
returns c =
    let each : (k : ℕ) → k < c.skip_windows.result
    → (eqb (get_or c.args.store.now (c.args.from + k) 0) 0 || eqb (get_or c.args.store.now (c.args.from + k) 0 / 2 ^ 17) c.args.bits) ≡ false = λ k h.
    let e = c.skip_windows.ensures.each k h in search rules in
    record {
      taken = record { below = c.skip_windows.ensures.below; each = λ k h. eqb-false _ 0 (or_no_left _ _ (each k h)) };
      others = λ k h. eqb-false _ _ (or_no_right (eqb (get_or c.args.store.now (c.args.from + k) 0) 0) _ (each k h));
    }
