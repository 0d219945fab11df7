-- `key_index::is_missing` meets its contract. Assumes nothing.
use Rattle.key_index.proofs.Prelude.{ℕ, ◌+◌, ◌-◌, ◌/◌, ◌%◌, ◌^◌, ◌≤◌, ◌<◌, ◌≡◌, sym, ◌∙◌, arith, rules, length, take, drop, get_or, eqb-false, eqb-true}
use Rattle.key_index.proofs.WindowSteps.{soon_window, window_length, window_word}
use Rattle.key_index.proofs.is_missing.Goals as goal

pub returns-then-some_word-2 : goal.returns-then-some_word-2
returns-then-some_word-2 c = λ _.
    let fits : c.args.home + 1 + 8 ≤ length c.args.store.now = omega arith in
    let found = c.some_word-2.ensures.some c.if-some_word-2.true in
    let size = window_length c.args.store.now (c.args.home + 1) 8 fits in
    let inside : found.0 < 8 = rw size at found.1 in
    let free : get_or (take (c.args.home + 1 + 8 - (c.args.home + 1)) (drop (c.args.home + 1) c.args.store.now)) found.0 0 ≡ 0 =
    let e = found.2 in eqb-true _ 0 (search rules) in
    let others : (k : ℕ) → k < 8 → get_or c.args.store.now (c.args.home + 1 + k) 0 / 2 ^ 17 ≡ c.args.hash % 2 ^ 15 → ⊥ = λ k h.
    let i : k < length (take (c.args.home + 1 + 8 - (c.args.home + 1)) (drop (c.args.home + 1) c.args.store.now)) = rw size h in
    let e = c.some_word.ensures.none c.if-some_word.false k i in
    rw (← window_word c.args.store.now (c.args.home + 1) 8 fits k h) (eqb-false _ _ (search rules)) in
    soon_window _ _ _ _ found.0 (omega arith) (sym (window_word c.args.store.now (c.args.home + 1) 8 fits found.0 inside) ∙ free) (λ k h. others k (omega arith))
