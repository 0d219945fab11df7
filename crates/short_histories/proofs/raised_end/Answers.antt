-- `short_histories::raised_end` meets its contract. Assumes nothing.
use Rattle.std.proofs.Common.{rules}
use Rattle.short_histories.proofs.Prelude.{ℕ, ◌+◌, ◌-◌, ◌<◌, ◌≡◌, ◌≢◌, length, get_or, arith}
use Rattle.short_histories.proofs.RaisingSteps.{sixes_from}
use Rattle.short_histories.proofs.raised_end.Goals as goal

pub returns-in-Some : goal.returns-in-Some
returns-in-Some c =
    let s = c.args.sequence.now in
    let last = c.in-Some.last in
    let here : get_or s last 0 ≢ 6 = search rules in
    let behind : (k : ℕ) → last < k → k < length s → get_or s k 0 ≡ 6 = search rules in
    let before : last + 1 - 1 ≡ last = omega arith in
    record { inside = search rules; sixes = sixes_from s (last + 1) (λ k h. behind k (omega arith)); raisable = λ some. rw before here }

pub returns-in-None : goal.returns-in-None
returns-in-None c =
    let s = c.args.sequence.now in
    let all : (k : ℕ) → k < length s → get_or s k 0 ≡ 6 = search rules in
    record { inside = omega arith; sixes = sixes_from s 0 (λ k h. all k); raisable = λ some. absurd (omega arith) }
