-- The next sequence, as an odometer counts. Assumes nothing.
use Rattle.std.specs.Prelude.{ℕ, zero, suc, ◌+◌, ◌-◌, ◌≤◌, ◌<◌, ◌≡◌, ◌≢◌, true, List, ◌∷◌, ◌++◌, length, take, drop, get_or, replicate}
use Rattle.short_histories.specs.Sequences.{known}

-- the steps from `end` on are 6, and the one before them, if there is one, is not
pub record RaisedEnd (sequence : List ℕ) (end : ℕ) : Type 0 where
  pub inside : end ≤ length sequence
  pub sixes : drop end sequence ≡ replicate (length sequence - end) 6
  pub raisable : 0 < end → get_or sequence (end - 1) 0 ≢ 6

-- the step before `end` is one higher, and those behind it are 0; if there is none before, the sequence is one step longer
unfoldable pub raised : List ℕ → ℕ → List ℕ
raised sequence zero = replicate (suc (length sequence)) 0
raised sequence (suc last) = take last sequence ++ ((get_or sequence last 0 + 1) ∷ replicate (length sequence - suc last) 0)

pub record ToRaise (sequence : List ℕ) (end : ℕ) : Type 0 where
  pub is_known : known sequence ≡ true
  pub ended : RaisedEnd sequence end
