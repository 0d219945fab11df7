-- `replay_frames::FramesIterator::next` meets its contract. Assumes nothing.
use Rattle.std.proofs.Common.{arith, ◌≡◌, ℕ, ◌-◌, ◌<◌, ◌≤◌, length, List, [], ◌∷◌, get_or, take, drop, take_all, length-drop, ap}
use Rattle.replay_frames.specs.Items.{items}
use Rattle.replay_frames.specs.Laws.Frames.{framed_cut, framed_whole}
use Rattle.replay_frames.proofs.FramesIterator.next.Goals as goal

module _ (words : List ℕ) where
  -- the words behind the kind and the count
  abbrev rest : List ℕ
  rest = take (length words - 2) (drop 2 words)

  rest_is : rest ≡ drop 2 words
  rest_is = take_all (length words - 2) (drop 2 words) (omega (arith, length-drop 2 words))

  none : length rest < get_or words 1 0 → items words ≡ []
  none h = framed_cut _ words (omega (arith, ap length rest_is, length-drop 2 words))

  first : get_or words 1 0 ≤ length rest → 2 ≤ length words → (a b : List ℕ) → a ≡ take (get_or words 1 0) rest → b ≡ drop (get_or words 1 0) rest
      → items words ≡ (get_or words 0 0, a) ∷ items b
  first h k a b p q = rw (p, q, rest_is) (framed_whole _ words (omega (arith, ap length rest_is, length-drop 2 words)))

pub returns-in_default-clause-steps : goal.returns-in_default-clause-steps
returns-in_default-clause-steps c = let none = framed_cut _ _ (omega arith) in (none, none)

pub returns-in_err-words-clause-steps : goal.returns-in_err-words-clause-steps
returns-in_err-words-clause-steps c = let e = none _ c.in_err-words.ensures.cases in rw c.from_residual.ensures (e, e)

pub returns-clause-steps : goal.returns-clause-steps
returns-clause-steps c = let h = c.in_ok-words.ensures.cases in first _ h.0 c.in-len2-up.len_at_least _ _ h.1 h.2

pub returns-clause-goes : goal.returns-clause-goes
returns-clause-goes c = let e = returns-clause-steps c in record { on = λ _. (tt, tt, omega (arith, ap length e)); keeps = tt; rests = λ _. tt }
