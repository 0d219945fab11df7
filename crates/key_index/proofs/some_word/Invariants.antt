-- `key_index::some_word` meets its contract. The loop's invariant says it of the words read. Assumes nothing.
use Rattle.key_index.proofs.Prelude.{ℕ, ◌<◌, ◌≡◌, true, false, get_or}
use Rattle.key_index.proofs.some_word.Given as goal

abbrev pub invariant-loop-word : goal.invariant-loop-word
invariant-loop-word g l =
    (l.some ≡ true → (k : ℕ) × (k < l.word-index) × goal.F-post g l.test (get_or l.window k 0) true)
    × (l.some ≡ false → (k : ℕ) → k < l.word-index → goal.F-post g l.test (get_or l.window k 0) false)
