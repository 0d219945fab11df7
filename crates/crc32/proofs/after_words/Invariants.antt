-- `crc32::after_words` meets its contract. The loops' invariants: the register after the words to come, from the register so far, is
-- that after all words. Assumes nothing.
use Rattle.crc32.proofs.Prelude.{◌*◌, ◌≡◌, foldl, drop}
use Rattle.crc32.specs.Crc.{byte_step, bytes_of}
use Rattle.crc32.proofs.after_words.Given as goal

abbrev pub invariant-loop-pair : goal.invariant-loop-pair
invariant-loop-pair l = foldl byte_step 4294967295 (bytes_of l.words) ≡ foldl byte_step l.register (bytes_of (drop (l.pair-index * 2) l.words))

abbrev pub invariant-loop-word : goal.invariant-loop-word
invariant-loop-word l = foldl byte_step 4294967295 (bytes_of l.words) ≡ foldl byte_step l.register (bytes_of (drop l.word-index l.last))
