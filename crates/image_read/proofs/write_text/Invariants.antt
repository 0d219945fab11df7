-- `image_read::write_text` meets its contract. The loop's invariant: the first i bytes are the text's, the others as they were. Assumes nothing.
use Rattle.image_read.proofs.Prelude.{◌≡◌, ◌++◌, take, drop, bytes_of}
use Rattle.image_read.proofs.write_text.Given as goal

abbrev pub invariant-loop-i : goal.invariant-loop-i
invariant-loop-i l = l.byte-items ≡ take l.i (take l.count (bytes_of (drop 15 l.words))) ++ drop l.i l.initial.byte-items
