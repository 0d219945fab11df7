-- `image_write::parts::write_text` meets its contract. The loop's invariant: the first i words of the part are those of the text, the
-- others as they were. Assumes nothing.
use Rattle.image_write.proofs.Prelude.{◌≡◌, ◌++◌, take, drop, packed}
use Rattle.image_write.proofs.parts.write_text.Given as goal

abbrev pub invariant-loop-i : goal.invariant-loop-i
invariant-loop-i l = l.word-items ≡ take l.i (packed l.text) ++ drop l.i l.initial.word-items
