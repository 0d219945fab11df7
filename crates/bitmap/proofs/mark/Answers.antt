-- `bitmap::mark` meets its contract. Assumes nothing.
use Rattle.bitmap.proofs.Prelude.{length-set, rules}
use Rattle.bitmap.proofs.Marking.{marked_new, marked_already}
use Rattle.bitmap.proofs.mark.Goals as goal

pub bounds-words-over-2 : goal.bounds-words-over-2
bounds-words-over-2 c = simp length-set (search rules)

pub returns-then-word-bit-eq0 : goal.returns-then-word-bit-eq0
returns-then-word-bit-eq0 c = let s = c.requires in marked_new _ _ s.0 s.1 (c.slice_known-1.given _).fits c.if-word-bit-eq0.true

pub returns : goal.returns
returns c = let s = c.requires in marked_already _ _ s.0 s.1 (c.slice_known-1.given _).fits c.if-word-bit-eq0.false
