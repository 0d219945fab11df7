-- `levels_io::input::scan_chunk` meets its contract. Assumes nothing.
use Rattle.levels_io.proofs.Prelude.{arith, length-take, length-drop, scanned_newline, scanned_all}
use Rattle.std.proofs.Common.{sym, ◌∙◌}
use Rattle.levels_io.proofs.input.scan_chunk.Goals as goal

pub returns-in-Some : goal.returns-in-Some
returns-in-Some c = scanned_newline _ _ (sym c.newline.ensures ∙ c.in-Some.is) c.store.ensures

pub returns-in-None : goal.returns-in-None
returns-in-None c =
    scanned_all _ _ (sym c.newline.ensures ∙ c.in-None.is) (simp (length-take, length-drop) (omega (arith, c.requires.from_le_end, c.requires.end_bound))) c.store-in-None.ensures
