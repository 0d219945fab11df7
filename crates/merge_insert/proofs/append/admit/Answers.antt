-- `merge_insert::append::admit` meets its contract: a stop, or the entries with the next row's. Assumes nothing.
use Rattle.merge_insert.proofs.Prelude.{arith, refl, sym, ◌∙◌, stops_full, stops_old, admit_entered}
use Rattle.merge_insert.proofs.append.admit.Goals as goal

pub returns-then-h : goal.returns-then-h
returns-then-h c = (stops_full _ _ (omega arith), refl)

pub returns-then-is_old : goal.returns-then-is_old
returns-then-is_old c = (stops_old _ _ c.if-h.false (sym c.is_old.ensures ∙ c.if-is_old.true), refl)

pub returns : goal.returns
returns c = admit_entered _ _ _ c.requires c.if-h.false _ _ c.append_entry.ensures (sym c.is_old.ensures ∙ c.if-is_old.false)
