-- `constraints::meets` meets its contract. Assumes nothing.
use Rattle.constraints.proofs.Prelude.{sym, ◌∙◌}
use Rattle.constraints.proofs.Laws.{meets_live, meets_dead}
use Rattle.constraints.proofs.meets.Goals as goal

pub returns-then-is_live : goal.returns-then-is_live
returns-then-is_live c = c.met.ensures ∙ sym (meets_live _ _ (sym c.is_live.ensures ∙ c.if-is_live.true))

pub returns-else-is_live : goal.returns-else-is_live
returns-else-is_live c = c.if-is_live.false ∙ sym (meets_dead _ _ (sym c.is_live.ensures ∙ c.if-is_live.false))
