-- `levels::finish` meets its contract. Assumes nothing.
use Rattle.levels.proofs.Prelude.{refl, sym, ◌∙◌, false≢true}
use Rattle.levels.proofs.finish.Goals as goal

pub returns-then-is_written : goal.returns-then-is_written
returns-then-is_written c =
    record { same_state = refl; all_handed = λ e. c.flush-last.ensures; unwritten = λ e. absurd (false≢true (sym e ∙ (sym c.is_written.ensures ∙ c.if-is_written.true))) }

pub returns : goal.returns
returns c = record { same_state = refl; all_handed = λ e. absurd (false≢true (sym c.if-is_written.false ∙ (c.is_written.ensures ∙ e))); unwritten = λ e. refl }
