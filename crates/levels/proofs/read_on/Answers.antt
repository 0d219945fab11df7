-- `levels::read_on` meets its contract. Assumes nothing.
use Rattle.levels.proofs.Prelude.{refl, sym, ◌∙◌, false≢true}
use Rattle.levels.proofs.read_on.Goals as goal

pub returns-then-is_written : goal.returns-then-is_written
returns-then-is_written c =
    record {
      same_length = refl;
      all_handed = c.flush-handed.ensures;
      no_line = refl;
      reads = λ e. (refl, c.refill-input.ensures);
      fails = λ e. absurd (false≢true (sym e ∙ (sym c.is_written.ensures ∙ c.if-is_written.true)));
    }

pub returns : goal.returns
returns c =
    record {
      same_length = refl;
      all_handed = c.flush-handed.ensures;
      no_line = refl;
      reads = λ e. absurd (false≢true (sym c.if-is_written.false ∙ (c.is_written.ensures ∙ e)));
      fails = λ e. (refl, refl, refl);
    }
