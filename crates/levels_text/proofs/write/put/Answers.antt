-- `levels_text::write::put` meets its contract. Assumes nothing.
use Rattle.levels_text.proofs.Prelude.{rules, appended_one}
use Rattle.levels_text.proofs.write.put.Goals as goal

pub returns : goal.returns
returns c = appended_one _ _ _ (search rules)
