-- `key_index::skip_taken` meets its contract. Assumes nothing.
use Rattle.key_index.proofs.Prelude.{rules, eqb-false}
use Rattle.key_index.proofs.skip_taken.Goals as goal

pub returns : goal.returns
returns c = record { below = c.skip_windows.ensures.below; each = λ k h. let e = c.skip_windows.ensures.each k h in eqb-false _ 0 (search rules) }
