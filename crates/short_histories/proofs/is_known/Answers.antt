-- `short_histories::is_known` meets its contract. Assumes nothing.
use Rattle.std.proofs.Common.{rules}
use Rattle.std.specs.Prelude.{EachIndex, ◌↔◌, IsTrue}
use Rattle.short_histories.proofs.Prelude.{sym, ◌∙◌, ◌<◌, get_or, lt-leb}
use Rattle.short_histories.proofs.LoopSteps.{too_long, known_tested}
use Rattle.short_histories.proofs.is_known.Goals as goal

pub returns-then-sequence-le-LONGEST : goal.returns-then-sequence-le-LONGEST
returns-then-sequence-le-LONGEST c =
    let s = c.args.sequence.now in
    let tested : IsTrue c.all.result ↔ EachIndex s (λ k. get_or s k 0 < 7) = search rules in
    known_tested s c.if-sequence-le-LONGEST.true c.all.result tested

pub returns-else-sequence-le-LONGEST : goal.returns-else-sequence-le-LONGEST
returns-else-sequence-le-LONGEST c = let h = c.if-sequence-le-LONGEST.false in lt-leb _ 6 h ∙ sym (too_long _ h)
