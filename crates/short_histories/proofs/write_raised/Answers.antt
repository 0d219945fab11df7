use Rattle.short_histories.proofs.Prelude.{◌∙◌, arith}
use Rattle.short_histories.specs.inner.Raised.{raised}
use Rattle.short_histories.proofs.RaisingSteps.{written_all}
use Rattle.short_histories.proofs.write_raised.Goals as goal

pub returns : goal.returns
returns c =
    let l = c.loop-at in
    l.invariant ∙ written_all (raised c.args.sequence.now c.args.end) c.args.output.now l.at (omega (arith, l.auto.at-end, c.loop-at-test.false, c.requires.1))
