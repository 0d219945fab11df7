use Rattle.key_index.proofs.Prelude.{false, arith}
use Rattle.key_index.proofs.WindowSteps.{window_more}
use Rattle.key_index.proofs.skip_windows.Given as given
use Rattle.key_index.proofs.skip_windows.Goals as goal

pub loop-run-preserved : goal.loop-run-preserved
loop-run-preserved g c =
    (omega arith, window_more (λ w. given.F-post g c.args.test w false) _ _ _ _ (omega arith) c.loop-run.invariant.1 (c.some_word.ensures.none c.if-some_word.false))
