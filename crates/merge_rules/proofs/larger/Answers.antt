-- `merge_rules::larger` meets its contract. Assumes nothing.
use Rattle.merge_rules.proofs.Prelude.{◌∙◌}
use Rattle.merge_rules.proofs.Laws.{larger_law}
use Rattle.merge_rules.proofs.larger.Goals as goal

pub returns : goal.returns
returns c =
    c.cast_unsigned.ensures ∙ larger_law c.args.a c.args.b c.ranges.a.fits c.ranges.b.fits _ _ _ c.cast_signed-2.ensures c.cast_signed.ensures c.max.ensures.value
