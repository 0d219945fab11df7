-- `merge_rules::smaller` meets its contract. Assumes nothing.
use Rattle.merge_rules.proofs.Prelude.{◌∙◌}
use Rattle.merge_rules.proofs.Laws.{smaller_law}
use Rattle.merge_rules.proofs.smaller.Goals as goal

pub returns : goal.returns
returns c =
    c.cast_unsigned.ensures ∙ smaller_law c.args.a c.args.b c.ranges.a.fits c.ranges.b.fits _ _ _ c.cast_signed.ensures c.cast_signed-2.ensures c.min.ensures.value
