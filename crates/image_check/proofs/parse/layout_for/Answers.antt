-- `image_check::parse::layout_for` meets its contract. Assumes nothing.
use Rattle.image_check.proofs.Prelude.{refl, arith}
use Rattle.image_check.proofs.ParsingSteps.{few, layout_is}
use Rattle.image_check.proofs.parse.layout_for.Goals as goal

pub overflow_mul-sorts : goal.overflow_mul-sorts
overflow_mul-sorts c = omega (arith, few c.args.h c.requires.0)

pub overflow_cast-sorts : goal.overflow_cast-sorts
overflow_cast-sorts c = omega (arith, few c.args.h c.requires.0)

pub overflow_add-sorts : goal.overflow_add-sorts
overflow_add-sorts c = omega (arith, few c.args.h c.requires.0)

pub overflow_mul-pending : goal.overflow_mul-pending
overflow_mul-pending c = omega (arith, few c.args.h c.requires.0)

pub overflow_add-pending : goal.overflow_add-pending
overflow_add-pending c = omega (arith, few c.args.h c.requires.0)

pub overflow_add-end : goal.overflow_add-end
overflow_add-end c = omega (arith, few c.args.h c.requires.0)

pub returns : goal.returns
returns c = layout_is _ _ _ _ _ _ (omega (arith, c.div_ceil.ensures)) refl refl refl
