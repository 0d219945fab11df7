-- `refresh::is_tight` meets its contract. Assumes nothing.
use Rattle.refresh.proofs.Prelude.{arith}
use Rattle.refresh.proofs.RefreshSteps.{all_words_few}
use Rattle.refresh.proofs.is_tight.Goals as goal

pub overflow_add-h : goal.overflow_add-h
overflow_add-h c = omega (arith, all_words_few _ c.requires)

pub overflow_mul-h : goal.overflow_mul-h
overflow_mul-h c = omega (arith, all_words_few _ c.requires)

pub overflow_add-h-2 : goal.overflow_add-h-2
overflow_add-h-2 c = omega (arith, all_words_few _ c.requires)

pub overflow_mul-h-2 : goal.overflow_mul-h-2
overflow_mul-h-2 c = omega (arith, all_words_few _ c.requires)
