-- `key_index::slot_word` meets its contract. Assumes nothing.
use Rattle.key_index.proofs.Prelude.{refl, rules}
use Rattle.key_index.specs.inner.Ring.{tagged}
use Rattle.key_index.proofs.slot_word.Goals as goal

pub overflow_mul-result : goal.overflow_mul-result
unfolding tagged
overflow_mul-result c = search rules

pub overflow_add-result : goal.overflow_add-result
unfolding tagged
overflow_add-result c = search rules

pub overflow_add-result-2 : goal.overflow_add-result-2
unfolding tagged
overflow_add-result-2 c = search rules

pub returns : goal.returns
unfolding tagged
returns c = refl
