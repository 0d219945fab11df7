-- `key_index::replace` meets its contract. Assumes nothing.
use Rattle.key_index.proofs.Prelude.{ap, set}
use Rattle.key_index.proofs.replace.Goals as goal

pub returns : goal.returns
returns c = let a = c.args in ap (set a.store.now a.slot) c.slot_word.ensures
