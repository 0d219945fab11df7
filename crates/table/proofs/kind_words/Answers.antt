-- `table::kind_words` meets its contract. Assumes nothing.
use Rattle.table.proofs.KindSteps.{words_insert, words_removal}
use Rattle.table.proofs.kind_words.Goals as goal

pub returns-then-kind-eq-INSERT : goal.returns-then-kind-eq-INSERT
returns-then-kind-eq-INSERT c = words_insert _ _ c.if-kind-eq-INSERT.true

pub returns : goal.returns
returns c = words_removal _ _ c.requires.2 c.if-kind-eq-INSERT.false
