-- `abi::store_match` meets its contract. Assumes nothing.
use Rattle.abi.specs.Laws.Encoding.{stored_answer}
use Rattle.abi.proofs.store_match.Goals as goal

pub returns : goal.returns
returns c = stored_answer _ c.store.ensures.refused c.store.ensures.accepted
