-- `abi_replay::mouldgrey_replay` meets its contract. Assumes nothing.
use Rattle.abi.specs.Laws.Encoding.{answers, stored_answer}
use Rattle.abi_replay.proofs.mouldgrey_replay.Goals as goal

pub returns : goal.returns
returns c = answers c.replay-answer.ensures (stored_answer _ c.store.ensures.refused c.store.ensures.accepted)
