-- `abi_replay::mouldgrey_position_of` meets its contract. Assumes nothing.
use Rattle.abi.specs.Laws.Encoding.{answers, stored_answer}
use Rattle.abi_replay.proofs.mouldgrey_position_of.Goals as goal

pub returns : goal.returns
returns c = answers c.position_of-found.ensures (stored_answer _ c.store.ensures.refused c.store.ensures.accepted)
