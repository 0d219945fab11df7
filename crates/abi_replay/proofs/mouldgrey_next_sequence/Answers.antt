-- `abi_replay::mouldgrey_next_sequence` meets its contract. Assumes nothing.
use Rattle.abi.specs.Laws.Encoding.{answers, stored_found}
use Rattle.abi_replay.proofs.mouldgrey_next_sequence.Goals as goal

pub returns : goal.returns
returns c = answers c.next_sequence-next.ensures (stored_found _ c.store.ensures.refused c.store.ensures.accepted)
