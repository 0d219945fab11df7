-- `abi_replay::mouldgrey_sequence_at` meets its contract. Assumes nothing.
use Rattle.abi.specs.Laws.Encoding.{answers, stored_found}
use Rattle.abi_replay.proofs.mouldgrey_sequence_at.Goals as goal

pub returns : goal.returns
returns c = answers c.sequence_at-found.ensures (stored_found _ c.store.ensures.refused c.store.ensures.accepted)
