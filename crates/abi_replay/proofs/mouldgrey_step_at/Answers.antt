-- `abi_replay::mouldgrey_step_at` meets its contract. Assumes nothing.
use Rattle.std.proofs.Common.{refl}
use Rattle.abi.specs.Laws.Encoding.{answers, stored_result}
use Rattle.abi_replay.specs.Encoding.{step_words, encode_step}
use Rattle.abi_replay.proofs.mouldgrey_step_at.Goals as goal

pub returns : goal.returns
unfolding step_words
returns c = answers c.step_at.ensures (stored_result encode_step (λ v. refl) (λ r. refl) _ c.store.ensures.refused c.store.ensures.accepted)
