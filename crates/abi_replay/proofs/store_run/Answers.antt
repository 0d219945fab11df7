-- `abi_replay::store_run` meets its contract. Assumes nothing.
use mathlib.Core.Path.{refl}
use Rattle.refusals.specs.Refusals.{if_accepted}
use Rattle.abi.specs.Encoding.{returned}
use borrow.Author.Rules.{rules}
use Rattle.abi_replay.specs.Encoding.{encode_run}
use Rattle.abi_replay.proofs.store_run.Goals as goal

pub returns : goal.returns
unfolding encode_run returned if_accepted
returns c = record { returns = refl; stores = search rules }
