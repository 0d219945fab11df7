-- `abi_replay::encode_step` meets its contract. Assumes nothing.
use Rattle.abi_replay.specs.Encoding.{encode_step}
use Rattle.abi_replay.proofs.encode_step.Goals as goal

pub returns-in-Insert : goal.returns-in-Insert
unfolding encode_step
returns-in-Insert c = rw c.in-Insert.is

pub returns-in-Remove : goal.returns-in-Remove
unfolding encode_step
returns-in-Remove c = rw c.in-Remove.is

pub returns-in-Merge : goal.returns-in-Merge
unfolding encode_step
returns-in-Merge c = rw c.in-Merge.is
