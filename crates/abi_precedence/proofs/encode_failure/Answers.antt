-- `abi_precedence::encode_failure` meets its contract. Assumes nothing.
use Rattle.abi_precedence.specs.Encoding.{encode_failure, failure_of}
use Rattle.abi_precedence.proofs.encode_failure.Goals as goal

pub returns-in-None : goal.returns-in-None
unfolding encode_failure failure_of
returns-in-None c = rw c.in-None.is

pub returns-in-Some : goal.returns-in-Some
unfolding encode_failure failure_of
returns-in-Some c = rw c.in-Some.is
