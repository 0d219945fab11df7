-- `key_index::is_absent` meets its contract. Assumes nothing.
use Rattle.key_index.proofs.Prelude.{false≢true}
use Rattle.key_index.proofs.is_absent.Goals as goal

pub returns-then-store-home : goal.returns-then-store-home
returns-then-store-home c = λ e. absurd (false≢true e)

pub returns : goal.returns
returns c = λ e. (c.if-store-home.false, c.is_missing.ensures e)
