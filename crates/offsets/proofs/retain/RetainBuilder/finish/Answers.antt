-- `offsets::retain::RetainBuilder::finish` meets its contract. Assumes nothing.
use Rattle.offsets.proofs.Grow.{ended_range, ended_list}
use Rattle.offsets.proofs.retain.RetainBuilder.finish.Goals as goal

pub overflow_add-result : goal.overflow_add-result
overflow_add-result c = record { fits = c.requires c.if-self-eq0.true }

pub returns-then-self-eq0 : goal.returns-then-self-eq0
returns-then-self-eq0 c = ended_range _ c.if-self-eq0.true

pub returns : goal.returns
returns c = ended_list _ c.if-self-eq0.false
