-- `offsets::retain::RetainBuilder::new` meets its contract. Assumes nothing.
use Rattle.offsets.proofs.Grow.{begun}
use Rattle.offsets.proofs.retain.RetainBuilder.new.Goals as goal

pub returns : goal.returns
returns c = begun
