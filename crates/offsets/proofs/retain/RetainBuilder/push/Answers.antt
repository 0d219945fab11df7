-- `offsets::retain::RetainBuilder::push` meets its contract. Assumes nothing.
use Rattle.std.proofs.Common.{refl}
use Rattle.offsets.specs.inner.RetainBuilder.{pushed}
use Rattle.offsets.proofs.retain.RetainBuilder.push.Goals as goal

pub returns : goal.returns
returns c = unfold pushed in (refl, refl)
