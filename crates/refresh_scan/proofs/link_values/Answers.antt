use Rattle.refresh_scan.proofs.Prelude.{◌≡◌, arith, length}
use Rattle.refresh_scan.proofs.Links.{linked_on}
use Rattle.refresh_scan.proofs.link_values.Goals as goal

pub loop-place-preserved : goal.loop-place-preserved
loop-place-preserved c = linked_on _ _ _ c.loop-place.invariant c.loop-place-test.true _ c.bucket_place-bucket.ensures.0

pub returns : goal.returns
returns c =
    let e : c.loop-place.place ≡ length c.args.values.now = omega arith in
    rw e at c.loop-place.invariant
