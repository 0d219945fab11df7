use Rattle.refresh_scan.proofs.Links.{link_scan_begin, link_scan_end, link_scan_found, link_scan_less, link_scan_on}
use Rattle.refresh_scan.proofs.is_among.Goals as goal

pub loop-link-init : goal.loop-link-init
loop-link-init c = link_scan_begin _ _ _ c.requires _ c.bucket_place.ensures.0

pub returns-then-values-link : goal.returns-then-values-link
returns-then-values-link c =
    link_scan_found _ _ _ c.requires _ c.loop-link.invariant c.loop-link-test.true c.if-values-link.true

pub loop-link-smaller : goal.loop-link-smaller
loop-link-smaller c =
    link_scan_less _ _ _ c.requires _ c.loop-link.invariant c.loop-link-test.true

pub loop-link-preserved : goal.loop-link-preserved
loop-link-preserved c =
    link_scan_on _ _ _ c.requires _ c.loop-link.invariant c.loop-link-test.true c.if-values-link.false

pub returns : goal.returns
returns c = link_scan_end _ _ _ c.requires _ c.loop-link.invariant c.loop-link-test.false
