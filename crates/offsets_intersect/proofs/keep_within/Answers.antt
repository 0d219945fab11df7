-- `offsets_intersect::keep_within` meets its contract. Assumes nothing.
use Rattle.offsets_intersect.proofs.Prelude.{arith, not_below_mono}
use Rattle.offsets_intersect.proofs.Common.{wrote_within}
use Rattle.offsets_intersect.proofs.keep_within.Goals as goal

pub returns : goal.returns
returns c = let p = c.requires in
    let l = c.binary_search_by_id-low.ensures.first p.0.up in
    let m = not_below_mono _ _ _ p.0.up p.1 in
    let h = c.binary_search_from-high.ensures.first p.0.up (omega arith) in
    wrote_within _ _ _ _ _ _ _ p.0.up p.1 l h c.write_row.ensures
