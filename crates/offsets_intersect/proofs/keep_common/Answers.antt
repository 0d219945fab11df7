-- `offsets_intersect::keep_common` meets its contract. Assumes nothing.
use Rattle.offsets_intersect.proofs.Prelude.{sym, ◌∙◌, arith}
use Rattle.offsets_intersect.proofs.Similar.{first_longer, second_longer}
use Rattle.offsets_intersect.proofs.Common.{wrote_turned}
use Rattle.offsets_intersect.proofs.keep_common.Goals as goal

pub merge_similar-requires : goal.merge_similar-requires
merge_similar-requires c = let p = c.requires in (p.0, p.1, sym c.are_similar.ensures ∙ c.if-are_similar.true)

pub gallop_along-requires : goal.gallop_along-requires
gallop_along-requires c =
    let p = c.requires in
    let l = c.if-others-ids.true in
    (record { up = p.1.up; short = p.1.short; fits = omega (arith, p.0.fits, l) }, record { up = p.0.up; short = p.0.short }, first_longer _ _ (sym c.are_similar.ensures ∙ c.if-are_similar.false) l)

pub returns-then-others-ids : goal.returns-then-others-ids
returns-then-others-ids c = wrote_turned _ _ _ _ _ c.requires.0.up c.requires.1.up c.gallop_along.ensures

pub gallop_along-requires-2 : goal.gallop_along-requires-2
gallop_along-requires-2 c = let p = c.requires in (p.0, p.1, second_longer _ _ (sym c.are_similar.ensures ∙ c.if-are_similar.false) c.if-others-ids.false)
