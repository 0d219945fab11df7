use Rattle.refresh_scan.proofs.Prelude.{◌∙◌, rules, arith, nil_from_length, bitmap_of, marked_few}
use Rattle.refresh_scan.proofs.BitmapSteps.{scan_on, no_rows, parts_begin, parts_on, parts_end}
use Rattle.refresh_scan.proofs.mark_unlisted.Goals as goal

pub returns-then-from-h : goal.returns-then-from-h
returns-then-from-h c = no_rows _ _ _ _ _ c.if-from-h.true

pub loop-part-init : goal.loop-part-init
loop-part-init c =
    let e = c.into_iter-part-iterator.ensures.into_iter_gives in
    let p = c.chunks-part-items.ensures in
    record { size = rw e p.size; parted = rw (e, p.rest) (parts_begin _ _ _ _ _) }

pub mark_part-marked-requires : goal.mark_part-marked-requires
mark_part-marked-requires c = (
  scan_on c.requires c.requires.from_inside (c.loop-part.auto.words ∙ c.requires.words_long),
  omega (arith, c.in-Some.ensures.steps.1.1, c.loop-part.invariant.size),
)

pub overflow_add-marked : goal.overflow_add-marked
overflow_add-marked c =
    omega (arith, marked_few (parts_on _ _ _ _ _ _ _ c.in-Some.ensures.steps.1.0 c.loop-part.invariant.parted c.mark_part-marked.ensures).marked (bitmap_of _ c.requires.words_long (λ w. search rules)))

pub loop-part-preserved : goal.loop-part-preserved
loop-part-preserved c =
    let l = c.loop-part.invariant in
    let s = c.in-Some.ensures.steps in
    record { size = s.0 ∙ l.size; parted = parts_on _ _ _ _ _ _ _ s.1.0 l.parted c.mark_part-marked.ensures }

pub returns : goal.returns
returns c = parts_end _ _ _ _ _ (nil_from_length _ c.in-None.ensures.steps.1.0) c.loop-part.invariant.parted
