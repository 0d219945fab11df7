use Rattle.listing_check.proofs.Prelude.{ℕ, ap, ◌∙◌, all, known}
use Rattle.listing_check.proofs.Steps.{finish}
use Rattle.listing_check.proofs.check_answers.Goals as goal

pub loop-at-init : goal.loop-at-init
loop-at-init c =
    let same = c.header_of-h.ensures in
    rw same
    (c.begin-at.ensures.begins c.args.conditions.now
    (c.are_known-known.ensures ∙ ap (λ (columns : ℕ). all (known columns) c.args.conditions.now) same))

pub row_at-row-requires : goal.row_at-row-requires
row_at-row-requires c = c.loop-at.invariant.due c.loop-at-test.true

pub meets_all-meets-requires : goal.meets_all-meets-requires
meets_all-meets-requires c = (c.loop-at.invariant.due c.loop-at-test.true).narrow

pub loop-at-preserved : goal.loop-at-preserved
loop-at-preserved c = c.step-at.ensures.keeps _ _ _ c.loop-at.invariant c.loop-at-test.true c.row_at-row.ensures c.meets_all-meets.ensures

pub loop-at-smaller : goal.loop-at-smaller
loop-at-smaller c = c.step-at.ensures.nearer c.loop-at-test.true c.row_at-row.ensures.forward

pub returns : goal.returns
returns c = rw c.close.ensures (finish c.loop-at.invariant c.loop-at-test.false)
