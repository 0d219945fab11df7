use Rattle.offsets.proofs.Prelude.{ℕ, ◌+◌, ◌-◌, ◌<◌, ◌^◌, false≢true, get_or, arith}
use Rattle.offsets.proofs.Rising.{difference_back, steps_begin, steps_more, steps_all}
use Rattle.offsets.proofs.rises_by_small_steps.Goals as goal

pub returns-then-ids-ge-LOW : goal.returns-then-ids-ge-LOW
returns-then-ids-ge-LOW c = λ e. absurd (false≢true e)

pub returns-then-last-ge-LOW : goal.returns-then-last-ge-LOW
returns-then-last-ge-LOW c = λ e. absurd (false≢true e)

pub loop-i-init : goal.loop-i-init
loop-i-init c = steps_begin _ c.if-ids-ge-LOW.false c.if-last-ge-LOW.false

pub loop-i-preserved : goal.loop-i-preserved
loop-i-preserved c =
    let ids = c.args.ids.now in
    let i = c.loop-i.i in
    let fits : (k : ℕ) → get_or ids k 0 < 2 ^ 32 = λ k. omega (arith, c.type_inv.ids k) in
    steps_more _ _ _ _ c.requires c.loop-i.invariant (omega arith) fits _ _
    (difference_back (get_or ids (i - 1) 0) (get_or ids i 0) (fits (i - 1)) (fits i))
    (difference_back c.loop-i.last (get_or ids (64 + i) 0) (omega arith) (fits (64 + i)))
    (omega arith)
    (omega arith)

pub returns : goal.returns
returns c = steps_all _ _ _ _ c.requires c.loop-i.invariant c.loop-i-test.false
