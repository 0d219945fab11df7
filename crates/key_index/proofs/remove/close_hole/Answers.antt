use Rattle.key_index.proofs.Prelude.{◌+◌, ◌-◌, ◌*◌, ◌≡◌, sym, ◌∙◌, arith, rows_in_lem}
use Rattle.key_index.proofs.ShiftSteps.{begin, finish, stop, turn}
use Rattle.key_index.proofs.remove.close_hole.Goals as goal

pub loop-init : goal.loop-init
loop-init c = let e : 2 * c.args.t.room - 0 ≡ 2 * c.args.t.room = omega arith in rw e (begin _ _ _ _ c.requires.1)

pub next_slot-at-requires : goal.next_slot-at-requires
next_slot-at-requires c = c.loop.invariant.at_in

pub shape_of-store-then-not-names_row : goal.shape_of-store-then-not-names_row
shape_of-store-then-not-names_row c = c.loop.invariant.same

pub returns-then-not-names_row : goal.returns-then-not-names_row
returns-then-not-names_row c =
    stop _ _ _ _ _ _ _ _ _ _ c.loop.invariant _ (c.next_slot-at.ensures.value, c.next_slot-at.ensures.upper_bound) (omega (arith, c.loop-test.true)) (sym c.names_row.ensures ∙ c.if-not-names_row.true)

pub home_away-requires : goal.home_away-requires
home_away-requires c =
    let f = c.requires.0 in
    (rows_in_lem _ _ _ f, sym c.names_row.ensures ∙ c.if-not-names_row.false, c.next_slot-at.ensures.upper_bound)

pub loop-preserved : goal.loop-preserved
loop-preserved c =
    let f = c.requires.0 in
    let e : 2 * c.args.t.room - (c.loop.counter + 1) ≡ 2 * c.args.t.room - c.loop.counter - 1 = omega arith in
    rw e (turn _ _ _ _ _ _ _ _ _ _ c.loop.invariant _ (c.next_slot-at.ensures.value, c.next_slot-at.ensures.upper_bound) (omega (arith, c.loop-test.true)) f.long
    (sym c.names_row.ensures ∙ c.if-not-names_row.false) _ _ _ _ c.home_away.ensures
    c.select-held.ensures c.select-hole.ensures c.select-gap.ensures)

pub shape_of-store : goal.shape_of-store
shape_of-store c = c.loop.invariant.same

pub returns : goal.returns
returns c = finish _ _ _ _ _ _ _ _ _ _ c.loop.invariant (omega (arith, c.loop-test.false))
