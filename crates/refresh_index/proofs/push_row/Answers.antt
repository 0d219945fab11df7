use Rattle.refresh_index.proofs.Prelude.{◌≡◌, arith, length}
use Rattle.refresh_index.proofs.Fills.{push_then, push_one, Pushable, pushable}
use Rattle.refresh_index.proofs.push_row.Goals.{In-loop-place}
use Rattle.refresh_index.proofs.push_row.Goals as goal

-- the entry fits
fits : (c : In-loop-place) → let a = c.args in
    Pushable a.h a.rows.now a.columns.now a.buckets a.row c.loop-place.place c.loop-place.index
fits c = pushable _ _ _ _ _ c.requires.0 _ _ c.requires.1 c.loop-place-test.true _ c.loop-place.auto.index

pub push_entry-requires : goal.push_entry-requires
push_entry-requires c = let a = fits (goal.at.push_entry-requires c).In-loop-place in let e = c.heads_at-heads.ensures in (a.some, omega arith, omega arith, a.few)

pub loop-place-preserved : goal.loop-place-preserved
loop-place-preserved c =
    let l = c.loop-place in
    push_then l.invariant
    (push_one _ _ _ _ _ c.requires.0 _ _ c.requires.1 c.loop-place-test.true _ l.auto.index _ c.cell_named-value.ensures _
    (rw c.heads_at-heads.ensures at c.push_entry.ensures))

pub returns : goal.returns
returns c =
    let l = c.loop-place in
    let e : l.place ≡ length c.args.columns.now = omega arith in
    rw e at l.invariant
