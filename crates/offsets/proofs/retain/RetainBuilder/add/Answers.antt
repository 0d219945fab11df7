-- `offsets::retain::RetainBuilder::add` meets its contract. Assumes nothing.
use Rattle.std.proofs.Common.{◌∙◌, arith}
use Rattle.offsets.proofs.Grow.{sure, adds_first, adds_neighbour, adds_gap, adds_more}
use Rattle.offsets.proofs.retain.RetainBuilder.add.Goals as goal

pub push-requires : goal.push-requires
push-requires c = let s = sure _ _ _ c.requires in (s.room (s.some c.if-self-ne0.true), s.few)

pub returns-then-self-ne0 : goal.returns-then-self-ne0
returns-then-self-ne0 c = rw (c.push.ensures.0, c.push.ensures.1) (adds_more _ _ _ c.if-self-ne0.true)

pub returns-then-self-eq0 : goal.returns-then-self-eq0
returns-then-self-eq0 c = adds_first _ _ _ c.if-self-ne0.false c.if-self-eq0.true

pub overflow_add-self : goal.overflow_add-self
overflow_add-self c = record { fits = (sure _ _ _ c.requires).sum c.if-self-ne0.false c.if-self-eq0.false }

pub returns-then-self-id : goal.returns-then-self-id
returns-then-self-id c = adds_neighbour _ _ _ c.if-self-ne0.false c.if-self-id.true

pub fill_from_dense-requires : goal.fill_from_dense-requires
fill_from_dense-requires c = let s = sure _ _ _ c.requires in (s.sum c.if-self-ne0.false c.if-self-eq0.false, omega (arith, s.room c.if-self-eq0.false))

pub push-requires-2 : goal.push-requires-2
push-requires-2 c = let s = sure _ _ _ c.requires in (omega (arith, s.room c.if-self-eq0.false, c.fill_from_dense.auto.output), s.few)

pub shape_of-output : goal.shape_of-output
shape_of-output c = c.push-2.auto.output ∙ c.fill_from_dense.auto.output

pub returns : goal.returns
returns c =
    rw (c.push-2.ensures.0, c.push-2.ensures.1) (adds_gap _ _ _ _ c.if-self-ne0.false c.if-self-eq0.false c.if-self-id.false c.fill_from_dense.ensures)
