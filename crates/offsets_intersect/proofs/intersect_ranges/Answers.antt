-- `offsets_intersect::intersect_ranges` meets its contract. Assumes nothing.
use Rattle.std.specs.Prelude.{Result, Ok}
use Rattle.refusals.specs.declared.Refusal.{Refusal}
use Rattle.offsets.specs.declared.SubsetForm.{SubsetForm}
use Rattle.offsets_intersect.proofs.Prelude.{ℕ, ◌∙◌, ap₂, max, Range}
use Rattle.offsets_intersect.proofs.Answers.{ranges_first, ranges_second, ranges_answered}
use Rattle.offsets_intersect.proofs.intersect_ranges.Goals as goal

pub returns-then-b-a : goal.returns-then-b-a
returns-then-b-a c = λ output. ranges_first _ _ _ _ output c.if-b-a.true

pub returns-then-d-c : goal.returns-then-d-c
returns-then-d-c c = λ output. ranges_second _ _ _ _ output c.if-b-a.false c.if-d-c.true

pub returns : goal.returns
returns c = λ output.
    let s = c.max-start.ensures in
    rw (ap₂ {C = Result SubsetForm Refusal} (λ (x y : ℕ). Ok (Range x y)) s (c.max.ensures ∙ ap₂ max s c.min-end.ensures)) (ranges_answered _ _ _ _ output c.if-b-a.false c.if-d-c.false)
