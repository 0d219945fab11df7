-- Laws of `retain`, by the ids that were passed in: a range whose kept ids are added one by one, and a list whose kept ids are
-- written. Assumes nothing.
use Rattle.std.specs.Prelude.{ℕ, Bool, List, Ok}
use Rattle.lists.specs.Lists.{filter}
use Rattle.refusals.specs.Refusals.{accepted}
use Rattle.offsets.specs.declared.retain.RetainBuilder.{RetainBuilder}
use Rattle.offsets.specs.declared.SubsetForm.{SubsetForm}
use Rattle.offsets.specs.declared.SubsetForm.TheVariants.{List as Ids}
use Rattle.offsets.specs.Subsets.{range, list, members, retain}
use Rattle.offsets.specs.Answers.{Answered}
use Rattle.offsets.specs.inner.Writing.{Wrote}
use Rattle.offsets.specs.Laws.Subsets.{answered_list}
use Rattle.offsets.specs.Laws.Forms.{retain_range, retain_list}
use Rattle.offsets.specs.inner.RetainBuilder.{Builds, BuilderEnds}

module _ (test : ℕ → Bool) where
  pub grown_retains : (a b : ℕ) {output output' : List ℕ} {g : RetainBuilder} {form : SubsetForm} → Builds output output' g (filter test (members (range a b))) → BuilderEnds g form
      → Answered (accepted (retain test (range a b))) output (Ok form) output'
  grown_retains a b {output} {output'} grows ends = rw (retain_range test a b) (ends.ends output output' _ grows)

  pub listed_retains : (ids : List ℕ) {output output' : List ℕ} {n : ℕ} → Wrote output (filter test (members (list ids))) n output'
      → Answered (accepted (retain test (list ids))) output (Ok (Ids n)) output'
  listed_retains ids {output} {output'} {n} w = rw (retain_list test ids) (answered_list _ output n output' w)
