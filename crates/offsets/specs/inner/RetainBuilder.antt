-- Contracts of building the answer of `retain` over a range: a range while the kept ids are consecutive, then a list of all of
-- them. Nothing is written while it is a range. Assumes nothing.
use Rattle.std.specs.Prelude.{◌≡◌, ℕ, ◌+◌, ◌-◌, ◌<◌, ◌≤◌, true, List, [], ◌∷◌, ◌++◌, length, ◌≢◌, slice_index, slice_index_or, Ok}
use Rattle.lists.specs.Lists.{iota, rising}
use Rattle.refusals.specs.Refusals.{accepted}
use Rattle.offsets.specs.declared.retain.RetainBuilder.{RetainBuilder}
use Rattle.offsets.specs.declared.SubsetForm.{SubsetForm}
use Rattle.offsets.specs.Subsets.{shaped}
use Rattle.offsets.specs.Answers.{Answered}
use Rattle.offsets.specs.inner.Writing.{Wrote}

-- one more id is kept, and all are written
unfoldable pub pushed : RetainBuilder → RetainBuilder
pushed g = record { start = g.start; count = g.count + 1; written = g.count + 1 }

-- still a range: 0..0 if nothing is kept
pub record AsRange (output₀ output : List ℕ) (g : RetainBuilder) (kept : List ℕ) : Type 0 where
  pub ids : kept ≡ iota g.start g.count
  pub none : g.count ≡ 0 → g.start ≡ 0
  pub fits : g.start + g.count < 4294967296
  pub unwritten : output ≡ output₀

-- a list, since the kept ids are not all consecutive
pub record AsList (output₀ output : List ℕ) (g : RetainBuilder) (kept : List ℕ) : Type 0 where
  pub wrote : Wrote output₀ kept g.written output
  pub gap : slice_index_or kept 0 0 + length kept ≤ slice_index kept (length kept - 1)

-- `kept` are the ids so far, and `output₀` is the output before the first
pub record Builds (output₀ output : List ℕ) (g : RetainBuilder) (kept : List ℕ) : Type 0 where
  pub up : rising kept ≡ true
  pub same : length output ≡ length output₀
  pub number : g.count ≡ length kept
  pub as_range : g.written ≡ 0 → AsRange output₀ output g kept
  pub as_list : (g.written ≢ 0) → AsList output₀ output g kept

-- an id that may be added next: above those kept, with room for it unless it is the first, and not the largest u32
pub record NextId (output₀ kept : List ℕ) (id : ℕ) : Type 0 where
  pub up : rising (kept ++ (id ∷ [])) ≡ true
  pub room : 0 < length kept → length kept < length output₀
  pub small : id < 4294967295

-- the precondition of adding an id: it may be added next, for some kept ids
pub record CanAdd (output : List ℕ) (g : RetainBuilder) (id : ℕ) : Type 0 where
  pub output₀ : List ℕ
  pub kept : List ℕ
  pub grows : Builds output₀ output g kept
  pub next : NextId output₀ kept id

-- the effect of adding an id
pub record Adds (output : List ℕ) (g : RetainBuilder) (id : ℕ) (g' : RetainBuilder) (output' : List ℕ) : Type 0 where
  pub one_more : g'.count ≡ g.count + 1
  pub adds : (output₀ kept : List ℕ) → Builds output₀ output g kept → NextId output₀ kept id → Builds output₀ output' g' (kept ++ (id ∷ []))

-- the initial state
pub record BuilderBegins (g : RetainBuilder) : Type 0 where
  pub nothing : g.count ≡ 0
  pub begins : (output : List ℕ) → Builds output output g []

-- the answer that the final state gives
pub record BuilderEnds (g : RetainBuilder) (form : SubsetForm) : Type 0 where
  pub ends : (output₀ output kept : List ℕ) → Builds output₀ output g kept → Answered (accepted (shaped kept)) output₀ (Ok form) output
