-- The names that the proofs of this crate take from elsewhere, re-exported. It defines nothing of its own.
pub use Prim.Native.Nat.{◌*◌, ◌+◌, ◌-◌, ◌<◌, ◌≤◌, ℕ}
pub use mathlib.Core.Bool.{Bool, false, false≢true, true}
pub use mathlib.Core.List.{List}
pub use mathlib.Core.Path.{◌∙◌, ◌≡◌, ap, refl, sym}
pub use native.Mathlib.Decide.{dec_lt, ℕ_discrete}
pub use native.Mathlib.Omega.{arith}
pub use lib.Dec.{eqb}
pub use lib.ListN.{drop, get_or, take}
pub use borrow.Author.Count.{below_more}
pub use borrow.Author.Rules.{rules}
pub use borrow.Author.Tests.{eqb-false, eqb-true, not-false, not-true}
pub use Rattle.constraints.specs.Constraints.{is_live}
pub use Rattle.key_check.specs.Laws.Check.{is_live_lem, is_taken_lem, live_is, not_taken, own_sound, sound_count, sound_own, tally_le, tally_no, tally_yes}
pub use Rattle.key_index.proofs.ScanSteps.{ScannedSlots, begin, on}
pub use Rattle.key_index.specs.Laws.Index.{rows_in_lem}
pub use Rattle.key_index.specs.Laws.Places.{Inside, key_part, row_inside}
pub use Rattle.key_index.specs.Slots.{LiveAt, slots}
pub use Rattle.key_index.specs.declared.IndexShape.{IndexShape}
pub use Rattle.key_index.specs.inner.Index.{Fits, Leads}
pub use Rattle.key_index.specs.inner.Ring.{spread, tagged}
pub use Rattle.lists.specs.Laws.Parts.{part_width}
pub use Rattle.sort_entries.specs.inner.Checks.{Decides, decides_no, decides_yes}
