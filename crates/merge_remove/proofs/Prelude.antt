-- The names that the proofs of this crate take from elsewhere, re-exported. It defines nothing of its own.
pub use Prim.Native.Nat.{◌*◌, ◌+◌, ◌-◌, ◌<◌, ◌≤◌, ℕ}
pub use mathlib.Core.Bool.{Bool, cond, false, false≢true, not, true}
pub use mathlib.Core.List.{List, [], ◌∷◌}
pub use mathlib.Core.Logic.{inl, inr}
pub use mathlib.Core.Path.{◌∙◌, ◌≡◌, ap, refl, sym}
pub use native.Mathlib.Decide.{ℕ_discrete}
pub use native.Mathlib.Nat.{add-zero}
pub use native.Mathlib.Omega.{arith}
pub use lib.Dec.{eqb}
pub use lib.ListN.{drop, get_or, length, take}
pub use borrow.Author.Rules.{rules}
pub use borrow.Author.Tests.{eq-eqb, eqb-false, eqb-true, ne_eqb, not-false, not-true}
pub use Rattle.constraints.specs.Laws.Rows.{live_first}
pub use Rattle.key_index.specs.Laws.Index.{rows_in_lem}
pub use Rattle.key_index.specs.Laws.Places.{row_inside}
pub use Rattle.key_index.specs.Laws.SizeClasses.{past_size_class}
pub use Rattle.key_index.specs.Slots.{KeysSound, LiveAt, key_at, slots}
pub use Rattle.key_index.specs.declared.Hit.{Hit}
pub use Rattle.std.specs.Prelude.{None, Option, Some}
pub use Rattle.key_index.specs.declared.IndexShape.{IndexShape}
pub use Rattle.key_index.specs.inner.Index.{Fits, FoundAt, FoundIs}
pub use Rattle.key_index.specs.inner.BackwardShift.{RowRemoved}
pub use Rattle.lists.specs.Laws.Filter.{split}
pub use Rattle.lists.specs.Laws.Rows.{row_in}
pub use Rattle.merge_pending.specs.Laws.Dying.{dying, dying_steps, without_key_none, without_key_one, without_row_none, without_row_one, without_row_other}
pub use Rattle.merge_pending.specs.Laws.Steps.{steps_refl, steps_then, waiting_hash, waiting_key, waiting_kind, waiting_row, waiting_row_key, waiting_start, words_some}
pub use Rattle.plain_table.specs.Plain.{Plain}
pub use Rattle.plain_table.specs.Staged.{Staged, insert, remove_key, remove_row}
pub use Rattle.row_buffer.specs.inner.Rows.{Staled}
pub use Rattle.table.specs.Outcomes.{Represents, SamePast, Stores, stores}
pub use Rattle.table.proofs.Laws.Refusals.{full_shape_fits}
pub use Rattle.table.proofs.Laws.Shown.{in_live}
pub use Rattle.table.specs.Numbers.{opening_of}
pub use Rattle.table.specs.Sound.{index_shape_of}
pub use Rattle.table.specs.declared.Header.{Header}
pub use Rattle.table.specs.inner.FullIndexShape.{full_index_shape_of}
