-- The names that the proofs of this crate take from elsewhere, re-exported. It defines nothing of its own.
pub use Prim.Native.Nat.{◌*◌, ◌+◌, ◌-◌, ◌<◌, ◌≤◌, ℕ}
pub use mathlib.Core.Bool.{Bool, false, false≢true, not, true}
pub use mathlib.Core.List.{List, [], ◌∷◌}
pub use mathlib.Core.Path.{◌∙◌, ◌≡◌, ap, refl, sym}
pub use native.Mathlib.Decide.{ℕ_discrete}
pub use native.Mathlib.Nat.{add-zero}
pub use native.Mathlib.Omega.{arith}
pub use lib.Dec.{leb}
pub use lib.ListN.{drop, get_or, length, length-drop, take}
pub use lib.Seq.{drop-drop, get_or-drop}
pub use borrow.Author.Rules.{rules}
pub use borrow.Author.Tests.{eq-eqb, le-leb, leb-true, ne_eqb, not-false, not-true}
pub use Rattle.constraints.specs.Constraints.{is_live}
pub use Rattle.constraints.specs.Laws.Rows.{live_first}
pub use Rattle.key_index.specs.Laws.Places.{Inside, inside}
pub use Rattle.key_index.specs.declared.IndexShape.{IndexShape}
pub use Rattle.lists.specs.Laws.Filter.{count_append, count_le}
pub use Rattle.lists.specs.Laws.Rows.{length_rows_of, rows_of_snoc}
pub use Rattle.refusals.specs.Laws.Replies.{outcome_refused}
pub use Rattle.sort_entries.specs.Entries.{entries_of, entries_sound}
pub use Rattle.sort_entries.specs.Laws.Cells.{cells_live, cells_of}
pub use Rattle.sort_entries.specs.Laws.Sound.{sound_climb}
pub use Rattle.sort_entries.specs.Laws.Stores.{last_entries_of, last_none}
pub use Rattle.sort_entries.specs.Laws.Tests.{last_all}
pub use Rattle.sort_entries.specs.inner.Checks.{Decides, cells_sound, decides_no, decides_yes}
pub use Rattle.table.specs.Outcomes.{Checked}
pub use Rattle.table.specs.Numbers.{opening_of}
pub use Rattle.table.specs.Refusing.{sound_refusal}
pub use Rattle.table.specs.Sound.{index_shape_of}
pub use Rattle.table.specs.declared.Header.{Header}
pub use Rattle.table_check.specs.Laws.Checks.{begins_hash, begins_words, holds_cons, holds_head, holds_none, holds_pending, holds_some, holds_tail, parts_sound, pending_holds, sound_cells, sound_fits, sound_held, sound_index, sound_pending, sound_rows, sound_whole, words_begin, begins_kind}
