-- The names that the proofs of this crate take from elsewhere, re-exported. It defines nothing of its own.
pub use Prim.Native.Nat.{◌*◌, ◌+◌, ◌-◌, ◌<◌, ◌≤◌, suc, ℕ}
pub use mathlib.Core.Bool.{Bool, ◌&&◌, cond, false, true}
pub use mathlib.Core.List.{List, [], ◌∷◌}
pub use mathlib.Core.Logic.{◌⊎◌, inl, inr, ⊎_elim}
pub use mathlib.Core.Path.{◌∙◌, ◌≡◌, ap, ap₂, refl, sym}
pub use native.Mathlib.Decide.{ℕ_discrete}
pub use native.Mathlib.Nat.{mul-le-mul, sub-zero}
pub use native.Mathlib.Numerals.{add-one}
pub use native.Mathlib.Omega.{arith}
pub use lib.Dec.{eqb, ltb}
pub use lib.ListN.{drop, drop_of_length-le, get_or, length, length-drop, length-set}
pub use lib.Seq.{drop-cons}
pub use borrow.Author.Count.{below_more}
pub use borrow.Author.Rules.{rules}
pub use borrow.Author.Tests.{le-leb, lt-leb, ltb-false, ltb-true, ne_eqb, not-false, not-true}
pub use Rattle.constraints.specs.Laws.Rows.{first_cell}
pub use Rattle.lists.specs.Laws.Filter.{split}
pub use Rattle.lists.specs.Laws.Rows.{get_d_row_at, row_in}
pub use Rattle.sort_entries.specs.Entries.{entries_of, entries_sound, first_row}
pub use Rattle.sort_entries.specs.Laws.Ranges.{place_absent, place_found}
pub use Rattle.sort_entries.specs.Laws.Sound.{entry_row, first_row_drop, first_row_past, row_word, sound_climb, sound_facts, sound_first, sound_of, value_word, value_of}
pub use Rattle.sort_entries.specs.Laws.Stores.{length_entries_of}
pub use Rattle.sort_entries.specs.declared.Range.{Range}
pub use Rattle.std.specs.Prelude.{Result, Ok, Err}
pub use Rattle.sort_entries.specs.inner.Append.{append_new, append_same, rises, rises_none}
pub use Rattle.sort_entries.specs.inner.Checks.{Follows}
pub use Rattle.sort_entries.specs.inner.Search.{Ranged, SearchResultIs, position_found, range_of}
