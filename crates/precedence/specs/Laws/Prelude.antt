-- The names that the laws of this crate take from elsewhere, re-exported. It defines nothing of its own.
pub use Rattle.std.specs.Prelude.{◌*◌, ◌+◌, ◌/◌, ◌<◌, ◌≤◌, suc, zero, ℕ, Bool, ◌&&◌, ◌||◌, false, not, true, List, [], ◌++◌, ◌∷◌, ◌⊎◌, ◌≡◌, refl, eqb, drop, get_or, length, set, take}
pub use Rattle.std.proofs.lemmas.Bool.{false≢true}
pub use Rattle.std.proofs.Common.{inl, inr, ◌∙◌, ap, ap₂, sym, suc-add, arith, length-take, get_or-take, eq-eqb, eqb-true, le-leb, leb-true}
pub use Rattle.std.proofs.Math.Option.{Option, none, some}
pub use Rattle.lists.specs.Laws.All.{or_right, or_second}
pub use Rattle.lists.specs.Laws.Filter.{and_left, and_right, split}
pub use Rattle.lists.specs.Laws.Rising.{same_eq, same_refl}
pub use Rattle.lists.specs.Lists.{any, same}
pub use Rattle.plain_table.proofs.Laws.Rows.{no_row}
pub use Rattle.plain_table.specs.Proper.{row_of, sort_cell}
pub use Rattle.plain_table.specs.Staged.{Opening}
pub use Rattle.refusals.specs.Laws.Determined.{SameAnswer, answer_same}
pub use Rattle.refusals.specs.Refusals.{accepted}
pub use Rattle.table.specs.Outcomes.{Represents, of_rows, stores}
pub use Rattle.table.proofs.Laws.Determined.{KnownKeys}
pub use Rattle.table.proofs.Laws.Live.{live_shown}
pub use Rattle.table.proofs.Laws.Sound.{represents_sound}
pub use Rattle.table.specs.Numbers.{opening_of}
pub use Rattle.table.specs.declared.Header.{Header}
