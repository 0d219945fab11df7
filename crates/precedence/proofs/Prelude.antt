-- The names that the proofs of this crate take from the logic, re-exported. It defines nothing of its own.
pub use Prim.Native.Nat.{ℕ, ◌/◌, ◌%◌, ◌≤◌, ◌<◌, suc, ◌+◌, ◌-◌, ◌*◌}
pub use mathlib.Core.Path.{◌≡◌, refl, sym, ap, ◌∙◌, ap₂}
pub use native.Mathlib.Omega.{arith}
pub use lib.ListN.{length, take, drop, get_or, set, length-set, drop_of_length-le}
pub use borrow.Author.Tests.{leb-false, ltb-false, le-leb, lt-leb, lt-ltb, le-ltb, eq-eqb, ne_eqb, not-true, not-false}
pub use borrow.Author.Rules.{rules}
pub use Rattle.std.specs.Prelude.{None, Option as RustOption, Some}
pub use mathlib.Core.Bool.{Bool, ◌&&◌, ◌||◌, false, not, true}
pub use Rattle.key_index.specs.inner.Index.{Fits, FoundIs}
pub use Rattle.key_index.specs.declared.Hit.{Hit}
pub use Rattle.table.specs.declared.Header.{Header}
pub use Rattle.key_index.specs.declared.IndexShape.{IndexShape}
pub use Rattle.table.specs.Sound.{KeysDiffer, index_shape_of}
pub use mathlib.Core.List.{List, [], ◌∷◌}
pub use Rattle.key_index.specs.Slots.{LiveAt, key_at}
pub use Rattle.precedence.specs.inner.Checking.{OnTable, Tested}
pub use mathlib.Core.Option.{Option, none, some}
pub use native.Mathlib.Numerals.{add-one}
pub use native.Mathlib.Nat.{add-zero, mul-le-mul, suc-mul}
pub use Rattle.precedence.specs.Laws.Scan.{any_live_lem, any_same, any_live, fails_here, fails_later, failing_pair, failure_dead, failure_here, failure_later, get_d_pairs_of, key_replaced, length_pairs_of, none_live}
pub use lib.Seq.{drop-cons, length-take-le, take-set-lt}
pub use lib.Dec.{eqb, leb, ltb}
pub use Rattle.plain_table.proofs.Laws.Calls.{first_refusal_no, first_refusal_rest}
pub use Rattle.lists.specs.Laws.Rows.{get_d_row_at, length_row_at, row_in}
pub use Rattle.table.proofs.Laws.Live.{get_d_rows_in, length_rows_in, row_of_cells}
pub use mathlib.Core.Logic.{inl, inr}
pub use Rattle.table.proofs.Laws.Refusals.{inside_fits, lookup_accepted}
pub use Rattle.row_buffer.specs.Laws.Rows.{key_row}
pub use Rattle.lists.specs.Laws.Parts.{length_splice}
pub use Rattle.plain_table.proofs.Laws.Rows.{live_below_lem, no_row}
pub use Rattle.table.specs.Outcomes.{of_rows}
pub use Rattle.table.specs.Numbers.{opening_of}
pub use Rattle.lists.specs.Laws.All.{or_no_right}
pub use Rattle.refusals.specs.Laws.Replies.{outcome_accepted, outcome_refused}
pub use Rattle.lists.specs.Lists.{row_at, splice}
pub use Rattle.table.specs.Stores.{rows_in}
pub use Rattle.lists.specs.Laws.Rising.{same_eq, same_refl}
pub use Rattle.lists.specs.Laws.Filter.{split}
pub use Rattle.lists.specs.Laws.Search.{take_put}
