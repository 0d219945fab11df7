-- The names that the proofs of this crate take from elsewhere, re-exported. It defines nothing of its own.
pub use Prim.Native.Nat.{◌-◌}
pub use mathlib.Core.Path.{ap, refl}
pub use native.Mathlib.Omega.{arith}
pub use lib.ListN.{drop, length, length-drop, length-take}
pub use borrow.Author.Rules.{rules}
pub use Rattle.levels_answer.specs.inner.Calling.{by_key_served, by_row_served, clear_served, compact_served, insert_served, large_served, merge_refused, merge_served, merge_table, open_served, served_refused, served_table}
pub use Rattle.levels_answer.specs.inner.Encoded.{encodes_bytes, encodes_listing, encodes_nothing, listed_all, listed_nothing}
pub use Rattle.levels_answer.specs.inner.Querying.{listing_served, range_ends, range_none, range_refused, range_served, version_refused, version_responds, version_served}
pub use Rattle.levels_answer.specs.inner.Reading.{answer_appended, encoded_answers, line_responds, wrong_responds}
pub use Rattle.levels_spec.specs.inner.Responses.{listing_response, version_response}
pub use Rattle.levels_text.specs.Laws.Lines.{form_by_row, form_open, form_range}
pub use Rattle.levels_text.specs.inner.Appending.{appended_wrote}
pub use Rattle.levels_text.specs.inner.Reading.{parsed_fits, parsed_numbers, parsed_some}
