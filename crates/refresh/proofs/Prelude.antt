-- The names that the proofs of this crate take from elsewhere, re-exported. It defines nothing of its own.
pub use Prim.Native.Nat.{◌%◌, ◌*◌, ◌+◌, ◌-◌, ◌/◌, ◌<◌, ◌^◌, ◌≤◌, suc, zero, ℕ}
pub use mathlib.Core.Bool.{Bool, ◌&&◌, ◌||◌, false, false≢true, not, true}
pub use mathlib.Core.List.{List, [], ◌++◌, ◌∷◌, append-nil, map, map-append}
pub use mathlib.Core.Logic.{inl, inr}
pub use mathlib.Core.Path.{◌∙◌, ◌≡◌, ap, ap₂, refl, sym}
pub use native.Mathlib.Decide.{dec_lt}
pub use native.Mathlib.Nat.{add-zero, mul-le-mul, mul-le-mul_right, suc-mul, zero-add}
pub use native.Mathlib.Numerals.{add-one}
pub use native.Mathlib.Omega.{arith}
pub use lib.Bits.{and_le_r, bit_and}
pub use lib.Count.{count_trailing_zeros}
pub use lib.Dec.{leb, ltb}
pub use lib.ListN.{drop, get_or, length, length-append, length-set, replicate, set, take}
pub use lib.Seq.{length-take-le, take-set-lt, take-take}
pub use borrow.Author.Rules.{rules}
pub use borrow.Author.Tests.{eq-eqb, le-leb, le-ltb, leb-true, lt-ltb, ltb-false, ltb-true, not-false}
pub use Rattle.bitmap.specs.Laws.Bitmaps.{bitmap_none, count_none, count_to_le, marked_few, marked_then, marked_weaker, summarised_none, word_bits}
pub use Rattle.bitmap.specs.Laws.Lowest.{Next, bitmap_word_none, next_bit, no_more, onward, onward_all}
pub use Rattle.bitmap.specs.inner.Bitmaps.{Bitmap, Marked, Summarised, bit_of}
pub use Rattle.constraints.specs.Constraints.{is_live}
pub use Rattle.key_index.specs.Laws.Places.{Inside, inside}
pub use Rattle.lists.specs.Laws.All.{all_snoc, and_both, or_no_left, or_no_right, or_right}
pub use Rattle.lists.specs.Laws.Filter.{all_get_d, all_of, and_left, and_right, filter_append, split}
pub use Rattle.lists.specs.Laws.Parts.{length_splice, part_width, splice_nil, splice_then}
pub use Rattle.lists.specs.Laws.Rising.{iota_snoc}
pub use Rattle.lists.specs.Laws.Rows.{flatten_append, length_row_at}
pub use Rattle.lists.specs.Laws.Search.{take_put}
pub use Rattle.lists.specs.Lists.{all, flatten, row_at, splice}
pub use Rattle.plain_table.proofs.Laws.Calls.{first_refusal_no, first_refusal_rest}
pub use Rattle.plain_table.proofs.Laws.Refreshing.{Wide, refreshed_whole}
pub use Rattle.plain_table.proofs.Laws.Rows.{no_row}
pub use Rattle.plain_table.specs.Plain.{Numbered, below}
pub use Rattle.plain_table.specs.Refreshing.{Refresh, index_short, refreshed}
pub use Rattle.plain_table.specs.Refusing.{overfull}
pub use Rattle.plain_table.specs.Staged.{Staged, insert, remove_row, words_all}
pub use Rattle.refresh_index.specs.Laws.Using.{usable_index, usable_is}
pub use Rattle.refresh_index.specs.inner.Entries.{UpToDate}
pub use Rattle.refresh_scan.specs.inner.Scanning.{Scannable}
pub use Rattle.refresh_spec.specs.Index.{IndexSound, rows_seen}
pub use Rattle.refresh_spec.specs.declared.Refreshed.{Refreshed}
pub use Rattle.refresh_spec.specs.inner.Finding.{CaughtUp, Lendable, mentions_at, usable}
pub use Rattle.refresh.specs.inner.Finding.{RowsFound}
pub use Rattle.refresh.specs.inner.Staging.{Block, Group, Stageable, row_words}
pub use Rattle.refresh.specs.inner.Testing.{early_refusal}
pub use Rattle.refusals.specs.Laws.Replies.{reply_accepted, reply_refused}
pub use Rattle.row_buffer.specs.Laws.Rows.{below_bitmap_word, key_row}
pub use Rattle.row_buffer.specs.Ranks.{count_to}
pub use Rattle.table.proofs.Laws.Live.{get_d_rows_in, length_rows_in, row_of_cells}
pub use Rattle.table.proofs.Laws.Pending.{length_records}
pub use Rattle.table.proofs.Laws.Refusals.{outside_inside, rows_long_of}
pub use Rattle.table.specs.Numbers.{largest_view, opening_of}
pub use Rattle.table.specs.Refusing.{outside}
pub use Rattle.table.specs.Stores.{record_words, rows_in}
pub use Rattle.table.specs.declared.Header.{Header}
