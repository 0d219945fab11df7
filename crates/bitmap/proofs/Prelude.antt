-- The names that the proofs of this crate take from elsewhere, re-exported. It defines nothing of its own.
pub use Prim.Native.Nat.{◌%◌, ◌*◌, ◌+◌, ◌-◌, ◌/◌, ◌<◌, ◌^◌, ◌≤◌, suc, ℕ}
pub use mathlib.Core.Bool.{Bool, ◌||◌, cond, false, not, true}
pub use mathlib.Core.List.{List}
pub use mathlib.Core.Logic.{inl, inr}
pub use mathlib.Core.Path.{◌∙◌, ◌≡◌, ap, refl, sym}
pub use native.Mathlib.Decide.{dec_lt, ℕ_discrete}
pub use native.Mathlib.Nat.{one-mul, pow-suc, suc-mul, zero-mul}
pub use native.Mathlib.Numerals.{add-one, one-add}
pub use native.Mathlib.Omega.{arith}
pub use lib.Bits.{and_high, bit_and, bit_or, or_add_and}
pub use lib.Dec.{eqb}
pub use lib.ListN.{get_or, length, length-set, set}
pub use lib.Pow.{pow_pos, shl_exact}
pub use lib.Seq.{get_or-set_other, get_or-set_same}
pub use borrow.Author.Rules.{rules}
pub use borrow.Author.Tests.{eq-eqb, eqb-false, eqb-true, ne_eqb}
pub use Rattle.bitmap.specs.Laws.Bitmaps.{bitmap_word_with, word_bits}
pub use Rattle.bitmap.specs.Laws.Lowest.{bitmap_word_same}
pub use Rattle.lists.specs.Laws.All.{or_no_left, or_no_right}
pub use Rattle.lists.specs.Laws.Filter.{split}
pub use Rattle.lists.specs.Laws.Rows.{row_in}
pub use Rattle.row_buffer.specs.Laws.Rows.{below_bitmap_word, bitmap_word_lt, bitmap_word_no, bitmap_word_yes}
