-- The names that the proofs of this crate take from elsewhere, re-exported. It defines nothing of its own.
pub use Prim.Native.Nat.{◌%◌, ◌*◌, ◌+◌, ◌-◌, ◌<◌, ◌^◌, ◌≤◌, suc, ℕ}
pub use mathlib.Core.Bool.{Bool, ◌&&◌, ◌||◌, false, not, true}
pub use mathlib.Core.List.{List, [], ◌++◌, ◌∷◌}
pub use mathlib.Core.Path.{◌∙◌, ◌≡◌, ap, ap₂, refl, sym}
pub use native.Mathlib.Decide.{dec_le, dec_lt}
pub use native.Mathlib.Nat.{zero-add}
pub use native.Mathlib.Numerals.{add-one}
pub use native.Mathlib.Omega.{arith}
pub use Rattle.std.specs.Prelude.{cond, ℤ}
pub use Rattle.std.specs.Int.{w32, cast_signed, cast_unsigned, int_min, int_max}
pub use Rattle.std.specs.Int.Signed.{lt_z}
pub use Rattle.std.proofs.lemmas.Int.{of_z-to_z}
pub use lib.Bits.{bit_xor, xor_block, xor_comm, xor_shifted, xor_zero_r}
pub use lib.Dec.{eqb}
pub use lib.ListN.{drop, drop_of_length-le, get_or, length, length-set, set, take}
pub use lib.Seq.{drop-cons, take-length}
pub use borrow.Author.Rules.{rules}
pub use borrow.Author.Tests.{eq-eqb, lt-leb, ne_eqb}
pub use Rattle.std.proofs.Common.{◌≢◌}
pub use Rattle.lists.specs.Laws.Parts.{copy_step, part_width}
pub use Rattle.merge_rules.specs.Laws.Rules.{changes_behind, made_at, made_length, ruled_key, ruled_past}
pub use Rattle.merge_rules.specs.Laws.Signed.{as_the_machine}
pub use Rattle.merge_rules.specs.Rules.{changes_from, made_from}
