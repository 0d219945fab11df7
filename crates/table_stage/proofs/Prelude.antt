-- The names that the proofs of this crate take from elsewhere, re-exported. It defines nothing of its own.
pub use Prim.Native.Nat.{◌+◌, ℕ}
pub use mathlib.Core.List.{List, [], ◌∷◌}
pub use mathlib.Core.Path.{◌∙◌, ap, sym}
pub use native.Mathlib.Omega.{arith}
pub use lib.ListN.{length, length-set}
pub use lib.Seq.{length-take-le}
pub use borrow.Author.Rules.{rules}
pub use borrow.Author.Tests.{eq-eqb, le-ltb, lt-ltb, ne_eqb}
pub use Rattle.lists.specs.Laws.Parts.{set_set_splice, splice_then}
pub use Rattle.lists.specs.Lists.{splice}
pub use Rattle.table_stage.specs.Laws.Staging.{Free, insert_refusal, key_refusal, refusal_free, row_head, row_refusal, staging_refused, staging_written}
