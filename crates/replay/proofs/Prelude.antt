-- The names that the proofs of this crate take from elsewhere, re-exported. It defines nothing of its own.
pub use Prim.Native.Nat.{ℕ}
pub use mathlib.Core.Path.{◌∙◌, ◌≡◌, refl, sym}
pub use native.Mathlib.Omega.{arith}
pub use borrow.Author.Rules.{rules}
pub use Rattle.replay.specs.Laws.Encoding.{call_clear, call_compact, call_insert, call_merge, call_none, call_refresh, call_remove, call_row, refresh_cut, refresh_empty, refresh_named, refresh_unstamped, row_none, row_named}
pub use Rattle.replay.specs.Laws.Making.{clearing_made, compacting_made, merging_made, none_made, refreshing_made, staging_made}
pub use Rattle.table.specs.declared.Header.{Header}
pub use Rattle.table.specs.declared.Merge.{Merge}
