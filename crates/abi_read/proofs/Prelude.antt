-- The names that the proofs of this crate take from elsewhere, re-exported. It defines nothing of its own.
pub use mathlib.Core.Path.{sym}
pub use Rattle.abi.specs.Laws.Encoding.{answers, stored_answer, stored_found, stored_range}
