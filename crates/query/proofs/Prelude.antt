-- The names that the proofs of this crate take from below, re-exported. It defines nothing of its own.
pub use Prim.Native.Nat.{◌-◌}
pub use mathlib.Core.Path.{refl}
pub use Rattle.query_scan.specs.inner.Scanning.{ScanInvariant}
pub use Rattle.query_spec.specs.Queries.{matches}
pub use Rattle.query_scan.proofs.AnswerSteps.{kept_all, can_write, retained_range, retained_list, one_refused, one_answered, scanned_all}
