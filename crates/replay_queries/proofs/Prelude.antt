-- The names that the proofs of this crate take from elsewhere, re-exported. It defines nothing of its own.
pub use Prim.Native.Nat.{◌+◌, ◌-◌, ◌<◌, ◌≤◌, min, suc, zero, ℕ}
pub use mathlib.Core.Bool.{Bool, ◌||◌, false}
pub use mathlib.Core.List.{List, [], ◌++◌, ◌∷◌, append_assoc, append-nil}
pub use mathlib.Core.Path.{◌∙◌, ◌≡◌, ap, refl, sym}
pub use native.Mathlib.Omega.{arith}
pub use lib.ListN.{drop, get_or, length, length-append, length-take, take}
pub use Rattle.history.proofs.Laws.Narrowing.{any_both, or_assoc, or-false}
pub use Rattle.history.specs.Runs.{Outcome, Query, outcome, refines}
pub use Rattle.replay_frames.specs.Laws.Frames.{framed_end, framed_next, items_few}
pub use Rattle.replay_queries.specs.Encoding.{query_of}
pub use Rattle.replay_queries.specs.declared.RunAnswer.{RunAnswer}
pub use Rattle.replay_queries.specs.Laws.Running.{execute_first, execute_neither, execute_second, queried_then}
pub use Rattle.replay_queries.specs.RunQueries.{RunMade, shorter}
pub use Rattle.replay_queries.specs.inner.Running.{QueriesExecuted, QueryExecuted}
pub use Rattle.table.specs.declared.Header.{Header}
