-- The names that the laws of this crate take from elsewhere, re-exported. It defines nothing of its own.
pub use Rattle.std.specs.Prelude.{◌+◌, ℕ, Bool, ◌&&◌, not, List, [], ◌∷◌, ◌≡◌, refl, length, Option, Some, None}
pub use Rattle.std.proofs.Common.{inl, inr, ⊎_elim, ◌∙◌, ap, sym, arith}
pub use Rattle.std.proofs.Math.Decide.{ℕ_discrete}
pub use Rattle.constraints.specs.declared.Constraint.{Constraint}
pub use Rattle.lists.specs.Laws.Filter.{split}
pub use Rattle.query_spec.specs.declared.Page.{Page}
pub use Rattle.refusals.specs.Laws.Determined.{Same}
pub use Rattle.refusals.specs.Laws.Replies.{reply_accepted, reply_refused, some_number}
pub use Rattle.refusals.specs.Refusals.{Reply, accepted, refused}
pub use Rattle.table.specs.declared.Header.{Header}
