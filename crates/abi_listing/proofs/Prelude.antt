-- The names that the proofs of this crate take from elsewhere, re-exported. It defines nothing of its own.
pub use mathlib.Core.List.{[], ◌∷◌}
pub use mathlib.Core.Path.{refl, sym}
pub use borrow.Author.Rules.{rules}
pub use Rattle.abi.specs.Encoding.{Stored}
pub use Rattle.abi.specs.Laws.Encoding.{answers, stored_as}
pub use Rattle.abi_listing.specs.Encoding.{encode_finding}
pub use Rattle.listing_check.specs.Answers.{AnswersChecked, check_view}
