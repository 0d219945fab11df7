-- The names that the proofs of this crate take from the logic, re-exported. It defines nothing of its own.
pub use Prim.Native.Nat.{ℕ, ◌≤◌, ◌<◌, min, ◌+◌, ◌-◌, suc}
pub use mathlib.Core.Path.{◌≡◌, refl, sym, ap, ap₂, ◌∙◌, subst}
pub use mathlib.Core.Bool.{Bool, true, false, not, false≢true, cond, beq as Bool·beq}
pub use mathlib.Core.List.{List, [], ◌∷◌}
pub use native.Mathlib.Decide.{dec_lt, ℕ_discrete}
pub use native.Mathlib.Omega.{arith}
pub use borrow.Author.Tests.{eq-eqb, ne_eqb, leb-true, le-leb, lt-ltb, le-ltb, eqb-true, not-true, not-false}
pub use lib.ListN.{length, take, get_or, drop, length-drop, drop_of_length-le, get_or-eq_default as List·getD-eq-default}
pub use lib.Seq.{length-take-le, drop-cons}
pub use borrow.Author.Rules.{rules}
pub use Rattle.listing_check.specs.Answers.{lowest, wrong_numbers}
pub use Rattle.listing_check.specs.Laws.Numbers.{Apart, apart_one, differ, misplaced_at, misplaced_none, misplaced_rising, wrong_none, wrong_some}
pub use Rattle.listing_check.specs.inner.Scanning.{RowRead, Underway}
pub use Rattle.listing_check.specs.declared.CheckScan.{CheckScan}
pub use Rattle.constraints.specs.declared.Constraint.{Constraint}
pub use Rattle.listing_parse.specs.inner.Lines.{Found}
pub use Rattle.table.specs.declared.Header.{Header}
pub use Rattle.listing_check.specs.declared.Mistake.{Mistake}
pub use Rattle.listing_check.specs.declared.Mistake.TheVariants.{Misplaced, Wrong}
pub use mathlib.Core.Option.{Option, none, some}
pub use Rattle.listing_parse.specs.declared.Survey.{Survey}
pub use Rattle.lists.specs.Laws.Rising.{above_cons, above_elem, above_head, above_rising, above_weaker, elem_here, elem_there, rising_ext, rising_of}
pub use Rattle.listing_check.specs.Laws.Verdicts.{above_kept, right_rising}
pub use native.Mathlib.Numerals.{add-one}
pub use Rattle.lists.specs.Lists.{all}
pub use Rattle.lists.specs.Laws.All.{all_head}
pub use Rattle.lists.specs.Laws.Filter.{and_right}
pub use lib.Dec.{eqb, leb}
pub use Rattle.constraints.specs.Constraints.{known}
pub use Rattle.listing_spec.specs.inner.Checking.{begins, listing_in, pieces, text_good}
pub use native.Mathlib.Nat.{min-eq_left, min-eq_right}
pub use Rattle.lists.specs.Laws.Rows.{row_at_zero}
pub use Rattle.listing_spec.specs.Laws.Texts.{shown_listing, text_shown, text_wrong}
pub use Rattle.lists.specs.Laws.Search.{take_put}
