-- The names that the proofs of this crate take from below, re-exported. It defines nothing of its own.
pub use Prim.Native.Nat.{ℕ, ◌+◌, ◌-◌, ◌≤◌, ◌<◌, min, ◌*◌, zero, suc}
pub use mathlib.Core.Bool.{Bool, true, false, and-true, false≢true, and-false, not, cond}
pub use mathlib.Core.List.{List, [], ◌∷◌, ◌++◌, append_assoc, append-nil}
pub use mathlib.Core.Logic.{inl, inr}
pub use mathlib.Core.Path.{◌≡◌, refl, sym, ap, ◌∙◌, ap₂, subst}
pub use native.Mathlib.Decide.{ℕ_discrete, dec_lt}
pub use native.Mathlib.Omega.{arith}
pub use lib.Dec.{eqb, ltb}
pub use lib.ListN.{length, get_or, take, drop, length-take, length-drop}
pub use borrow.Author.Tests.{eqb-true, eq-eqb, ltb-false, lt-ltb, le-ltb, not-true, not-false}
pub use Rattle.constraints.specs.Constraints.{known, is_live, met}
unfoldable pub use Rattle.constraints.specs.Constraints.{meets}
pub use Rattle.constraints.specs.declared.Constraint.{Constraint}
pub use Rattle.lists.specs.Laws.Filter.{split, and_left, and_right, filter_all, filter_length_all, length_filter, count_le, filter_append, count_append}
pub use Rattle.lists.specs.Lists.{splice, iota, rising}
unfoldable pub use Rattle.lists.specs.Lists.{filter, all, count, row_at, any}
unfoldable pub use Rattle.query_scan.specs.Visits.{ids_visited, up_to_first}
pub use Rattle.query_scan.specs.declared.Scan.{Scan}
pub use Rattle.query_scan.specs.inner.Scanning.{BeginsAt, Finished, ScanBegun, ScanStarts, ScanDone, ScanAnswered, CanWrite, Writes, RefineClosed, RowInStore, CanStart, ScanInvariant, Keeps, CanMove, Moves, CanStep, ScanSteps, PageClosed, MatchClosed}
unfoldable pub use Rattle.query_scan.specs.inner.Scanning.{up_to, places, first_place, room_required, refusal_of, scanned_ids, next_at}
pub use Rattle.query_spec.specs.Queries.{refine_refusal, RefinedOne, RefinedList, page_refusal, PageResult, PageRead, match_refusal, Matched}
unfoldable pub use Rattle.query_spec.specs.Queries.{matches, visited, refine_one_reply, refine_list_reply, past_rows, dead_among, next_place, page_ids, next_view, page_view, page_of}
pub use Rattle.query_spec.specs.inner.Tests.{Queryable, RefineRefused, MatchRefused, PageRefused}
pub use Rattle.refusals.specs.Laws.Replies.{reply_refused, reply_accepted}
pub use Rattle.refusals.specs.Refusals.{refused, accepted, reply}
pub use Rattle.table.specs.declared.Header.{Header}
pub use Rattle.std.specs.Prelude.{Option as Maybe, Some, None}
pub use mathlib.Core.Option.{Option}
pub use Rattle.query_spec.specs.declared.Page.{Page as Read}
pub use Rattle.query_scan.specs.Visits.{QueryKind, Refine, Match, Page}
pub use native.Mathlib.Numerals.{add-one}
pub use lib.Seq.{drop-cons, get_or-drop, take_all, take-suc}
pub use Rattle.constraints.specs.Laws.Rows.{live_first}
pub use Rattle.table.proofs.Laws.Refusals.{outside_inside, rows_long_of}
pub use Rattle.lists.specs.Laws.Parts.{part_width}
pub use Rattle.lists.specs.Laws.Rising.{rising_drop, rising_filter, rising_take}
pub use Rattle.lists.specs.Laws.Rows.{row_in}
