-- The names that the proofs of this crate take from elsewhere, re-exported. It defines nothing of its own.
pub use Prim.Native.Nat.{◌*◌, ◌+◌, ◌-◌, ◌<◌, ◌≤◌, ℕ}
pub use mathlib.Core.Bool.{Bool, false, false≢true, not, true}
pub use mathlib.Core.List.{List, [], ◌∷◌}
pub use mathlib.Core.Path.{◌∙◌, ◌≡◌, ap, ap₂, refl, sym}
pub use native.Mathlib.Nat.{add-zero}
pub use native.Mathlib.Numerals.{add-one}
pub use native.Mathlib.Omega.{arith}
pub use lib.ListN.{drop, get_or, length, length-drop, length-set, length-take, set, take}
pub use lib.Seq.{get_or-drop, get_or-take, take_all, take-take}
pub use borrow.Author.Rules.{rules}
pub use borrow.Author.Tests.{le-leb, lt-leb, ne_eqb, not-false, not-true}
pub use Rattle.key_index.specs.Laws.Index.{replace_tail}
pub use Rattle.key_index.specs.Laws.Places.{fits_stores}
pub use Rattle.key_index.specs.Laws.SizeClasses.{fits_fewer, past_size_class}
pub use Rattle.key_index.specs.Slots.{slots}
pub use Rattle.key_index.specs.declared.Hit.{Hit}
pub use Rattle.key_index.specs.declared.IndexShape.{IndexShape}
pub use Rattle.key_index.specs.inner.Index.{Fits, FoundIs, PutIs}
pub use Rattle.key_index.specs.inner.Ring.{tagged}
pub use Rattle.key_rebuild.specs.inner.Rebuilding.{Rebuilt}
pub use Rattle.lists.specs.Laws.Parts.{part_splice, part_width}
pub use Rattle.lists.specs.Laws.Rows.{row_in}
pub use Rattle.lists.specs.Lists.{splice}
pub use Rattle.merge_insert.specs.Laws.Admission.{admit_entered, stops_full, stops_old}
pub use Rattle.merge_insert.specs.Laws.Inserts.{known_inserts, length_made, new_inserts, skip_inserts}
pub use Rattle.merge_insert.specs.Laws.Places.{Placed, placed}
pub use Rattle.std.specs.Prelude.{Option, None, Some, Result, Ok, Err, unwrap_or}
pub use Rattle.merge_insert.specs.declared.Applied.{Applied}
pub use Rattle.merge_insert.specs.declared.MergeProgress.{MergeProgress}
pub use Rattle.merge_insert.specs.declared.StoppedAt.{StoppedAt}
pub use Rattle.merge_insert.specs.declared.append.Stop.{Stop}
pub use Rattle.merge_insert.specs.inner.Appending.{Insertion, appended, stop_number, AdmissionIs, Entered, Grew, Growable, KeysGrown, NewIs, Rebuildable, RebuiltGrown, ReplaceIs, Replaced, Stayed, Stops, grown_to, outgrown}
pub use Rattle.merge_insert.specs.inner.Inserting.{InsertAgrees, Inserting}
pub use Rattle.merge_insert.specs.inner.Insertions.{stop_status, stop_place, FirstInsert, GoneOn, InsertGoes, InsertNext, InsertStops, InsertedNext, InsertedTable, Insertions, StoppedNext}
pub use Rattle.merge_pending.specs.Laws.Steps.{recounted_capacity, recounted_refl, recounted_then, recounted_waiting, steps_refl, steps_then, waiting_cells, waiting_hash, waiting_kind, waiting_next, waiting_start, words_some}
pub use Rattle.merge_pending.specs.inner.Becoming.{Ready}
pub use Rattle.merge_rules.specs.Laws.Rules.{survivor_length, survivor_old}
pub use Rattle.merge_rules.specs.Rules.{changes_from, made_from, survivor}
pub use Rattle.plain_table.proofs.Laws.Counts.{insert_all_accepted, insert_all_refused}
pub use Rattle.refusals.specs.Refusals.{accepted, refused}
pub use Rattle.table.specs.Outcomes.{Represents, SamePast, Stores, stores}
pub use Rattle.table.proofs.Laws.Refusals.{full_shape_fits}
pub use Rattle.table.specs.Numbers.{opening_of}
pub use Rattle.table.specs.Sound.{index_shape_of}
pub use Rattle.table.specs.declared.Header.{Header}
pub use Rattle.table.specs.inner.FullIndexShape.{full_index_shape_of}
