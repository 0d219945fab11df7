-- The names that the laws of this crate take from elsewhere, re-exported. It defines nothing of its own.
pub use Rattle.std.specs.Prelude.{◌*◌, ◌+◌, ◌/◌, ◌<◌, ◌≤◌, suc, zero, ℕ, Bool, ◌&&◌, ◌||◌, cond, false, not, true, List, [], ◌++◌, ◌∷◌, map, ◌⊎◌, ◌≡◌, refl, eqb, ltb, drop, get_or, length, take}
pub use Rattle.std.proofs.Common.{append-nil, inl, inr, ⊎_elim, ◌∙◌, ap, ap₂, sym, le_refl, mul-le-mul_right, arith, length-append, length-take-le, take_all, take_at, take-take, eq-eqb, le-leb, le-ltb, ltb-false, ne_eqb}
pub use Rattle.std.proofs.Math.Option.{Option, none, some}
pub use Rattle.std.proofs.lemmas.Bool.{not-false}
pub use Rattle.abi.specs.Encoding.{encode_header}
pub use Rattle.archive.specs.Archive.{Archived, Archives, Damaged, ImageOfLoaded, ReadAfterWrite, RefusedAsImage, Reloaded, Saved, damaged, goes_on, loads, made, reloaded, resized}
pub use Rattle.constraints.specs.Constraints.{is_live}
pub use Rattle.crc32.specs.Bytes.{Below}
pub use Rattle.crc32.specs.Crc.{bytes_of, crc32}
pub use Rattle.crc32.specs.Laws.Bytes.{bytes_of_append, bytes_of_below, bytes_of_cons}
pub use Rattle.crc32.specs.Laws.Damage.{damage_shows, residue_of_crc}
pub use Rattle.history.specs.Histories.{Step, behind}
pub use Rattle.history.proofs.Laws.Calls.{history_represents, step_represents}
pub use Rattle.history.proofs.Laws.Narrowing.{narrowed_rising, narrowed_wanted}
pub use Rattle.history.proofs.Laws.Theorem.{run_narrows}
pub use Rattle.image_spec.specs.Image.{Image, SoundImage, image_of, image_words}
pub use Rattle.image_spec.specs.Laws.Unique.{Parts, image_parts, length_encoded, length_packed, parts_image, reads_unique}
pub use Rattle.lists.specs.Laws.All.{or_no_left, or_no_right}
pub use Rattle.lists.specs.Laws.Filter.{split}
pub use Rattle.lists.specs.Laws.Parts.{length_splice}
pub use Rattle.lists.specs.Laws.Rows.{get_d_rows_of, rows_of_same}
pub use Rattle.lists.specs.Lists.{count, row_at, rows_of, splice}
pub use Rattle.plain_table.specs.Calls.{LentCall, after, after_all}
pub use Rattle.plain_table.proofs.Laws.Calls.{first_refusal_no, first_refusal_rest}
pub use Rattle.plain_table.proofs.Laws.Proper.{bounds_openable}
pub use Rattle.plain_table.specs.Plain.{Plain, opened}
pub use Rattle.plain_table.specs.Proper.{row_of}
pub use Rattle.plain_table.specs.Refusing.{stores_short}
pub use Rattle.plain_table.specs.Staged.{Opening, Staged, openable, words_all}
pub use Rattle.sort_entries.specs.Entries.{Entry, entries_of, entries_sound, value_at}
pub use Rattle.sort_entries.specs.Laws.Stores.{entries_of_same}
pub use Rattle.table.specs.Outcomes.{Body, Represents, Stores, body, body_of, joined, lengths, stores}
pub use Rattle.table.proofs.Laws.Fronts.{body_more, body_part, long_header, pending_more, pending_part}
pub use Rattle.table.proofs.Laws.Live.{live_shown}
pub use Rattle.table.proofs.Laws.Pending.{holds_fits}
pub use Rattle.table.proofs.Laws.Refusals.{Inside, outside_inside}
pub use Rattle.table.proofs.Laws.Shown.{LongEnough, represents_inside, represents_long, stores_long}
pub use Rattle.table.proofs.Laws.Sound.{represents_sound, sound_represents}
pub use Rattle.refusals.specs.Refusals.{answer_view}
pub use Rattle.table.specs.Numbers.{largest_view, opening_of}
pub use Rattle.table.specs.Refusing.{outside}
pub use Rattle.table.specs.Sound.{Sound, SoundContents}
pub use Rattle.table.specs.declared.Header.{Header}
