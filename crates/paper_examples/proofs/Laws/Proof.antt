-- All twelve examples have the results that the paper gives. Assumes nothing.
use Rattle.std.specs.Prelude.{refl}
use Rattle.lists.specs.Lists.{any, all, filter, count, row_at, iota, above, rising, elem, within, same, find}
use Rattle.refusals.specs.Refusals.{first_refusal, reply}
use Rattle.cells.specs.Cells.{is_dead}
use Rattle.merge_rules.specs.Rules.{ruled_column, signed, smaller, larger, taken, made_cell, made_from, changes_from, ruled}
use Rattle.offsets.specs.Subsets.{well_formed, members, size, end_of, list_or_nothing, intersect, shaped, retain, narrowed}
use Rattle.offsets.specs.Answers.{room_needed, intersect_refusal, intersect_reply}
use Rattle.constraints.specs.Constraints.{known, compares, met, is_live, meets}
use Rattle.row_buffer.specs.Ranks.{set_below, bitmap_word, live_at, live_word, new_number}
use Rattle.sort_entries.specs.Entries.{rebuilt_from, rebuilt, first_row, entries_from, by_kind, fast_range}
use Rattle.plain_table.specs.Staged.{openable, words_of, words_all, inserts, has_key, skipped, compaction_due}
use Rattle.plain_table.specs.Plain.{live_from, live_rows, lookup, dead, opened, stage, live_with_key, kill_if, without_key, without_row, removed, below, stop, raised, append, upsert, insertion, insert_all, applied, added, compacted, unstaged, compacts_after, merged}
use Rattle.plain_table.specs.Refusing.{stores_short, words_short, wrong_width, no_such_row, overfull, stage_checks, merge_checks}
use Rattle.plain_table.specs.Calls.{refusal, done, after, after_all}
use Rattle.table.specs.Stores.{entries}
use Rattle.table.specs.Refusing.{outside, rows_short}
use Rattle.query_spec.specs.Queries.{matches, past_rows, query_checks, refine_refusal, page_refusal, refine_one_reply, refine_list_reply, visited, next_place, page_ids, page_of, dead_among}
use Rattle.paper_examples.specs.Examples.{PaperExamples}

pub paper_examples_hold : PaperExamples
unfolding any all filter count row_at iota above rising elem within same find first_refusal reply is_dead ruled_column signed smaller larger taken made_cell made_from changes_from ruled well_formed members size end_of list_or_nothing intersect shaped retain narrowed room_needed intersect_refusal intersect_reply known compares met is_live meets set_below bitmap_word live_at live_word new_number rebuilt_from rebuilt first_row entries_from by_kind fast_range openable words_of words_all inserts has_key skipped compaction_due live_from live_rows lookup dead opened stage live_with_key kill_if without_key without_row removed below stop raised append upsert insertion insert_all applied added compacted unstaged compacts_after merged stores_short words_short wrong_width no_such_row overfull stage_checks merge_checks refusal done after after_all entries outside rows_short matches past_rows query_checks refine_refusal page_refusal refine_one_reply refine_list_reply visited next_place page_ids page_of dead_among
paper_examples_hold =
    record {
      a = refl;
      b = refl;
      c = refl;
      d = refl;
      e_one = refl;
      e_list = refl;
      f = ((refl, refl), (refl, refl));
      g = ((refl, refl), (refl, refl));
      h = ((refl, refl), (refl, refl), (refl, refl), (refl, refl));
      i_rows = refl;
      i_number = refl;
      i_bitmap = refl;
      j = (refl, refl);
      k = ((refl, refl, refl, refl), (refl, refl, refl, refl));
      l = (refl, refl, refl, refl);
    }
