-- The paper's example of a session: the bytes of its lines, in ASCII, and the bytes that they print. Assumes nothing.
use Rattle.std.specs.Prelude.{◌≡◌, ◌∷◌}
use Rattle.levels_spec.specs.Laws.Prelude.{ℕ, refl, List, []}
use Rattle.lists.specs.Lists.{flatten, all, same, count, filter, iota, find, elem}
use Rattle.refusals.specs.Refusals.{first_refusal, reply}
use Rattle.cells.specs.Cells.{is_dead}
use Rattle.merge_rules.specs.Rules.{ruled_column, signed, smaller, larger, taken, made_cell, made_from, changes_from, ruled}
use Rattle.constraints.specs.Constraints.{known}
use Rattle.sort_entries.specs.Entries.{rebuilt_from, rebuilt, first_row, entries_from, by_kind, fast_range}
use Rattle.plain_table.specs.Staged.{openable, words_of, words_all, inserts, has_key, skipped, compaction_due}
use Rattle.plain_table.specs.Refusing.{stores_short, words_short, wrong_width, no_such_row, overfull, open_refusal, stage_checks, merge_checks}
use Rattle.plain_table.specs.Plain.{live_from, live_rows, lookup, dead, opened, stage, live_with_key, kill_if, without_key, without_row, removed, below, stop, raised, append, upsert, insertion, insert_all, applied, added, compacted, unstaged, compacts_after, merged}
use Rattle.plain_table.specs.Calls.{refusal, done, after}
use Rattle.table.specs.Stores.{entries}
use Rattle.table.specs.Outcomes.{fast_among}
use Rattle.levels_text.specs.Lines.{fields, value_from, is_decimal, is_line, letter, numbers, is_form, of_forms, prepend_to_first}
use Rattle.levels_text.specs.Written.{digits_in, decimal, field, text_line}
use Rattle.listing_spec.specs.Listings.{head_letter, listing_text, from_numbered}
use Rattle.listing_write.specs.Writing.{table_listing}
use Rattle.levels_spec.specs.Session.{lines_in, session, printed}
use Rattle.levels_spec.specs.Response.{replied, open_number, opens, calls, queries, merge_text, fast_subset_of, range_text, list_text, served, result, line_result}
use Rattle.std.proofs.Math.Option.{Option-elim}

-- one line each: `O,4,2,3,1,100,0` `I,7,1,160,10` `I,7,2,148,10` `M` `I,7,1,163,12` `R,7,2` `M` `F,1,3,10` `V` `L`
unfoldable pub input : List ℕ
input =
    79 ∷ 44 ∷ 52 ∷ 44 ∷ 50 ∷ 44 ∷ 51 ∷ 44 ∷ 49 ∷ 44 ∷ 49 ∷ 48 ∷ 48 ∷ 44 ∷ 48 ∷ 10
    ∷ 73 ∷ 44 ∷ 55 ∷ 44 ∷ 49 ∷ 44 ∷ 49 ∷ 54 ∷ 48 ∷ 44 ∷ 49 ∷ 48 ∷ 10
    ∷ 73 ∷ 44 ∷ 55 ∷ 44 ∷ 50 ∷ 44 ∷ 49 ∷ 52 ∷ 56 ∷ 44 ∷ 49 ∷ 48 ∷ 10
    ∷ 77 ∷ 10
    ∷ 73 ∷ 44 ∷ 55 ∷ 44 ∷ 49 ∷ 44 ∷ 49 ∷ 54 ∷ 51 ∷ 44 ∷ 49 ∷ 50 ∷ 10
    ∷ 82 ∷ 44 ∷ 55 ∷ 44 ∷ 50 ∷ 10
    ∷ 77 ∷ 10
    ∷ 70 ∷ 44 ∷ 49 ∷ 44 ∷ 51 ∷ 44 ∷ 49 ∷ 48 ∷ 10
    ∷ 86 ∷ 10
    ∷ 76 ∷ 10
    ∷ []

-- one line each: `M,0,1,0` `M,0,1,0` `F,0,2` `V,0,3` `T,4,2,3,1,0` `D,7,1,163,12`
unfoldable pub output : List ℕ
output =
    77 ∷ 44 ∷ 48 ∷ 44 ∷ 49 ∷ 44 ∷ 48 ∷ 10
    ∷ 77 ∷ 44 ∷ 48 ∷ 44 ∷ 49 ∷ 44 ∷ 48 ∷ 10
    ∷ 70 ∷ 44 ∷ 48 ∷ 44 ∷ 50 ∷ 10
    ∷ 86 ∷ 44 ∷ 48 ∷ 44 ∷ 51 ∷ 10
    ∷ 84 ∷ 44 ∷ 52 ∷ 44 ∷ 50 ∷ 44 ∷ 51 ∷ 44 ∷ 49 ∷ 44 ∷ 48 ∷ 10
    ∷ 68 ∷ 44 ∷ 55 ∷ 44 ∷ 49 ∷ 44 ∷ 49 ∷ 54 ∷ 51 ∷ 44 ∷ 49 ∷ 50 ∷ 10
    ∷ []

pub example : printed input ≡ output
unfolding printed session lines_in prepend_to_first input output flatten all same count filter iota find elem first_refusal reply is_dead ruled_column signed smaller larger taken made_cell made_from changes_from ruled known rebuilt_from rebuilt first_row entries_from by_kind fast_range openable words_of words_all inserts has_key skipped compaction_due stores_short words_short wrong_width no_such_row overfull open_refusal stage_checks merge_checks live_from live_rows lookup dead opened stage live_with_key kill_if without_key without_row removed below stop raised append upsert insertion insert_all applied added compacted unstaged compacts_after merged refusal done after entries fields value_from is_decimal is_line letter numbers is_form of_forms digits_in decimal field text_line replied open_number opens calls queries merge_text fast_subset_of fast_among range_text list_text listing_text head_letter table_listing from_numbered served Option-elim result line_result
example = refl
