-- An example: a history with a refresh of each kind. A table of 3 columns and capacity 4 is opened. A refresh by column 2 takes a
-- new index store, which is sound. The next is lent an index store that has seen a row where the table has none, which is unsound.
-- Assumes nothing.
use Rattle.std.specs.Prelude.{Ok}
use Rattle.history.proofs.Laws.Prelude.{ℕ, refl, sym, true, false, false≢true, List, [], ◌∷◌, arith, refreshing, feeding, Header, body, empty_header, Refreshed, lent_call, refreshes, refreshes_unsound, called, end, next, History}
use Rattle.lists.specs.Lists.{splice, filter, all, flatten, same, rows_of}
use Rattle.refusals.specs.Refusals.{first_refusal, reply, if_accepted, answer_view}
use Rattle.plain_table.specs.Staged.{openable, words_all}
use Rattle.plain_table.specs.Plain.{live_from, live_rows, below}
use Rattle.plain_table.specs.Refusing.{overfull}
use Rattle.plain_table.specs.Refreshing.{Refresh, mentioning, refreshed, index_short, refresh_checks}
use Rattle.table.specs.Numbers.{largest_view}
use Rattle.table.specs.Refusing.{outside, pending_outside}
use Rattle.table.specs.Stores.{rows_in}
use Rattle.refresh_spec.specs.Index.{is_new, generation_seen, rows_seen, columns_named, named_in, IndexSound, starts_afresh}
use Rattle.refresh_spec.specs.Refreshes.{refresh_refusal, records_found, Refreshing}
use Rattle.history.proofs.Laws.LentLengths.{example, example_stores, example_opened}
use Rattle.table.specs.Outcomes.{compaction_words}

abbrev empty : Header
empty = empty_header example 0

abbrev rows : List ℕ
rows = example_stores.rows

-- an index store of generation 0 by its words 0, 2, 3 and 4: whether it is written, the rows seen, how many columns are named, and
-- the first of these
abbrev index_store : ℕ → ℕ → ℕ → ℕ → List ℕ
index_store written seen count column =
    written ∷ 0 ∷ seen ∷ count ∷ column
    ∷ 0 ∷ 0 ∷ 0 ∷ 0 ∷ 0 ∷ 0 ∷ 0 ∷ 0 ∷ 0 ∷ 0 ∷ 0
    ∷ 0 ∷ 0 ∷ 0 ∷ 0 ∷ 0 ∷ 0 ∷ 0 ∷ 0 ∷ 0 ∷ 0 ∷ 0 ∷ 0 ∷ []

abbrev pub by_column : Refresh
by_column = record { columns = 2 ∷ []; values = 7 ∷ []; stamp = 0 }

-- the answer if no row was staged
abbrev nothing : Refreshed
nothing = record { header = empty; staged = false }

-- whatever the index store holds, the refresh is accepted and starts the index afresh
example_refreshed : (written seen count column : ℕ)
    → Refreshing empty rows [] (index_store written seen count column) by_column (Ok nothing) [] (index_store 1 0 1 2)
unfolding answer_view reply refresh_refusal refresh_checks first_refusal pending_outside outside openable all largest_view below index_short overfull words_all records_found refreshed mentioning live_rows live_from rows_in rows_of filter flatten splice is_new generation_seen rows_seen columns_named named_in
example_refreshed written seen count column =
    record {
      found = λ row. true;
      all_found = λ sound row. refl;
      effect = record { answers = refl; unchanged = λ some. absurd (omega arith); written = λ none. refl };
      index_unchanged = λ some. absurd (omega arith);
      written = λ none. refl;
      current = λ none sound.
          record {
            written = refl;
            generation = refl;
            seen_all = refl;
            columns_are = refl;
            index_of = record { seen = omega arith; buckets_few = omega arith; listed = λ row place k. absurd (omega arith) };
          };
      past = refl;
      length_same = refl;
    }

new_sound : IndexSound empty rows (2 ∷ []) (index_store 0 0 0 0)
unfolding starts_afresh is_new
new_sound long fits continues = absurd (false≢true (sym continues))

wrong_unsound : IndexSound empty rows (2 ∷ []) (index_store 1 1 1 2) → ⊥
unfolding index_short starts_afresh is_new generation_seen rows_seen columns_named named_in same
wrong_unsound sound = let o = sound (omega arith) refl refl in omega (arith, o.seen)

pub both_kinds : History example 0
    (lent_call (refreshing by_column 28) example_stores (compaction_words [] []) ∷ lent_call (feeding []) example_stores (compaction_words [] []) ∷ [])
    example_stores
unfolding answer_view if_accepted records_found refreshed mentioning live_rows live_from rows_in rows_of filter flatten
both_kinds =
    record {
      start = example_stores;
      keys_before = example_stores.keys;
      opened = example_opened;
      rest = body [] [] [];
      pending = [];
      steps =
          next (called {s = example_stores} (body [] [] []) [] (refreshes (compaction_words [] []) by_column (index_store 0 0 0 0) (Ok nothing) [] (index_store 1 0 1 2) (example_refreshed 0 0 0 0) new_sound))
          (next (called {s = example_stores} (body [] [] []) [] (refreshes_unsound (compaction_words [] []) by_column (index_store 1 1 1 2) (Ok nothing) [] (index_store 1 0 1 2) (example_refreshed 1 1 1 2) wrong_unsound))
          (end example_stores));
    }
