-- An example: store lengths differ from call to call. A table of 3 columns and capacity 4 is opened, a compaction is lent 11 of its
-- 12 row cells and therefore refused, and a merge that is lent all of them is accepted. Assumes nothing.
use Rattle.refusals.specs.declared.Refusal.TheVariants.{TooShort}
use Rattle.history.proofs.Laws.Prelude.{ℕ, ◌≡◌, refl, sym, ap, List, [], ◌∷◌, Option, none, some, arith, length, merging, compacting, Header, Merge, empty_header, empty_represents, opened_done}
use Rattle.lists.specs.Lists.{splice, count, rows_of, flatten}
use Rattle.refusals.specs.Refusals.{first_refusal, reply, outcome, if_accepted}
use Rattle.sort_entries.specs.Entries.{entry_words, rebuilt_from, rebuilt}
use Rattle.key_index.specs.Slots.{size_class, size_class_for}
use Rattle.plain_table.specs.Staged.{Opening, openable, Staged, insert, remove_key, remove_row, words_of, words_all, inserts, compaction_due}
use Rattle.plain_table.specs.Refusing.{Lengths, stores_short, words_short, open_refusal, compact_checks, merge_checks}
use Rattle.plain_table.specs.Plain.{Plain, Row, dead, opened, removed, insert_all, applied, unstaged, compacts_after, merged}
use Rattle.std.specs.Prelude.{None, Ok, Err}
use Rattle.refusals.specs.Refusals.{answer_view}
use Rattle.table.specs.Numbers.{opening_of, largest_of}
use Rattle.table.specs.Refusing.{outside, pending_outside, merge_refusal, compact_refusal}
use Rattle.table.specs.Stores.{entries, stored, row_store, sort_store}
use Rattle.table.specs.Outcomes.{Stores, stores, Represents, body, CompactionWords, compaction_words, merge_of, merged_store, Opened, Merging, MergedTable, Compacting}
use Rattle.history.specs.Histories.{merges as merge-called, compacts as compact-called, called, end, next, History}

-- ---- a table that was just opened

nothing_staged : (o : Opening) (staged : List Staged) → words_all o staged ≡ 0 → staged ≡ []
unfolding words_all words_of
nothing_staged o [] e = refl
nothing_staged o (insert cells ∷ rs) e = absurd (omega arith)
nothing_staged o (remove_key key ∷ rs) e = absurd (omega arith)
nothing_staged o (remove_row row key ∷ rs) e = absurd (omega arith)

no_rows : (rows : List Row) → length rows ≡ 0 → rows ≡ []
no_rows [] e = refl
no_rows (row ∷ rows) e = absurd (omega arith)

none_largest : (l : Option ℕ) → largest_of l ≡ None → l ≡ none
unfolding largest_of
none_largest none e = refl
none_largest (some v) e = absurd (let z : ◌≡◌ {A = ℕ} 0 1 = cc in omega arith)

-- such a table shows that plain table and no other
only_opened : {p : Plain} {o : Opening} {generation : ℕ} {rows keys sorts pending : List ℕ} → Represents p (stores (empty_header o generation) rows keys sorts pending) → p ≡ opened o generation
unfolding opened
only_opened {p} r =
    let h = r.shown.header in
    let a = ap opening_of h in
    let g = ap (λ (x : Header). x.generation) h in
    let n = no_rows p.rows (sym (ap (λ (x : Header). x.rows) h)) in
    let s = nothing_staged p.opening p.staged (sym (ap (λ (x : Header). x.pending) h)) in
    let l = none_largest p.largest (sym (ap (λ (x : Header). x.largest) h)) in
    λ i. record { opening = sym a i; generation = sym g i; rows = n i; staged = s i; largest = l i }

-- ---- the example

abbrev pub example : Opening
example = record { columns = 3; keys = 1; sort = 1; rule = 0; capacity = 4 }

abbrev eight : List ℕ
eight = 0 ∷ 0 ∷ 0 ∷ 0 ∷ 0 ∷ 0 ∷ 0 ∷ 0 ∷ []

abbrev eleven : List ℕ
eleven = 0 ∷ 0 ∷ 0 ∷ eight

abbrev pub example_stores : Stores
example_stores = stores (empty_header example 0) (0 ∷ eleven) eight eight []

abbrev one_word : CompactionWords
one_word = compaction_words (0 ∷ []) (0 ∷ [])

abbrev pub lent_rows : ℕ → Lengths
lent_rows rows = record { rows = rows; keys = 8; sorts = 8; pending = 0; live_words = 1; base_words = 1 }

pub example_opened : Opened example 0 (body (0 ∷ eleven) eight eight) [] (Ok (empty_header example 0)) eight
unfolding open_refusal openable stores_short first_refusal splice size_class_for size_class
example_opened = opened_done example 0 (0 ∷ eleven) eight eight [] eight refl (omega arith) (record { free = refl; tail = refl })

-- refused with 2
example_compacted : Compacting (empty_header example 0) (body eleven eight eight) one_word (Err TooShort) (body eleven eight eight) one_word
unfolding answer_view outcome reply compact_refusal compact_checks outside openable stores_short words_short first_refusal
example_compacted =
    record { refusal = refl; unchanged = λ some. (refl, refl); past = refl; words_past = (refl, refl); table = λ none. absurd (omega arith) }

abbrev unmoved : Merge
unmoved = merge_of (opened example 0)

-- accepted, without effect
example_stays : MergedTable example_stores one_word (Ok unmoved) (body (0 ∷ eleven) eight eight) one_word (opened example 0)
unfolding answer_view merged_store opened merged applied inserts removed insert_all unstaged compacts_after compaction_due dead count entries rebuilt rebuilt_from stored row_store sort_store rows_of flatten entry_words splice words_all openable stores_short size_class_for size_class
example_stays =
    record {
      answers = refl;
      rows_after = refl;
      sorts_after = refl;
      represents = empty_represents example 0 (0 ∷ eleven) eight eight eight [] refl (omega arith) refl (record { free = refl; tail = refl });
      words = λ same. refl;
    }

example_merged : Merging example_stores one_word (Ok unmoved) (body (0 ∷ eleven) eight eight) one_word
unfolding answer_view outcome reply merge_refusal merge_checks pending_outside outside openable stores_short words_short first_refusal
example_merged =
    record {
      refusal = refl;
      unchanged = λ some. absurd (omega arith);
      past = refl;
      words_past = (refl, refl);
      table = λ none p r. rw (only_opened r) example_stays;
    }

pub lengths_differ : History example 0
    (record { call = compacting; lengths = lent_rows 11 } ∷ record { call = merging; lengths = lent_rows 12 } ∷ [])
    example_stores
unfolding if_accepted answer_view opened merged applied inserts removed insert_all unstaged compacts_after compaction_due dead count entries rebuilt rebuilt_from words_all largest_of
lengths_differ =
    record {
      start = example_stores;
      keys_before = eight;
      opened = example_opened;
      rest = body [] [] [];
      pending = [];
      steps =
          next (called {s = stores (empty_header example 0) eleven eight eight []} (body (0 ∷ []) [] []) [] (compact-called one_word (Err TooShort) (body eleven eight eight) one_word example_compacted))
          (next (called (body [] [] []) [] (merge-called one_word (Ok unmoved) (body (0 ∷ eleven) eight eight) one_word example_merged))
          (end example_stores));
    }
