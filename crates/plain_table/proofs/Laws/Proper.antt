-- An opening makes a proper table, and every call leaves a proper table proper. Assumes nothing.
use Rattle.plain_table.proofs.Laws.Prelude.{ℕ, ◌+◌, ◌≤◌, ◌<◌, max, ◌/◌, ◌≡◌, refl, sym, ap, ◌∙◌, inl, inr, Bool, true, false, not, ◌&&◌, false≢true, List, [], ◌∷◌, Option, none, ℕ_discrete, arith, leb, ltb, eqb, length, take, get_or, leb-true, ltb-true, leb-false, eqb-true, eqb-false, le-leb, lt-ltb, not-true, not-false, split, and_left, and_right, all_get_d, all_filter_of, and_both, all_head, all_tail, all_cons, all_snoc, all_append, accepted, row_of, Proper, made_length, made_keys, made_first}
use Rattle.lists.specs.Lists.{all}
use Rattle.cells.specs.Cells.{is_dead}
use Rattle.plain_table.specs.Staged.{Opening, openable, Staged, insert, remove_key, remove_row, inserts, skipped, compaction_due}
use Rattle.plain_table.specs.Plain.{Row, Plain, live_rows, with_rows, opened, stage, live_with_key, kill_if, dies, removed, stop, insertion, applied, dead, compacted, unstaged, compacts_after, merged, cleared, below, with_row, insert_all}
use Rattle.plain_table.specs.Refreshing.{Refresh, mentions, mentioning}
use Rattle.plain_table.specs.Refusing.{Lengths, wrong_width, stage_checks, compact_checks, clear_checks}
use Rattle.plain_table.specs.Calls.{Call, staging, merging, compacting, clearing, refreshing, feeding, records_of, stage_all, refusal, done, after, LentCall, after_all, used}
use Rattle.plain_table.proofs.Laws.Lookup.{lookup_none, lookup_at}
use Rattle.plain_table.proofs.Laws.Rows.{no_row, wide_row, free_row, ProperRows, live_with_key_key, free_dead, keys_distinct_of, keys_distinct_at, sorted_from_of, sorted_from_sorted, Thinned, kill_if_thinned, dies_thinned, filter_thinned, thinned_same, thinned_length, thinned_proper_rows, proper_rows_snoc}
use Rattle.plain_table.proofs.Laws.Calls.{refused_nothing, accepted_done, first_refusal_no, first_refusal_rest}
use Rattle.plain_table.proofs.Laws.Refreshing.{live_wide, refreshed_whole, none_wrong}
use Rattle.plain_table.proofs.Laws.Counts.{Appended, new, again, insertion_keeps, appended_alike, removed_keeps, removed_alike, insert_all_keeps}

-- ---- an opening's numbers

-- "its bounds"
pub record Bounds (o : Opening) : Type 0 where
  pub columns_some : 1 ≤ o.columns
  pub columns_few : o.columns ≤ 8
  pub keys_some : 1 ≤ o.keys
  pub keys_few : o.keys ≤ o.columns
  pub sort_column : o.sort < o.columns
  pub rule_known : o.rule ≤ 3
  pub capacity_some : 1 ≤ o.capacity
  pub capacity_few : o.capacity ≤ 65536

-- an accepted opening is within its bounds
pub openable_bounds : (o : Opening) → openable o ≡ true → Bounds o
unfolding openable
openable_bounds o e =
    let a = and_left _ _ e in
    let b = and_left _ _ a in
    let c = and_left _ _ b in
    let d = and_left _ _ c in
    let f = and_left _ _ d in
    let g = and_left _ _ f in
    record {
      columns_some = leb-true _ _ (and_left _ _ g);
      columns_few = leb-true _ _ (and_right (leb 1 o.columns) _ g);
      keys_some = leb-true _ _ (and_right (leb 1 o.columns && leb o.columns 8) _ f);
      keys_few = leb-true _ _ (and_right (leb 1 o.columns && leb o.columns 8 && leb 1 o.keys) _ d);
      sort_column = ltb-true _ _ (and_right (leb 1 o.columns && leb o.columns 8 && leb 1 o.keys && leb o.keys o.columns) _ c);
      rule_known = leb-true _ _ (and_right (leb 1 o.columns && leb o.columns 8 && leb 1 o.keys && leb o.keys o.columns && ltb o.sort o.columns) _ b);
      capacity_some = leb-true _ _ (and_right (leb 1 o.columns && leb o.columns 8 && leb 1 o.keys && leb o.keys o.columns && ltb o.sort o.columns && leb o.rule 3) _ a);
      capacity_few = leb-true _ _ (and_right (leb 1 o.columns && leb o.columns 8 && leb 1 o.keys && leb o.keys o.columns && ltb o.sort o.columns && leb o.rule 3 && leb 1 o.capacity) _ e);
    }

-- an opening within its bounds is accepted
pub bounds_openable : (o : Opening) → Bounds o → openable o ≡ true
unfolding openable
bounds_openable o b =
    rw (
      le-leb _ _ b.columns_some,
      le-leb _ _ b.columns_few,
      le-leb _ _ b.keys_some,
      le-leb _ _ b.keys_few,
      lt-ltb _ _ b.sort_column,
      le-leb _ _ b.rule_known,
      le-leb _ _ b.capacity_some,
      le-leb _ _ b.capacity_few,
    )

-- ---- `Proper` by the row list

-- every staged record has the right number of cells
abbrev pub Whole : Opening → List Staged → Type 0
Whole o staged = all (λ r. not (wrong_width o r)) staged ≡ true

-- the rows of a proper table are tidy (`ProperRows`)
pub proper_rows : {p : Plain} → Proper p → ProperRows p.opening p.largest p.rows
proper_rows {p} h =
    record {
      fit = h.rows_fit;
      wide = h.widths;
      first = h.live_first;
      differ = keys_distinct_of p.opening.keys p.rows h.keys_differ;
      climb = sorted_from_of p.opening.sort 0 p.rows (λ j k. omega arith) h.sorted;
      kept = h.largest_kept;
    }

-- a table is proper if its rows are tidy and its other parts are in order
pub rows_proper : (p : Plain) → openable p.opening ≡ true → p.generation ≤ 4294967295 → ProperRows p.opening p.largest p.rows → Whole p.opening p.staged → Proper p
rows_proper p bounds fits t whole =
    record {
      numbers = bounds;
      generation_fits = fits;
      rows_fit = t.fit;
      widths = t.wide;
      live_first = t.first;
      keys_differ = keys_distinct_at p.opening.keys p.rows t.differ;
      sorted = sorted_from_sorted p.opening.sort 0 p.rows t.climb;
      largest_kept = t.kept;
      staged_whole = whole;
    }

-- an empty row list is tidy
pub proper_rows_none : (o : Opening) (largest : Option ℕ) → ProperRows o largest []
unfolding all
proper_rows_none o largest =
    record {
      fit = omega arith;
      wide = refl;
      first = refl;
      differ = keys_distinct_of o.keys [] (λ i j p q k. absurd (false≢true p));
      climb = sorted_from_of o.sort 0 [] (λ j k. omega arith) (λ i j h k. absurd (omega arith));
      kept = refl;
    }

-- a newly opened table is proper
pub opened_proper : (o : Opening) (generation : ℕ) → openable o ≡ true → generation ≤ 4294967295 → Proper (opened o generation)
unfolding opened
opened_proper o generation e h = rows_proper (opened o generation) e h (proper_rows_none o none) (unfold all in refl)

-- ---- rows die or are dropped

-- the table with other tidy rows
pub with_rows_proper : {p : Plain} (rows : List Row) → Proper p → ProperRows p.opening p.largest rows → Proper (with_rows p rows)
with_rows_proper {p} rows h t = rows_proper (with_rows p rows) h.numbers h.generation_fits t h.staged_whole

-- some rows die or are dropped
pub thinned_proper : {p : Plain} {rows : List Row} → Proper p → Thinned p.rows rows → Proper (with_rows p rows)
thinned_proper {p} {rows} h t = with_rows_proper rows h (thinned_proper_rows p.opening t (proper_rows h))

-- every row that passes a test dies
pub kill_if_proper : {p : Plain} (test : Row → Bool) → Proper p → Proper (with_rows p (kill_if test p.rows))
kill_if_proper {p} test h = thinned_proper h (kill_if_thinned test p.rows)

-- one row dies, if it is live and has the key
pub dies_proper : {p : Plain} (keys : ℕ) (key : List ℕ) (number : ℕ) → Proper p → Proper (with_rows p (dies keys key number p.rows))
dies_proper {p} keys key number h = thinned_proper h (dies_thinned keys key number p.rows)

-- a merge's removals
pub removed_proper : {p : Plain} → Proper p → Proper (removed p)
removed_proper {p} h = removed_keeps Proper (λ q test k. kill_if_proper test k) (λ q keys key number k. dies_proper keys key number k) p h

-- ---- a row is appended

-- if an insert does not stop, the table is not full
pub stop_room : (cells : List ℕ) (p : Plain) → stop cells p ≡ 0 → length p.rows < p.opening.capacity
unfolding stop
stop_room cells p e = leb-false _ _ (first_refusal_no _ 7 _ e)

-- and its sort cell is not below the largest value
pub stop_above : (cells : List ℕ) (p : Plain) → stop cells p ≡ 0 → below (get_or cells p.opening.sort 0) p.largest ≡ false
unfolding stop
stop_above cells p e = first_refusal_no _ 8 _ (first_refusal_rest _ 7 _ e)

-- Appends a live row whose key no live row has. The rows before it are those of the table, some dead or dropped.
pub append_proper : {p : Plain} (cells : List ℕ) {rows : List Row} → Proper p → Thinned p.rows rows
    → length cells ≡ p.opening.columns
    → is_dead (get_or cells 0 0) ≡ false
    → all (free_row p.opening.keys (take p.opening.keys cells)) rows ≡ true
    → stop cells p ≡ 0
    → Proper (with_row p rows cells)
append_proper {p} cells {rows} h t width head free e =
    let room = stop_room cells p e in
    rows_proper (with_row p rows cells) h.numbers h.generation_fits
    (proper_rows_snoc p.opening p.largest rows cells (thinned_proper_rows p.opening t (proper_rows h)) (omega (arith, thinned_length t)) width head free (stop_above cells p e))
    h.staged_whole

-- ---- inserts

-- after the live rows of a key die, no live row has that key
pub kill_if_free : (keys : ℕ) (key : List ℕ) (rows : List Row) → all (free_row keys key) (kill_if (live_with_key keys key) rows) ≡ true
unfolding kill_if
kill_if_free keys key [] = unfold all in refl
kill_if_free keys key (row ∷ rows) =
    all_cons (free_row keys key) _ _
    (elim (split (live_with_key keys key row)) [ inl e ↦ rw e (free_dead keys key row) | inr e ↦ rw (e, e) ])
    (kill_if_free keys key rows)

appended_proper : {cells : List ℕ} {p p' : Plain} → Proper p → length cells ≡ p.opening.columns → Appended cells p p' → Proper p'
unfolding skipped
appended_proper {cells} {p} h w (new s l e) = append_proper cells h (thinned_same p.rows) w s (lookup_none p _ l) e
appended_proper {cells} {p} h w (again old row s l c m e) =
    let keys : ℕ = p.opening.keys in
    let t = lookup_at p (take keys cells) old l in
    let b = openable_bounds p.opening h.numbers in
    let width : length old.cells ≡ p.opening.columns = ap length (sym t.2) ∙ eqb-true _ _ (all_get_d (wide_row p.opening.columns) p.rows h.widths old.number t.0 no_row) in
    let key : take keys old.cells ≡ take keys cells = ap (take keys) (sym t.2) ∙ live_with_key_key keys (take keys cells) (row_of p old.number) t.1 in
    let row-key : take keys row ≡ take keys cells = ap (take keys) (sym m) ∙ made_keys p.opening.rule keys p.opening.sort old.cells cells (width ∙ sym w) key ∙ key in
    append_proper row h (kill_if_thinned _ p.rows)
    (ap length (sym m) ∙ made_length p.opening.rule keys p.opening.sort old.cells cells (width ∙ sym w) ∙ width)
    (ap (λ (r : List ℕ). is_dead (get_or r 0 0)) (sym m) ∙ ap is_dead (made_first p.opening.rule keys p.opening.sort old.cells cells b.keys_some (width ∙ sym w) key) ∙ s)
    (rw row-key (kill_if_free keys (take keys cells) p.rows))
    e

-- an accepted insert of the right width leaves a proper table
pub insertion_proper : (cells : List ℕ) (p p' : Plain) → Proper p → length cells ≡ p.opening.columns → insertion cells p ≡ accepted p' → Proper p'
insertion_proper cells p p' h w e = insertion_keeps Proper cells p p' e h (appended_proper h w)

-- all inserts, each of the right width
pub insert_all_proper : {p : Plain} (rows : List (List ℕ)) (place : ℕ) → Proper p → all (λ cells. eqb (length cells) p.opening.columns) rows ≡ true
    → Proper (insert_all rows place p).table
insert_all_proper {p} rows place h e =
    (insert_all_keeps (λ t. (Proper t) × (t.opening ≡ p.opening)) (λ cells. eqb (length cells) p.opening.columns)
    (λ cells t t' w k a.
    (appended_proper k.0 (eqb-true _ _ w ∙ ap (λ (o : Opening). o.columns) (sym k.1)) a, (appended_alike a).opening ∙ k.1))
    rows e place p (h, refl)
    ).0

-- staged inserts have the right width
pub inserts_wide : (o : Opening) (rs : List Staged) → Whole o rs → all (λ cells. eqb (length cells) o.columns) (inserts rs) ≡ true
unfolding inserts
inserts_wide o [] e = unfold all in refl
inserts_wide o (insert cells ∷ rs) e =
    all_cons (λ row. eqb (length row) o.columns) cells (inserts rs)
    (unfold wrong_width in not-false _ (not-true _ (all_head (λ r. not (wrong_width o r)) (insert cells) rs e)))
    (inserts_wide o rs (all_tail (λ r. not (wrong_width o r)) (insert cells) rs e))
inserts_wide o (remove_key key ∷ rs) e = inserts_wide o rs (all_tail (λ r. not (wrong_width o r)) (remove_key key) rs e)
inserts_wide o (remove_row row key ∷ rs) e = inserts_wide o rs (all_tail (λ r. not (wrong_width o r)) (remove_row row key) rs e)

-- ---- merge

-- a merge's removals and inserts
pub applied_proper : {p : Plain} → Proper p → Proper (applied p).table
unfolding applied
applied_proper {p} h =
    insert_all_proper (inserts p.staged) 0 (removed_proper h)
    (rw (removed_alike p).opening (inserts_wide p.opening p.staged h.staged_whole))

-- a compaction below the last generation
pub compacted_proper : {p : Plain} → Proper p → p.generation < 4294967295 → Proper (compacted p)
unfolding compacted
compacted_proper {p} h k =
    rows_proper (compacted p) h.numbers (omega arith) (thinned_proper_rows p.opening (filter_thinned (λ row. row.live) p.rows) (proper_rows h)) h.staged_whole

-- pending is emptied
pub unstaged_proper : {p : Plain} → Proper p → Proper (unstaged p)
unfolding unstaged
unstaged_proper {p} h = rows_proper (unstaged p) h.numbers h.generation_fits (proper_rows h) (unfold all in refl)

-- a generation that fits and is not the last is below the last
below_last : (g : ℕ) → g ≤ 4294967295 → eqb g 4294967295 ≡ false → g < 4294967295
below_last g h e = omega (arith, eqb-false g 4294967295 e)

-- a merge compacts only below the last generation
compacts_below : {p : Plain} (status : ℕ) → Proper p → compacts_after status p ≡ true → p.generation < 4294967295
unfolding compacts_after compaction_due
compacts_below {p} status h e =
    below_last p.generation h.generation_fits (not-true _ (and_right (ltb (max 16 (length p.rows / 2)) (dead p)) _ (and_right (eqb status 0) _ e)))

-- a merge, stopped or not
pub merged_proper : {p : Plain} → Proper p → Proper (merged p).table
unfolding merged unstaged
merged_proper {p} h =
    let q : Plain = (applied p).table in
    let k = unstaged_proper (applied_proper h) in
    elim (split (compacts_after (applied p).status q)) [ inl e ↦ rw e (compacted_proper k (compacts_below (applied p).status (applied_proper h) e)) | inr e ↦ rw e k ]

-- ---- stage and clear

-- an accepted record is staged
pub staged_proper : {p : Plain} (outside : Bool) (pending : ℕ) (r : Staged) → Proper p → stage_checks outside p.opening (length p.rows) (used p) pending r ≡ 0 → Proper (stage p r)
unfolding stage stage_checks
staged_proper {p} outside pending r h e =
    let w : wrong_width p.opening r ≡ false = first_refusal_no _ 2 _ (first_refusal_rest _ 0 _ e) in
    rows_proper (stage p r) h.numbers h.generation_fits (proper_rows h)
    (all_snoc (λ s. not (wrong_width p.opening s)) p.staged r h.staged_whole (rw w))

-- whole records are staged
pub stage_all_proper : {p : Plain} (rs : List Staged) → Proper p → Whole p.opening rs → Proper (stage_all p rs)
unfolding stage_all
stage_all_proper {p} rs h whole =
    rows_proper (stage_all p rs) h.numbers h.generation_fits (proper_rows h)
    (all_append (λ s. not (wrong_width p.opening s)) p.staged rs h.staged_whole whole)

-- the records of a refresh are whole
pub records_whole : {p : Plain} (r : Refresh) → Proper p → Whole p.opening (records_of p r)
unfolding mentioning live_rows
records_whole {p} r h =
    let o = p.opening in
    refreshed_whole o r.stamp (mentioning r p) (openable_bounds o h.numbers).keys_few
    (all_filter_of (λ row. eqb (length row.cells) o.columns) (λ row. mentions r.columns r.values row.cells) (live_rows p) (live_wide o 0 p.rows h.widths))

-- a clear; if there are rows, only below the last generation
pub cleared_proper : {p : Plain} → Proper p → (0 < length p.rows → p.generation < 4294967295) → Proper (cleared p)
unfolding cleared
cleared_proper {p} h f =
    elim (split (ltb 0 (length p.rows))) [
      | inl e ↦
          let k = f (ltb-true _ _ e) in
          rw e (opened_proper p.opening (p.generation + 1) h.numbers (omega arith))
      | inr e ↦ rw e (unstaged_proper h)
    ]

-- ---- calls

-- an accepted call
pub done_proper : {p : Plain} (l : Lengths) (c : Call) → Proper p → refusal p l c ≡ 0 → Proper (done p c)
unfolding done refusal
done_proper {p} l (staging r) h e = staged_proper (ltb l.pending (used p)) l.pending r h e
done_proper l merging h e = merged_proper h
done_proper {p} l compacting h e =
    compacted_proper h (below_last p.generation h.generation_fits (unfold compact_checks in first_refusal_no _ 9 _ (first_refusal_rest _ 1 _ (first_refusal_rest _ 0 _ e))))
done_proper {p} l clearing h e =
    let n : (eqb p.generation 4294967295 && ltb 0 (length p.rows)) ≡ false = unfold clear_checks in first_refusal_no _ 9 _ (first_refusal_rest _ 1 _ (first_refusal_rest _ 0 _ e)) in
    cleared_proper h
    (λ k.
    elim (split (eqb p.generation 4294967295)) [
      | inl q ↦ absurd (false≢true (sym n ∙ and_both _ _ q (lt-ltb _ _ k)))
      | inr q ↦ below_last p.generation h.generation_fits q
    ])
done_proper {p} l (refreshing r index) h e = stage_all_proper (records_of p r) h (records_whole r h)
done_proper {p} l (feeding rs) h e = stage_all_proper rs h (none_wrong p.opening rs (first_refusal_no _ 2 _ e))

-- every call, refused ones included
pub after_proper : {p : Plain} (l : Lengths) (c : Call) → Proper p → Proper (after p l c)
after_proper {p} l c h =
    elim (ℕ_discrete (refusal p l c) 0) [
      | yes e ↦ rw (accepted_done p l c e) (done_proper l c h e)
      | no e ↦ rw (refused_nothing p l c (omega arith)) h
    ]

-- a list of calls
pub after_all_proper : {p : Plain} (cs : List LentCall) → Proper p → Proper (after_all p cs)
unfolding after_all
after_all_proper [] h = h
after_all_proper {p = p} (c ∷ cs) h = after_all_proper {p = after p c.lengths c.call} cs (after_proper c.lengths c.call h)

-- "every plain table that calls lead to from an opening"
pub history_proper : (o : Opening) (generation : ℕ) (cs : List LentCall) → openable o ≡ true → generation ≤ 4294967295 → Proper (after_all (opened o generation) cs)
history_proper o generation cs e h = after_all_proper cs (opened_proper o generation e h)
