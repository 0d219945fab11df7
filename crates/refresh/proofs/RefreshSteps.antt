-- The results of a refresh: refused before the search for its rows, refused because the records do not fit, or done.
-- Assumes nothing.
use Rattle.refusals.specs.declared.Refusal.TheVariants.{PendingFull}
use Rattle.refusals.specs.Laws.Numbers.{err_replies, ok_replies, number_some}
use Rattle.refusals.specs.declared.Refusal.{Refusal}
use Rattle.std.specs.Prelude.{Ok, Err}
use Rattle.refresh.proofs.Prelude.{ℕ, zero, suc, ◌+◌, ◌*◌, ◌≤◌, ◌<◌, ◌≡◌, refl, sym, ap, ◌∙◌, inl, inr, Bool, true, false, List, [], ◌∷◌, map, mul-le-mul, mul-le-mul_right, arith, ltb, length, replicate, ltb-false, lt-ltb, le-ltb, splice, flatten, or_right, or_no_left, or_no_right, split, count_to, bitmap_none, summarised_none, count_to_le, Staged, words_all, Numbered, Refresh, refreshed, Header, opening_of, outside, record_words, outside_inside, Refreshed, IndexSound, mentions_at, Lendable, CaughtUp, UpToDate, early_refusal, RowsFound, usable_index}
use Rattle.refusals.specs.Refusals.{check, first_refusal, answer_view, number}
use Rattle.plain_table.specs.Refusing.{overfull}
use Rattle.refresh_spec.specs.Refreshes.{refresh_refusal, records_found, answered, Refreshing}
use Rattle.refresh.specs.inner.Staging.{marked_rows, rows_words, row_words, Stageable, RowsStaged}
use Rattle.refresh.proofs.TestSteps.{refused_before_seven, Passed, only_seven, lendable}
use Rattle.refresh.proofs.FindSteps.{FoundRows, found_rows, there_below, found, records_found_lem}
use Rattle.refresh.proofs.StageSteps.{length_marked, all_marked, words_of_lem, length_refreshed}

-- the words of the removals and of the inserts of so many rows fit a u32
pub record WordsFew (h : Header) (count : ℕ) : Type 0 where
  pub keys_few : h.keys ≤ 8
  pub columns_few : h.columns ≤ 8
  pub removals : count * (h.keys + 3) ≤ 720896
  pub inserts : count * (h.columns + 2) ≤ 720896

few_words : (h : Header) → outside h ≡ false → (count : ℕ) → count ≤ 65536 → WordsFew h count
few_words h inside count few =
    let b = (outside_inside h inside).bounds in
    let keys : h.keys + 3 ≤ 11 = omega (arith, b.keys_few, b.columns_few) in
    let columns : h.columns + 2 ≤ 11 = omega (arith, b.columns_few) in
    record {
      keys_few = omega (arith, b.keys_few, b.columns_few);
      columns_few = b.columns_few;
      removals = omega (arith, mul-le-mul few keys);
      inserts = omega (arith, mul-le-mul few columns);
    }

pub all_words_few : (h : Header) → outside h ≡ false → WordsFew h h.rows
all_words_few h inside = let i = outside_inside h inside in few_words h inside h.rows (omega (arith, i.rows_fit, i.bounds.capacity_few))

twice : (n : ℕ) → ltb 0 n ≡ ltb 0 (2 * n)
twice zero = refl
twice (suc n) = lt-ltb 0 (suc n) (omega arith) ∙ sym (lt-ltb 0 (2 * suc n) (omega arith))

module _ (h : Header) (rows pending index : List ℕ) (r : Refresh) where
  abbrev refusal_of : List Staged → ℕ
  refusal_of records = refresh_refusal h (length rows) (length pending) (length index) r records

  refused_as : (q : Refusal) (found : ℕ → Bool) → (IndexSound h rows r.columns index → (row : ℕ) → found row ≡ true) → number q ≡ refusal_of (records_found h rows r found)
      → Refreshing h rows pending index r (Err q) pending index
  refused_as q found all e =
      record {
        found = found;
        all_found = all;
        effect = record { answers = err_replies q _ e; unchanged = λ k. refl; written = λ z. absurd (number_some q (e ∙ z)) };
        index_unchanged = λ k. refl;
        written = λ z. absurd (number_some q (e ∙ z));
        current = λ z. absurd (number_some q (e ∙ z));
        past = refl;
        length_same = refl;
      }

  -- by the tests before 7
  pub refused_early : (q : Refusal) → number q ≡ early_refusal h (length rows) (length pending) (length index) r.columns r.stamp → Refreshing h rows pending index r (Err q) pending index
  refused_early q e =
      refused_as q (λ row. true) (λ sound row. refl) (e ∙ refused_before_seven h (length rows) (length pending) (length index) r _ (λ z. number_some q (e ∙ z)))

  module _ (p : Passed h (length rows) (length pending) (length index) r) {words : List ℕ} {count : ℕ} (marks : RowsFound h rows index r.columns r.values (replicate 1040 0) words count) where
    lent : Lendable h rows r.columns index
    lent = lendable h rows (length pending) index r p

    f : FoundRows h rows index r.columns r.values words count
    f = found_rows lent.inside bitmap_none summarised_none marks

    only : (i : ℕ) → f.test i ≡ true → i < h.rows
    only i t = there_below h rows r.columns r.values i (f.mention i t)

    rows_few : h.rows ≤ 65536
    rows_few = let i = outside_inside h lent.inside in omega (arith, i.rows_fit, i.bounds.capacity_few)

    count_rows : count_to f.test h.rows ≡ count
    count_rows = sym (all_marked h rows f.test only 65536 rows_few).1 ∙ f.counted

    pub words_few : WordsFew h count
    words_few = few_words h lent.inside count (omega (arith, sym f.counted, count_to_le f.test 65536))

    abbrev records : List Staged
    records = records_found h rows r (found h rows r f.test f.mention)

    abbrev marked : List Numbered
    marked = marked_rows h rows f.test h.rows

    records_are : records ≡ refreshed (opening_of h) r.stamp marked
    records_are = records_found_lem h rows r f.test f.mention

    marked_count : length marked ≡ count
    marked_count = length_marked h rows f.test h.rows ∙ count_rows

    -- their words, as the code counts them
    records_words : words_all (opening_of h) records ≡ count * (h.keys + 3) + count * (h.columns + 2)
    records_words =
        ap (words_all (opening_of h)) records_are
        ∙ words_of_lem h r.stamp marked
        ∙ ap (λ (k : ℕ). k * row_words h) marked_count
        ∙ omega arith

    all_found : IndexSound h rows r.columns index → (row : ℕ) → found h rows r f.test f.mention row ≡ true
    unfolding found
    all_found sound row = elim (split (mentions_at h rows r.columns r.values row)) [
      | inl m ↦ rw (f.all sound row m)
      | inr m ↦ or_right (f.test row) _ (rw m)
    ]

    seven : refusal_of records ≡ first_refusal (check (overfull h.pending (length pending) (count * (h.keys + 3) + count * (h.columns + 2))) 7 ∷ [])
    seven = only_seven h (length rows) (length pending) (length index) r p records ∙ rw records_words

    -- the records do not fit
    pub refused_full : overfull h.pending (length pending) (count * (h.keys + 3) + count * (h.columns + 2)) ≡ true
        → Refreshing h rows pending index r (Err PendingFull) pending index
    refused_full full =
        refused_as PendingFull (found h rows r f.test f.mention) all_found (sym (seven ∙ unfold first_refusal in rw full))

    -- where the records of all rows fit, these do
    pub found_fit : overfull h.pending (length pending) (h.rows * (h.keys + 3) + h.rows * (h.columns + 2)) ≡ false
        → overfull h.pending (length pending) (count * (h.keys + 3) + count * (h.columns + 2)) ≡ false
    unfolding overfull
    found_fit free =
        let most : ℕ = h.pending + (h.rows * (h.keys + 3) + h.rows * (h.columns + 2)) in
        let n : ℕ = h.pending + (count * (h.keys + 3) + count * (h.columns + 2)) in
        let few : count ≤ h.rows = omega (arith, count_rows, count_to_le f.test h.rows) in
        let a = ltb-false (length pending) most (or_no_left (ltb (length pending) most) _ free) in
        let b = ltb-false 4294967295 most (or_no_right (ltb (length pending) most) _ free) in
        let less : n ≤ most = omega (arith, mul-le-mul_right (h.keys + 3) few, mul-le-mul_right (h.columns + 2) few) in
        rw (le-ltb (length pending) n (omega (arith, less, a)), le-ltb 4294967295 n (omega (arith, less, b)))

    -- the records fit
    module _ (free : overfull h.pending (length pending) (count * (h.keys + 3) + count * (h.columns + 2)) ≡ false) where
      total : count_to f.test h.rows * row_words h ≡ count * (h.keys + 3) + count * (h.columns + 2)
      total = rw count_rows (omega arith)

      pub stageable : Stageable h rows pending words count
      unfolding overfull
      stageable =
          let n : ℕ = h.pending + (count * (h.keys + 3) + count * (h.columns + 2)) in
          let left : ltb (length pending) n ≡ false = or_no_left (ltb (length pending) n) _ free in
          let right : ltb 4294967295 n ≡ false = or_no_right (ltb (length pending) n) _ free in
          record {
            test = f.test;
            bitmap = f.bitmap;
            summarised = f.summarised;
            counted = count_rows;
            room = record {
              inside = lent.inside;
              rows_long = lent.rows_long;
              rows_only = only;
              free = omega (arith, total, ltb-false (length pending) n left);
              counted = omega (arith, total, ltb-false 4294967295 n right);
            };
          }

      some_staged : ltb 0 count ≡ ltb 0 (length records)
      some_staged =
          let n : length records ≡ 2 * count = ap length records_are ∙ length_refreshed h r.stamp marked ∙ ap (λ (k : ℕ). 2 * k) marked_count in
          rw n (twice count)

      pub done : {answer : Refreshed} {pending' index' : List ℕ} → CaughtUp h rows r.columns index index' × UpToDate h r.columns index'
          → RowsStaged h rows pending words count r.stamp answer pending' → Refreshing h rows pending index r (Ok answer) pending' index'
      unfolding stageable rows_words answer_view
      done {answer} up all =
          let w = all.written.on stageable in
          let none : refusal_of records ≡ 0 = seven ∙ unfold first_refusal in rw free in
          let u : all.used ≡ h.pending + words_all (opening_of h) records = w.words_used ∙ ap (λ (k : ℕ). h.pending + k) (total ∙ sym records_words) in
          let a : answer ≡ answered h records = all.answers ∙ rw (u, some_staged) in
          record {
            found = found h rows r f.test f.mention;
            all_found = all_found;
            effect = record {
              answers = ok_replies a none;
              unchanged = λ k. absurd (omega (arith, none));
              written = λ z. w.words ∙ ap (λ (rs : List Staged). splice pending h.pending (flatten (map (record_words h.keys) rs))) (sym records_are);
            };
            index_unchanged = λ k. absurd (omega (arith, none));
            written = λ z. up.0.written;
            current = λ z sound. up.0.current (λ u. usable_index lent u sound);
            past = up.0.past;
            length_same = up.0.length_same;
          }
