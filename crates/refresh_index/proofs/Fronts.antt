-- The words before the entries, as they are written, and an index of all rows. Assumes nothing.
use Rattle.refresh_index.proofs.Prelude.{ℕ, ◌+◌, ◌*◌, ◌≤◌, ◌<◌, ◌≡◌, refl, sym, ap, ◌∙◌, true, false, List, [], ◌∷◌, arith, length, take, drop, get_or, get_or-set_same, get_or-set_other, take-set-le, drop-set-lt, take_drop, length_splice, drop_splice, part_splice, get_d_splice_after, is_live, Header, usable_of, entry_in, chain_same, column_is}
use Rattle.lists.specs.Lists.{splice, elem, row_at}
use Rattle.refresh_spec.specs.Index.{is_new, generation_seen, rows_seen, columns_named, named_in, bucket_of, chain, entries_under, IndexOf, Current}
use Rattle.refresh_index.specs.inner.Entries.{cell_named, entry_live, entry_value, heads_at, fronted, Listed, Fillable, Pushed, UpToDate, Filled}

module _ (h : Header) (columns : List ℕ) (buckets : ℕ) (index : List ℕ) (long : 16 ≤ length index) (few : length columns ≤ 8) where
  words : List ℕ
  words = 1 ∷ h.generation ∷ h.rows ∷ length columns ∷ []

  words_fit : 0 + length words ≤ length index
  unfolding words
  words_fit = omega arith

  columns_fit : 4 + length columns ≤ length (splice index 0 words)
  columns_fit = omega (arith, length_splice index words 0 words_fit)

  front_written : is_new (fronted h columns buckets index) ≡ false
  unfolding is_new fronted splice
  front_written = refl

  front_first : get_or (fronted h columns buckets index) 0 0 ≡ 1
  unfolding fronted splice
  front_first = refl

  front_generation : generation_seen (fronted h columns buckets index) ≡ h.generation
  unfolding fronted splice generation_seen
  front_generation = refl

  front_rows : rows_seen (fronted h columns buckets index) ≡ h.rows
  unfolding fronted splice rows_seen
  front_rows = refl

  front_count : columns_named (fronted h columns buckets index) ≡ length columns
  unfolding fronted splice columns_named
  front_count = refl

  front_names : take (length columns) (drop 4 (fronted h columns buckets index)) ≡ columns
  unfolding fronted words
  front_names =
      take_drop 4 (length columns) (fronted h columns buckets index)
      ∙ ap (drop 4) (take-set-le (4 + length columns) (splice (splice index 0 words) 4 columns) 12 buckets (omega arith))
      ∙ sym (take_drop 4 (length columns) (splice (splice index 0 words) 4 columns))
      ∙ part_splice (splice index 0 words) columns 4 columns_fit

  front_buckets : get_or (fronted h columns buckets index) 12 0 ≡ buckets
  unfolding fronted words
  front_buckets =
      get_or-set_same (splice (splice index 0 words) 4 columns) 12 buckets 0
      (omega (arith, length_splice (splice index 0 words) columns 4 columns_fit, length_splice index words 0 words_fit))

  -- words from the entries' on are as they were
  front_after : (at : ℕ) → 16 ≤ at → get_or (fronted h columns buckets index) at 0 ≡ get_or index at 0
  unfolding fronted words
  front_after at h =
      get_or-set_other (splice (splice index 0 words) 4 columns) 12 at buckets 0 (omega arith)
      ∙ get_d_splice_after (splice index 0 words) columns 4 columns_fit at 0 (omega arith)
      ∙ get_d_splice_after index words 0 words_fit at 0 (omega arith)

  front_past : (n : ℕ) → 16 ≤ n → drop n (fronted h columns buckets index) ≡ drop n index
  unfolding fronted words
  front_past n h =
      drop-set-lt n (splice (splice index 0 words) 4 columns) 12 buckets (omega arith)
      ∙ drop_splice (splice index 0 words) columns 4 columns_fit n (omega arith)
      ∙ drop_splice index words 0 words_fit n (omega arith)

  front_up_to_date : h.rows * length columns ≤ buckets → buckets ≤ 2 * (h.capacity * length columns) → UpToDate h columns (fronted h columns buckets index)
  front_up_to_date enough room =
      record {
        usable_now = usable_of h columns (fronted h columns buckets index)
            (record {
              first = front_first;
              generation = front_generation;
              named = record { count = front_count; names = front_names };
              seen = rw front_rows (omega arith);
              enough = rw front_buckets enough;
              room = rw front_buckets room;
            });
        seen_all = front_rows;
      }

  -- so an index of all rows
  module _ (rows : List ℕ) (room : buckets ≤ 2 * (h.capacity * length columns)) (l : Listed h rows columns buckets (h.rows * length columns) index) where
    entry_listed : (row place : ℕ) → row < h.rows → place < length columns → is_live (row_at h.columns row rows) ≡ true
        → elem (row * length columns + place) (chain index (h.rows * length columns) (get_or index (heads_at h columns + bucket_of buckets (cell_named h rows columns row place)) 0)) ≡ true
    unfolding entry_live entry_value
    entry_listed row place r p live =
        let e = entry_in h.rows (length columns) row place r p in
        rw (e.row_of, e.place_of) at (l.each (row * length columns + place) e.below) live

    front_index : IndexOf h rows (fronted h columns buckets index)
    unfolding entries_under cell_named
    front_index =
        record {
          seen = rw front_rows (omega arith);
          buckets_few = rw (front_count, front_buckets) room;
          listed = λ row place r live p.
              let r' : row < h.rows = rw front_rows at r in
              let p' : place < length columns = rw front_count at p in
              rw (front_count, front_rows, front_buckets, column_is columns (fronted h columns buckets index) front_names place p', front_after (heads_at h columns + bucket_of buckets (cell_named h rows columns row place)) (omega arith), chain_same (h.rows * length columns) index (fronted h columns buckets index) _ (λ e k. front_after (16 + e) (omega arith)))
              (entry_listed row place r' p' live);
        }

    front_current : Current h rows columns (fronted h columns buckets index)
    front_current =
        record {
          written = front_written;
          generation = front_generation;
          seen_all = front_rows;
          columns_are = unfold named_in in rw front_count front_names;
          index_of = front_index;
        }

-- the rows from one on were pushed, and the front is written
pub filled : (h : Header) (rows columns : List ℕ) (buckets from : ℕ) (index index₁ index₂ : List ℕ) → Fillable h rows columns buckets index → length index₁ ≡ length index
    → Pushed h rows columns buckets (from * length columns) index (h.rows * length columns) index₁ → index₂ ≡ fronted h columns buckets index₁
    → Filled h rows columns buckets from index index₂
filled h rows columns buckets from index index₁ index₂ f same p e =
    let long : 16 ≤ length index₁ = omega (arith, f.lendable.index_long) in
    let few = f.lendable.columns_few in
    record {
      written = rw e (front_written h columns buckets index₁ long few);
      up_to_date = rw e (front_up_to_date h columns buckets index₁ long few f.enough f.room);
      current = λ l. rw e (front_current h columns buckets index₁ long few rows f.room (p.lists l));
      same_below = λ entry k. rw e (front_after h columns buckets index₁ long few (16 + entry) (omega arith)) ∙ p.same_below entry k;
      buckets_are = rw e (front_buckets h columns buckets index₁ long few);
      past = rw e (front_past h columns buckets index₁ long few (16 + 3 * (h.capacity * length columns)) (omega arith)) ∙ p.past;
    }
