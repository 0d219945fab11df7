-- What holds of a header and of the lengths of the lent stores if an operation is not refused: one record for each list of checks
-- of Refusing, and what the key index requires. Assumes nothing.
use Rattle.table.proofs.Laws.Prelude.{ℕ, ◌+◌, ◌*◌, ◌/◌, ◌≤◌, ◌<◌, ◌≡◌, refl, true, false, not, ◌&&◌, ◌||◌, List, arith, leb, ltb, eqb, length, leb-true, leb-false, ltb-false, eqb-true, eqb-false, eq-eqb, not-false, and_left, and_right, or_no_left, or_no_right, Constraint, known, Fits, size_class_most, size_class_some, size_class_enough, fits_fewer, Opening, openable, first_refusal_no, first_refusal_rest, Bounds, openable_bounds, Header, opening_of, index_shape_of, full_index_shape_of}
use Rattle.plain_table.specs.Refusing.{Lengths, stores_short, words_short, open_refusal, compact_checks, merge_checks, clear_checks}
use Rattle.table.specs.Refusing.{outside, pending_outside, rows_short, pairs_short, merge_refusal, compact_refusal, clear_refusal, lookup_refusal, cell_refusal, fast_refusal, noted_refusal, sound_refusal, lookup_checks}
use Rattle.table.proofs.Laws.Shown.{LongEnough, stores_long}

-- ---- test 1

-- the header's numbers are within their bounds
pub record Inside (h : Header) : Type 0 where
  pub bounds : Bounds (opening_of h)
  pub rows_fit : h.rows ≤ h.capacity
  pub dead_fit : h.dead ≤ h.rows
  pub entries_fit : h.entries ≤ h.rows

pub outside_inside : (h : Header) → outside h ≡ false → Inside h
unfolding outside
outside_inside h e =
    let a = not-false _ e in
    let b = and_left (openable (opening_of h) && leb h.rows h.capacity && leb h.dead h.rows) _ a in
    let c = and_left (openable (opening_of h) && leb h.rows h.capacity) _ b in
    record {
      bounds = openable_bounds (opening_of h) (and_left (openable (opening_of h)) _ c);
      rows_fit = leb-true _ _ (and_right (openable (opening_of h)) _ c);
      dead_fit = leb-true _ _ (and_right (openable (opening_of h) && leb h.rows h.capacity) _ b);
      entries_fit = leb-true _ _ (and_right (openable (opening_of h) && leb h.rows h.capacity && leb h.dead h.rows) _ a);
    }

-- the pending words in use are within their bounds too
pub record PendingInside (h : Header) (pending : ℕ) : Type 0 where
  pub inside : Inside h
  pub pending_fits : h.pending ≤ pending

pub pending_inside : (h : Header) (pending : ℕ) → pending_outside h pending ≡ false → PendingInside h pending
unfolding pending_outside
pending_inside h pending e =
    record { inside = outside_inside h (or_no_left (outside h) _ e); pending_fits = ltb-false _ _ (or_no_right (outside h) _ e) }

-- ---- test 2

-- there are enough compaction words for a capacity
pub record WordsLong (o : Opening) (live base : ℕ) : Type 0 where
  pub live_long : (o.capacity + 63) / 64 ≤ live
  pub base_long : (o.capacity + 63) / 64 ≤ base

pub words_long : (o : Opening) (l : Lengths) → words_short o l ≡ false → WordsLong o l.live_words l.base_words
unfolding words_short
words_long o l e =
    record {
      live_long = ltb-false _ _ (or_no_left (ltb l.live_words ((o.capacity + 63) / 64)) _ e);
      base_long = ltb-false _ _ (or_no_right (ltb l.live_words ((o.capacity + 63) / 64)) _ e);
    }

pub rows_long_of : (h : Header) (rows : ℕ) → rows_short h rows ≡ false → h.capacity * h.columns ≤ rows
unfolding rows_short
rows_long_of h rows e = ltb-false _ _ e

pairs_long_of : (h : Header) (store : ℕ) → pairs_short h store ≡ false → 2 * h.capacity ≤ store
unfolding pairs_short
pairs_long_of h store e = ltb-false _ _ e

-- what the key index requires, for any number of slots in use
pub inside_full_shape : (h : Header) (rows keys : List ℕ) → Inside h → h.capacity * h.columns ≤ length rows → 2 * h.capacity ≤ length keys → Fits (full_index_shape_of h) rows keys
inside_full_shape h rows keys i r k =
    record {
      some_columns = i.bounds.columns_some;
      most_columns = i.bounds.columns_few;
      some_keys = i.bounds.keys_some;
      most_keys = i.bounds.keys_few;
      some = i.bounds.capacity_some;
      most = i.bounds.capacity_few;
      count = i.rows_fit;
      cells = r;
      long = k;
    }

-- and for the slots that are in use
pub full_shape_fits : (h : Header) (rows keys : List ℕ) → Fits (full_index_shape_of h) rows keys → Fits (index_shape_of h) rows keys
full_shape_fits h rows keys f =
    fits_fewer (full_index_shape_of h) (index_shape_of h) rows keys f refl refl (size_class_some h.capacity h.rows f.some) (size_class_enough h.capacity h.rows f.count f.most)
    (size_class_most h.capacity h.rows)

pub inside_fits : (h : Header) (rows keys : List ℕ) → Inside h → h.capacity * h.columns ≤ length rows → 2 * h.capacity ≤ length keys → Fits (index_shape_of h) rows keys
inside_fits h rows keys i r k = full_shape_fits h rows keys (inside_full_shape h rows keys i r k)

-- ---- *Open*

pub record Openable (o : Opening) (l : Lengths) : Type 0 where
  pub bounds : Bounds o
  pub long : LongEnough o l.rows l.keys l.sorts

pub open_accepted : (o : Opening) (l : Lengths) → open_refusal o l ≡ 0 → Openable o l
unfolding open_refusal
open_accepted o l e =
    record {
      bounds = openable_bounds o (not-false _ (first_refusal_no _ 0 _ e));
      long = stores_long o l (first_refusal_no _ 1 _ (first_refusal_rest _ 0 _ e));
    }

-- ---- *Merge*

pub record Mergeable (h : Header) (l : Lengths) : Type 0 where
  pub inside : Inside h
  pub pending_fits : h.pending ≤ l.pending
  pub long : LongEnough (opening_of h) l.rows l.keys l.sorts
  pub words : WordsLong (opening_of h) l.live_words l.base_words

pub merge_accepted : (h : Header) (l : Lengths) → merge_refusal h l ≡ 0 → Mergeable h l
unfolding merge_refusal merge_checks
merge_accepted h l e =
    let a = pending_inside h l.pending (first_refusal_no _ 0 _ e) in
    let b = first_refusal_no (stores_short (opening_of h) l || words_short (opening_of h) l) 1 _ (first_refusal_rest _ 0 _ e) in
    record {
      inside = a.inside;
      pending_fits = a.pending_fits;
      long = stores_long (opening_of h) l (or_no_left (stores_short (opening_of h) l) _ b);
      words = words_long (opening_of h) l (or_no_right (stores_short (opening_of h) l) _ b);
    }

-- ---- *Compact*

pub record Compactable (h : Header) (l : Lengths) : Type 0 where
  pub inside : Inside h
  pub long : LongEnough (opening_of h) l.rows l.keys l.sorts
  pub words : WordsLong (opening_of h) l.live_words l.base_words
  pub not_last : h.generation ≡ 4294967295 → ⊥

pub compact_accepted : (h : Header) (l : Lengths) → compact_refusal h l ≡ 0 → Compactable h l
unfolding compact_refusal compact_checks
compact_accepted h l e =
    let rest = first_refusal_rest _ 0 _ e in
    let b = first_refusal_no (stores_short (opening_of h) l || words_short (opening_of h) l) 1 _ rest in
    record {
      inside = outside_inside h (first_refusal_no _ 0 _ e);
      long = stores_long (opening_of h) l (or_no_left (stores_short (opening_of h) l) _ b);
      words = words_long (opening_of h) l (or_no_right (stores_short (opening_of h) l) _ b);
      not_last = eqb-false _ _ (first_refusal_no _ 9 _ (first_refusal_rest _ 1 _ rest));
    }

-- ---- *Clear*

pub record Clearable (h : Header) (keys : ℕ) : Type 0 where
  pub inside : Inside h
  pub keys_long : 2 * h.capacity ≤ keys
  pub last_empty : h.generation ≡ 4294967295 → h.rows ≡ 0

pub clear_accepted : (h : Header) (keys : ℕ) → clear_refusal h keys ≡ 0 → Clearable h keys
unfolding clear_refusal clear_checks pairs_short
clear_accepted h keys e =
    let rest = first_refusal_rest _ 0 _ e in
    record {
      inside = outside_inside h (first_refusal_no _ 0 _ e);
      keys_long = pairs_long_of h keys (first_refusal_no _ 1 _ rest);
      last_empty = λ last. empty (eq-eqb _ _ last) (first_refusal_no _ 9 _ (first_refusal_rest _ 1 _ rest));
    }
  where
    empty : eqb h.generation 4294967295 ≡ true → (eqb h.generation 4294967295 && ltb 0 h.rows) ≡ false → h.rows ≡ 0
    empty last none = let few = ltb-false 0 h.rows (rw last at none) in omega arith

-- ---- *Key lookup*, *one cell*

pub record Lookable (h : Header) (rows keys cells : ℕ) : Type 0 where
  pub inside : Inside h
  pub rows_long : h.capacity * h.columns ≤ rows
  pub keys_long : 2 * h.capacity ≤ keys
  pub key_width : cells ≡ h.keys

pub lookup_accepted : (h : Header) (rows keys cells : ℕ) → lookup_refusal h rows keys cells ≡ 0 → Lookable h rows keys cells
unfolding lookup_refusal lookup_checks
lookup_accepted h rows keys cells e =
    let rest = first_refusal_rest _ 0 _ e in
    let b = first_refusal_no (rows_short h rows || pairs_short h keys) 1 _ rest in
    record {
      inside = outside_inside h (first_refusal_no _ 0 _ e);
      rows_long = rows_long_of h rows (or_no_left (rows_short h rows) _ b);
      keys_long = pairs_long_of h keys (or_no_right (rows_short h rows) _ b);
      key_width = eqb-true _ _ (not-false _ (first_refusal_no _ 2 _ (first_refusal_rest _ 1 _ rest)));
    }

pub record Readable (h : Header) (rows keys cells column : ℕ) : Type 0 where
  pub lookable : Lookable h rows keys cells
  pub column_there : column < h.columns

pub cell_accepted : (h : Header) (rows keys cells column : ℕ) → cell_refusal h rows keys cells column ≡ 0 → Readable h rows keys cells column
unfolding cell_refusal lookup_checks
cell_accepted h rows keys cells column e =
    let rest = first_refusal_rest _ 0 _ e in
    let b = first_refusal_no (rows_short h rows || pairs_short h keys) 1 _ rest in
    let last = first_refusal_rest _ 1 _ rest in
    record {
      lookable =
          record {
            inside = outside_inside h (first_refusal_no _ 0 _ e);
            rows_long = rows_long_of h rows (or_no_left (rows_short h rows) _ b);
            keys_long = pairs_long_of h keys (or_no_right (rows_short h rows) _ b);
            key_width = eqb-true _ _ (not-false _ (first_refusal_no _ 2 _ last));
          };
      column_there = leb-false _ _ (first_refusal_no _ 5 _ (first_refusal_rest _ 2 _ last));
    }

-- ---- *Fast range*

pub record Ranging (h : Header) (sorts : ℕ) (c : Constraint) : Type 0 where
  pub inside : Inside h
  pub sorts_long : 2 * h.capacity ≤ sorts
  pub is_known : known h.columns c ≡ true

pub fast_accepted : (h : Header) (sorts : ℕ) (c : Constraint) → fast_refusal h sorts c ≡ 0 → Ranging h sorts c
unfolding fast_refusal
fast_accepted h sorts c e =
    let rest = first_refusal_rest _ 0 _ e in
    record {
      inside = outside_inside h (first_refusal_no _ 0 _ e);
      sorts_long = pairs_long_of h sorts (first_refusal_no _ 1 _ rest);
      is_known = not-false _ (first_refusal_no _ 5 _ (first_refusal_rest _ 1 _ rest));
    }

-- ---- the rows since a noted version

pub record Noted (h : Header) (generation count : ℕ) : Type 0 where
  pub same : generation ≡ h.generation
  pub rows_there : count ≤ h.rows

pub noted_accepted : (h : Header) (generation count : ℕ) → noted_refusal h generation count ≡ 0 → Noted h generation count
unfolding noted_refusal
noted_accepted h generation count e =
    let f = first_refusal_no (not (eqb generation h.generation) || ltb h.rows count) 17 _ (first_refusal_rest _ 0 _ e) in
    record {
      same = eqb-true _ _ (not-false _ (or_no_left (not (eqb generation h.generation)) _ f));
      rows_there = ltb-false _ _ (or_no_right (not (eqb generation h.generation)) _ f);
    }

-- ---- the soundness check

pub record Tested (h : Header) (rows keys sorts pending : ℕ) : Type 0 where
  pub inside : Inside h
  pub pending_fits : h.pending ≤ pending
  pub long : LongEnough (opening_of h) rows keys sorts

pub sound_tested : (h : Header) (rows keys sorts pending : ℕ) → sound_refusal h rows keys sorts pending ≡ 0 → Tested h rows keys sorts pending
unfolding sound_refusal
sound_tested h rows keys sorts pending e =
    let a = pending_inside h pending (first_refusal_no _ 0 _ e) in
    let b = first_refusal_no (rows_short h rows || pairs_short h keys || pairs_short h sorts) 1 _ (first_refusal_rest _ 0 _ e) in
    let c = or_no_left (rows_short h rows || pairs_short h keys) _ b in
    record {
      inside = a.inside;
      pending_fits = a.pending_fits;
      long =
          record {
            rows_long = rows_long_of h rows (or_no_left (rows_short h rows) _ c);
            keys_long = pairs_long_of h keys (or_no_right (rows_short h rows) _ c);
            sorts_long = pairs_long_of h sorts (or_no_right (rows_short h rows || pairs_short h keys) _ b);
          };
    }
