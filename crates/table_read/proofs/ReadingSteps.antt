-- The results of each function of this crate, and what its calls require. Assumes nothing.
use Rattle.refusals.specs.Laws.Numbers.{err_replies, none_outcome, ok_replies, number_some}
use Rattle.refusals.specs.declared.Refusal.{Refusal}
use Rattle.std.specs.Prelude.{Ok, Err, Some, None, Option as Optional}
use Prim.Native.Nat.{ℕ, ◌+◌, ◌*◌, ◌≤◌, ◌<◌}
use mathlib.Core.Path.{◌≡◌, refl, ◌∙◌}
use mathlib.Core.Option.{none, some as one}
use mathlib.Core.List.{List}
use native.Mathlib.Nat.{mul-le-mul}
use native.Mathlib.Omega.{arith}
use lib.ListN.{length, get_or}
use borrow.Author.Tests.{eq-eqb, ne_eqb}
use Rattle.lists.specs.Laws.Rows.{row_in, get_d_row_at}
use Rattle.refusals.specs.Laws.Replies.{reply_refused, reply_accepted, outcome_refused, outcome_accepted}
use Rattle.cells.specs.Cells.{compact_hash, key_hash}
use Rattle.offsets.specs.Subsets.{range}
use Rattle.constraints.specs.declared.Constraint.{Constraint}
use Rattle.sort_entries.specs.declared.Range.{Range as Rows}
use Rattle.sort_entries.specs.inner.Search.{EntriesFit, Ranged}
use Rattle.lists.specs.Lists.{row_at}
use Rattle.key_index.specs.declared.IndexShape.{IndexShape}
use Rattle.key_index.specs.declared.Hit.{Hit}
use Rattle.key_index.specs.Slots.{KeysSound}
use Rattle.key_index.specs.inner.Index.{Fits, FoundIs}
use Rattle.plain_table.specs.Plain.{lookup}
use Rattle.table.specs.declared.Header.{Header}
use Rattle.refusals.specs.Refusals.{found_view, number}
use Rattle.table.specs.Numbers.{range_view}
use Rattle.table.specs.Refusing.{lookup_refusal, cell_refusal, fast_refusal, version_refusal, since_refusal, noted_refusal}
use Rattle.table.specs.Sound.{index_shape_of, KeysDiffer}
use Rattle.table.specs.Outcomes.{of_rows, LookedUp, CellRead, fast_subset, fast_among, RangeRead, VersionRead, RowsSince, RowsSinceVersion}
use Rattle.table.proofs.Laws.Lookup.{row_read, none_read}
use Rattle.table.proofs.Laws.Refusals.{Lookable, lookup_accepted, Readable, cell_accepted, fast_accepted, inside_fits}

-- ---- *Key lookup*, *one cell*

-- a row's cell is within the row store, at a place that fits into a u32
pub record CellIn (h : Header) (rows : List ℕ) (row column : ℕ) : Type 0 where
  pub row_few : row * h.columns ≤ 524288
  pub few : row * h.columns + column ≤ 524288
  pub inside : row * h.columns + column < length rows

module _ (h : Header) (rows keys key : List ℕ) where
  lookup_fits : (t : IndexShape) → t ≡ index_shape_of h → Lookable h (length rows) (length keys) (length key) → Fits t rows keys × (length key ≡ t.keys)
  lookup_fits t e a = rw e (inside_fits h rows keys a.inside a.rows_long a.keys_long, a.key_width)

  -- what the lookup by hash requires
  pub lookup_pre : (t : IndexShape) → t ≡ index_shape_of h → lookup_refusal h (length rows) (length keys) (length key) ≡ 0 → Fits t rows keys × (length key ≡ t.keys)
  lookup_pre t e accepts = lookup_fits t e (lookup_accepted h _ _ _ accepts)

  pub cell_pre : (t : IndexShape) (column : ℕ) → t ≡ index_shape_of h → cell_refusal h (length rows) (length keys) (length key) column ≡ 0 → Fits t rows keys × (length key ≡ t.keys)
  cell_pre t column e accepts = lookup_fits t e (cell_accepted h _ _ _ column accepts).lookable

  pub row_refused : (r : Refusal) → number r ≡ lookup_refusal h (length rows) (length keys) (length key) → LookedUp h rows keys key (Err r)
  row_refused r e = record { refusal = none_outcome _ r e; table = λ accepts. absurd (number_some r (e ∙ accepts)) }

  pub cell_refused : (r : Refusal) (column : ℕ) → number r ≡ cell_refusal h (length rows) (length keys) (length key) column → CellRead h rows keys key column (Err r)
  cell_refused r column e = record { refusal = none_outcome _ r e; table = λ accepts. absurd (number_some r (e ∙ accepts)) }

  module _ (t : IndexShape) (hash : ℕ) (found : Optional Hit) (e : t ≡ index_shape_of h) (hashed : hash ≡ compact_hash (key_hash key)) (f : FoundIs t rows keys key hash found) where
    found_is : FoundIs (index_shape_of h) rows keys key hash found
    found_is = rw e at f

    module _ (sound : KeysSound (index_shape_of h) rows keys) (differ : KeysDiffer h rows) where
      none_found : found ≡ None → lookup (of_rows h rows) key ≡ none
      none_found q = none_read h rows key (found_is.none hashed sound q)

      row_found : (hit : Hit) → found ≡ Some hit → lookup (of_rows h rows) key ≡ one (record { number = hit.row; cells = row_at h.columns hit.row rows })
      row_found hit q =
          let a = found_is.at hashed sound hit q in
          row_read h rows key differ hit.row a.live a.key_is

    pub row_none : lookup_refusal h (length rows) (length keys) (length key) ≡ 0 → found ≡ None → LookedUp h rows keys key (Ok None)
    unfolding found_view
    row_none accepts q =
        record {
          refusal = outcome_accepted _ _ none refl accepts;
          table = λ _ sound differ. rw (none_found sound differ q);
        }

    pub row_some : (hit : Hit) → lookup_refusal h (length rows) (length keys) (length key) ≡ 0 → found ≡ Some hit → LookedUp h rows keys key (Ok (Some hit.row))
    unfolding found_view
    row_some hit accepts q =
        record {
          refusal = outcome_accepted _ _ (one hit.row) refl accepts;
          table = λ _ sound differ. rw (row_found sound differ hit q);
        }

    module _ (column : ℕ) (accepts : cell_refusal h (length rows) (length keys) (length key) column ≡ 0) where
      readable : Readable h (length rows) (length keys) (length key) column
      readable = cell_accepted h _ _ _ column accepts

      pub cell_none : found ≡ None → CellRead h rows keys key column (Ok None)
      unfolding found_view
      cell_none q =
          record {
            refusal = outcome_accepted _ _ none refl accepts;
            table = λ _ sound differ. rw (none_found sound differ q);
          }

      pub cell_in : (hit : Hit) → found ≡ Some hit → CellIn h rows hit.row column
      cell_in hit q =
          let a = readable in
          let i = a.lookable.inside in
          let k : hit.row < h.capacity = omega (arith, found_is.row_in hit q, i.rows_fit) in
          let whole = row_in hit.row h.capacity h.columns k in
          let most = mul-le-mul i.bounds.capacity_few i.bounds.columns_few in
          record {
            row_few = omega arith;
            few = omega (arith, a.column_there);
            inside = omega (arith, a.column_there, a.lookable.rows_long);
          }

      pub cell_found : (hit : Hit) → found ≡ Some hit → CellRead h rows keys key column (Ok (Some (get_or rows (hit.row * h.columns + column) 0)))
      unfolding found_view
      cell_found hit q =
          record {
            refusal = outcome_accepted _ _ (one _) refl accepts;
            table = λ _ sound differ. rw (row_found sound differ hit q, get_d_row_at h.columns hit.row rows column 0 readable.column_there);
          }

-- ---- *Fast range*

module _ (h : Header) (sorts : List ℕ) (c : Constraint) where
  pub range_refused : (r : Refusal) → number r ≡ fast_refusal h (length sorts) c → RangeRead h sorts c (Err r)
  unfolding range_view
  range_refused r e =
      record { refusal = outcome_refused _ _ (number r) refl e (number_some r); table = λ accepts. absurd (number_some r (e ∙ accepts)) }

  module _ (accepts : fast_refusal h (length sorts) c ≡ 0) where
    -- what the search requires
    pub range_pre : EntriesFit sorts h.entries
    range_pre =
        let a = fast_accepted h (length sorts) c accepts in
        let i = a.inside in
        record {
          few = omega (arith, i.entries_fit, i.rows_fit, i.bounds.capacity_few);
          words = omega (arith, i.entries_fit, i.rows_fit, a.sorts_long);
        }

    pub range_columns : c.kind ≡ 0 → RangeRead h sorts c (Ok None)
    unfolding range_view fast_subset fast_among
    range_columns kind =
        record { refusal = outcome_accepted _ _ none refl accepts; table = λ _ sound. rw (eq-eqb _ _ kind) }

    pub range_other : (c.kind ≡ 0 → ⊥) → (c.column ≡ h.sort → ⊥) → RangeRead h sorts c (Ok None)
    unfolding range_view fast_subset fast_among
    range_other kind column =
        record {
          refusal = outcome_accepted _ _ none refl accepts;
          table = λ _ sound. rw (ne_eqb _ _ kind, ne_eqb _ _ column);
        }

    pub range_some : (c.kind ≡ 0 → ⊥) → c.column ≡ h.sort → (r : Rows) → Ranged sorts h.entries h.rows c.kind c.value r → RangeRead h sorts c (Ok (Some r))
    unfolding range_view fast_subset fast_among
    range_some kind column r ranged =
        record {
          refusal = outcome_accepted _ _ (one (range r.start r.end)) refl accepts;
          table = λ _ sound. rw (ne_eqb _ _ kind, eq-eqb _ _ column, ranged.is sound);
        }

-- ---- *Version*, *Rows since*

module _ (h : Header) where
  pub version_refused : (r : Refusal) → number r ≡ version_refusal h → VersionRead h (Err r)
  version_refused r e = record { answers = err_replies r _ e }

  pub version_answered : version_refusal h ≡ 0 → VersionRead h (Ok (record { generation = h.generation; rows = h.rows }))
  version_answered accepts = record { answers = ok_replies refl accepts }

  pub since_refused : (r : Refusal) (row : ℕ) → number r ≡ since_refusal h row → RowsSince h row (Err r)
  unfolding range_view
  since_refused r row e = record { answers = reply_refused _ _ (number r) _ refl e (number_some r) }

  pub since_answered : (row : ℕ) → since_refusal h row ≡ 0 → RowsSince h row (Ok (Some (record { start = row; end = h.rows })))
  unfolding range_view
  since_answered row accepts = record { answers = reply_accepted _ _ _ refl accepts }

  pub noted_refused : (r : Refusal) (generation count : ℕ) → number r ≡ noted_refusal h generation count → RowsSinceVersion h generation count (Err r)
  unfolding range_view
  noted_refused r generation count e = record { answers = reply_refused _ _ (number r) _ refl e (number_some r) }

  pub noted_answered : (generation count : ℕ) → noted_refusal h generation count ≡ 0 → RowsSinceVersion h generation count (Ok (Some (record { start = count; end = h.rows })))
  unfolding range_view
  noted_answered generation count accepts = record { answers = reply_accepted _ _ _ refl accepts }
