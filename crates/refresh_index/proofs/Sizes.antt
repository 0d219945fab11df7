-- How large a table's numbers are, and where its cells are. Assumes nothing.
use Rattle.refresh_index.proofs.Prelude.{ℕ, ◌*◌, ◌≤◌, ◌<◌, ◌≡◌, false, List, mul-le-mul, mul-le-mul_right, arith, length, get_or, ltb-true, all_get_d, Inside, inside, Header, outside, outside_inside, Lendable, Readable, Fillable}

-- so many entries a row
pub record Small (h : Header) (count : ℕ) : Type 0 where
  pub rows_fit : h.rows ≤ h.capacity
  pub rows_few : h.capacity ≤ 65536
  pub some_columns : 1 ≤ h.columns
  pub entries_fit : h.rows * count ≤ h.capacity * count
  pub entries_few : h.capacity * count ≤ 524288

pub small : (h : Header) (count : ℕ) → outside h ≡ false → count ≤ 8 → Small h count
small h count e few =
    let i = outside_inside h e in
    record {
      rows_fit = i.rows_fit;
      rows_few = i.bounds.capacity_few;
      some_columns = i.bounds.columns_some;
      entries_fit = mul-le-mul_right count i.rows_fit;
      entries_few = mul-le-mul i.bounds.capacity_few few;
    }

-- what a refresh may read of what it is lent
pub readable : {h : Header} {rows columns index : List ℕ} → Lendable h rows columns index → Readable h rows columns
readable l = record { inside = l.inside; rows_long = l.rows_long; columns_few = l.columns_few; columns_there = l.columns_there }

-- a store of the same length may be filled too
pub fillable_same : {h : Header} {rows columns index : List ℕ} {buckets : ℕ} → Fillable h rows columns buckets index → (index' : List ℕ) → length index' ≡ length index
    → Fillable h rows columns buckets index'
fillable_same f index' e =
    let l = f.lendable in
    record {
      lendable = record { inside = l.inside; rows_long = l.rows_long; columns_few = l.columns_few; columns_there = l.columns_there; index_long = rw e l.index_long };
      enough = f.enough;
      room = f.room;
    }

-- a row, and its cell in a named column
pub row_inside : {h : Header} {rows columns : List ℕ} → Readable h rows columns → (row : ℕ) → row < h.rows → Inside rows h.columns row
row_inside {h} {rows} n row r =
    let i = outside_inside h n.inside in
    inside rows h.columns h.capacity row i.bounds.capacity_few i.bounds.columns_few n.rows_long (omega (arith, i.rows_fit))

pub cell_in : {h : Header} {rows columns : List ℕ} → Readable h rows columns → (row place : ℕ) → row < h.rows → place < length columns
    → Inside rows h.columns row × (get_or columns place 0 < h.columns)
cell_in {columns = columns} n row place r p = (row_inside n row r, ltb-true _ _ (all_get_d _ columns n.columns_there place p 0))
