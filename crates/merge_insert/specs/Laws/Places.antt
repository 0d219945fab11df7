-- Places in the row store. Assumes nothing.
use Rattle.std.specs.Prelude.{◌+◌, ◌*◌, ◌≤◌, ◌<◌}
use Rattle.merge_insert.specs.Laws.Prelude.{ℕ, List, mul-le-mul, arith, length, row_in, Fits, Header, full_index_shape_of}

-- a row's place is a number that fits, and its cells are within the store
pub record Placed (h : Header) (rows : List ℕ) (i : ℕ) : Type 0 where
  pub few : i ≤ 65536
  pub small : i * h.columns ≤ 524288
  pub inside : i * h.columns + h.columns ≤ length rows

pub placed : (h : Header) (rows keys : List ℕ) → Fits (full_index_shape_of h) rows keys → (i : ℕ) → i < h.capacity → Placed h rows i
placed h rows keys f i k =
    let few : i ≤ 65536 = omega (arith, f.most) in
    record {
      few = few;
      small = mul-le-mul few f.most_columns;
      inside = omega (arith, row_in i h.capacity h.columns k, f.cells);
    }
