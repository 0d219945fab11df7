-- The two directions: how many cells each writes, and which cell is at a place. Assumes nothing.
use Rattle.std.specs.Prelude.{◌%◌, ◌/◌, ◌*◌, ◌+◌, ◌<◌, ◌≡◌}
use Rattle.std.proofs.Common.{mul-zero, div-lt_iff_lt-mul, mod-lt}
use Rattle.vault.specs.Laws.Prelude.{ℕ, zero, suc, sym, arith, div-add-mod', mul_comm}
use Rattle.vault.specs.Columns.{to_columns, from_columns}
use Rattle.vault.specs.inner.Filling.{by_columns, by_rows, DirectionLaws}
use Rattle.vault.specs.Laws.Inverse.{to_columns_length, from_columns_length}

-- a place among n lists of m cells: which list, and where in it
located : (n m at : ℕ) → at < n * m → (at / m < n) × (at % m < m) × (at ≡ at / m * m + at % m)
located n zero at h = absurd (omega (arith, mul-zero n))
located n (suc m) at h =
    let k : 0 < suc m = omega arith in ((div-lt_iff_lt-mul {k = suc m} {x = at} {y = n} k).1 h, mod-lt at k, sym (div-add-mod' at (suc m)))

pub to_columns_laws : DirectionLaws to_columns by_columns
to_columns_laws = record {
  long = λ width cells some whole. to_columns_length width cells some whole;
  where_is = λ width rows at h. let w = located width rows at (omega (arith, mul_comm width rows)) in (at % rows, at / rows, w.1, w.0, w.2);
}

pub from_columns_laws : DirectionLaws from_columns by_rows
from_columns_laws = record {
  long = λ width cells some whole. from_columns_length width cells some whole;
  where_is = λ width rows at h. let w = located rows width at h in (at / width, at % width, w.0, w.1, w.2);
}
