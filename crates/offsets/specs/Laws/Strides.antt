-- A bound on strides (document 02, change 3). Assumes nothing.
use Rattle.std.specs.Prelude.{ℕ, ◌*◌, ◌<◌, ◌≤◌}
use Rattle.std.proofs.Common.{arith}

-- "With these lengths a stride never grows past 131,072": a stride shorter than the rest of a list, which has at most 65,536 ids,
-- doubled
pub stride_bound : (left step : ℕ) → left ≤ 65536 → step < left → step * 2 ≤ 131072
stride_bound left step h k = omega arith
