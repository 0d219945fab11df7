-- The bounds of an opening's numbers other than the capacity. Assumes nothing.
use Rattle.std.specs.Prelude.{ℕ, Bool}
use Rattle.plain_table.specs.Staged.{openable}

abbrev pub bounds_kept : ℕ → ℕ → ℕ → ℕ → Bool
bounds_kept columns keys sort rule = openable (record { columns = columns; keys = keys; sort = sort; rule = rule; capacity = 1 })
