-- The tables of slicing by 8. Assumes nothing.
use Rattle.std.specs.Prelude.{ℕ, ◌+◌, ◌*◌, ◌<◌, ◌≡◌, List, get_or}
use Rattle.crc32.specs.Crc.{bit_steps}

-- Eight tables of 256 entries, one after another: entry b of table k is b after 8 * (k + 1) steps.
pub record Tables (tables : List ℕ) : Type 0 where
  pub entry : (k b : ℕ) → k < 8 → b < 256 → get_or tables (k * 256 + b) 0 ≡ bit_steps ((k + 1) * 8) b
