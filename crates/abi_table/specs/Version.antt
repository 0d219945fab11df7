-- The version of the C interface. Assumes nothing.
use Rattle.std.specs.Prelude.{ℕ}

-- major * 1000000 + minor * 1000 + patch: 0.1.0
abbrev pub library_version : ℕ
library_version = 1000
