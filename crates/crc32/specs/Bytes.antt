-- Terms that the laws are stated in. Assumes nothing.
use Rattle.std.specs.Prelude.{ℕ, ◌+◌, ◌*◌, ◌<◌, List, [], ◌∷◌, get_or}

-- All numbers of a list are below a bound.
abbrev pub Below : ℕ → List ℕ → Type 0
Below bound numbers = (i : ℕ) → get_or numbers i 0 < bound

-- The number that has these bytes, lowest first.
unfoldable pub number_of : List ℕ → ℕ
number_of [] = 0
number_of (byte ∷ bytes) = number_of bytes * 256 + byte
