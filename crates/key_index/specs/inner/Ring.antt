-- The word and the home slot for a hash, the row number in a word, and the cyclic distance between slots. Assumes nothing.
use Rattle.std.specs.Prelude.{ℕ, ◌+◌, ◌-◌, ◌*◌, ◌/◌, ◌%◌, ◌^◌, Bool, ◌&&◌, leb, ltb}
use Rattle.key_index.specs.declared.IndexShape.{IndexShape}

-- the word and the home slot for a key with this hash
unfoldable pub tagged : ℕ → ℕ → ℕ
tagged hash row = hash % 2 ^ 15 * 2 ^ 17 + (row + 1)

unfoldable pub spread : ℕ → ℕ → ℕ
spread n hash = hash * n / 2 ^ 32

-- the row number in a word, and whether it is a row of the table. In a sound store each word but 0 has one
unfoldable pub row_named : ℕ → ℕ
row_named w = w % 2 ^ 17 - 1

unfoldable pub names_row : IndexShape → ℕ → Bool
names_row t w = ltb 0 (w % 2 ^ 17) && leb (w % 2 ^ 17) t.rows

-- the cyclic distance from slot a to slot b
unfoldable pub away : ℕ → ℕ → ℕ → ℕ
away n a b = (b + (n - a)) % n
