-- Cells, the dead mark, the compact hash and the hash of a key: document 01, "Cells" and "Compact hash". A cell is a
-- number below 2 ^ 32. Assumes nothing.
use Rattle.std.specs.Prelude.{ℕ, ◌+◌, ◌*◌, ◌/◌, ◌%◌, ◌^◌, Bool, List, eqb}
use Rattle.std.specs.List.{fold}
pub mod Hash

-- "a row whose first cell is 4294967295 is dead (`is_stale`)": the argument is that cell; `constraints` `is_live` takes the row
unfoldable pub is_dead : ℕ → Bool
is_dead first = eqb first 4294967295

-- "the low 25 bits of the 64-bit hash, with its top 7 bits above them"
abbrev pub compact_hash : ℕ → ℕ
compact_hash full = full / 2 ^ 57 * 2 ^ 25 + full % 2 ^ 25

-- "`probe` is that 32-bit number plus its top 7 bits times 2^57"
abbrev pub probed : ℕ → ℕ
probed hash = hash + hash / 2 ^ 25 * 2 ^ 57

-- Adds one cell to the hash. The hash so far, the cell and an odd constant near 2 ^ 32 divided by the golden ratio are added. The sum is
-- multiplied by a second number: the sum with its two halves exchanged. The product's upper part, one bit wider than its lower half, is
-- added to the lower half. Both factors depend on the key: such a product tends to spread keys that follow each other at equal
-- distances, which a product with a constant does not. The extra bit tends to keep multiples of a divisor of 2 ^ 32 - 1 apart.
unfoldable pub mixed : ℕ → ℕ → ℕ
mixed hash cell =
    let sum = (hash + cell + 2654435761) % 2 ^ 32 in
    let product = sum * (sum % 2 ^ 16 * 2 ^ 16 + sum / 2 ^ 16) in
    (product / 2 ^ 31 + product % 2 ^ 32) % 2 ^ 32

-- "any hash of the key cells alone will do": ours has 32 bits, repeated in both halves of the 64, so that the compact hash has all of
-- them. Only the laws in Cells/Hash.antt unfold this definition; no other proof depends on which hash it is.
pub key_hash : List ℕ → ℕ
key_hash key = fold mixed 0 key * (2 ^ 32 + 1)
