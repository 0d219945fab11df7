-- What holds of the key hash. `hash_fits` holds of any 64-bit hash; the others are of ours, and serve the proofs of this crate alone.
-- Assumes nothing.
use Rattle.std.specs.Prelude.{ℕ, ◌*◌, ◌+◌, ◌^◌, ◌<◌, ◌≡◌, refl, List, [], ◌∷◌}
use Rattle.std.specs.List.{fold}
use Rattle.std.proofs.Common.{arith}
use Rattle.cells.specs.Cells.{compact_hash, mixed, key_hash}

pub key_hash_is : (key : List ℕ) → key_hash key ≡ fold mixed 0 key * (2 ^ 32 + 1)
unfolding key_hash
key_hash_is key = refl

mixed_fits : (hash cell : ℕ) → mixed hash cell < 2 ^ 32
unfolding mixed
mixed_fits hash cell = omega arith

mixed_all_fits : (hash : ℕ) → hash < 2 ^ 32 → (cells : List ℕ) → fold mixed hash cells < 2 ^ 32
mixed_all_fits hash h [] = h
mixed_all_fits hash h (cell ∷ cells) = mixed_all_fits (mixed hash cell) (mixed_fits hash cell) cells

-- the compact hash of a key has all 32 bits of its hash
pub compact_key_hash : (key : List ℕ) → compact_hash (key_hash key) ≡ fold mixed 0 key
unfolding key_hash
compact_key_hash key = omega (arith, mixed_all_fits 0 (omega arith) key)

pub hash_fits : (key : List ℕ) → key_hash key < 2 ^ 64
unfolding key_hash
hash_fits key = omega (arith, mixed_all_fits 0 (omega arith) key)
