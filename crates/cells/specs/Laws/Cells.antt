-- Laws of compact hashes. Assumes nothing.
use Rattle.std.specs.Prelude.{ℕ, ◌^◌, ◌<◌, ◌≡◌, List}
use Rattle.std.proofs.Common.{arith}
use Rattle.cells.specs.Cells.{compact_hash, probed, key_hash}
use Rattle.cells.specs.Cells.Hash.{hash_fits}

-- "Compacting a probe gives the same compact hash"
pub compact_probe : (hash : ℕ) → hash < 2 ^ 32 → compact_hash (probed hash) ≡ hash
compact_probe hash h = omega arith

-- the compact hash of a key is a cell
pub key_hash_fits : (key : List ℕ) → compact_hash (key_hash key) < 2 ^ 32
key_hash_fits key = omega (arith, hash_fits key)
