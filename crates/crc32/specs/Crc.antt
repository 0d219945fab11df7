-- CRC-32 as zlib, gzip and PNG compute it, bit by bit. A byte is a number below 256. "Added" means `bit_xor`. Assumes nothing.
use Rattle.std.specs.Prelude.{ℕ, zero, suc, ◌/◌, ◌%◌, cond, eqb}
use mathlib.Core.List.{List, [], ◌∷◌, foldl, map}
use Rattle.std.specs.Int.Bits.{bit_xor}
use Rattle.lists.specs.Lists.{flatten}

-- One bit: the register moves one bit to the right; if the bit that leaves is 1, the polynomial 0xEDB88320 is added.
unfoldable pub bit_step : ℕ → ℕ
bit_step register = cond (eqb (register % 2) 1) (bit_xor (register / 2) 3988292384) (register / 2)

-- `count` bits, one after another.
unfoldable pub bit_steps : ℕ → ℕ → ℕ
bit_steps zero register = register
bit_steps (suc count) register = bit_steps count (bit_step register)

-- One byte: it is added to the register. Eight bit steps follow.
unfoldable pub byte_step : ℕ → ℕ → ℕ
byte_step register byte = bit_steps 8 (bit_xor register byte)

-- The checksum: the register starts at 0xFFFFFFFF; after all bytes its 32 bits are inverted.
unfoldable pub crc32 : List ℕ → ℕ
crc32 bytes = bit_xor (foldl byte_step 4294967295 bytes) 4294967295

-- The four bytes of a 32-bit word, lowest first.
unfoldable pub word_bytes : ℕ → List ℕ
word_bytes word = word % 256 ∷ word / 256 % 256 ∷ word / 65536 % 256 ∷ word / 16777216 % 256 ∷ []

-- The bytes of words, one word after another.
unfoldable pub bytes_of : List ℕ → List ℕ
bytes_of words = flatten (map word_bytes words)
