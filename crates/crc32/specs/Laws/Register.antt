-- The register over bytes: bytes in one number, added at once. Assumes nothing.
use Rattle.std.specs.Prelude.{◌+◌, ◌*◌, ◌^◌, ◌<◌, ◌≡◌, ◌∷◌}
use Rattle.crc32.specs.Laws.Prelude.{ℕ, suc, refl, sym, ap, ap₂, ◌∙◌, List, [], foldl, suc-mul, add_comm, arith, bit_xor, xor_shifted, xor_zero_r, xor_comm, xor_lt, length}
use Rattle.crc32.specs.Crc.{bit_step, bit_steps, byte_step, crc32, word_bytes}
use Rattle.crc32.specs.Bytes.{Below, number_of}
use Rattle.crc32.specs.Laws.Xor.{xor_assoc}
use Rattle.crc32.specs.Laws.Steps.{steps_xor, steps_add, steps_shifted, steps_fit}
use Rattle.crc32.specs.Laws.Bytes.{word_bytes_length, word_bytes_below, word_bytes_number}

-- The register after bytes, from its start on.
abbrev pub register : List ℕ → ℕ
register bytes = foldl byte_step 4294967295 bytes

-- Eight steps more.
pub eight_more : (n r : ℕ) → bit_steps (suc n * 8) r ≡ bit_steps (n * 8) (bit_steps 8 r)
eight_more n r = ap (λ (k : ℕ). bit_steps k r) (suc-mul n 8 ∙ add_comm (n * 8) 8) ∙ steps_add 8 (n * 8) r

-- Eight steps of the register and a number: the number's low byte is added, and its other bytes move down by one.
pub byte_first : (s byte rest : ℕ) → byte < 256 → bit_steps 8 (bit_xor s (rest * 256 + byte)) ≡ bit_xor (byte_step s byte) rest
unfolding byte_step
byte_first s byte rest h =
    ap (λ (x : ℕ). bit_steps 8 (bit_xor s x)) (sym (xor_shifted rest 8 byte h) ∙ xor_comm (rest * 256) byte)
    ∙ ap (bit_steps 8) (sym (xor_assoc s byte (rest * 256)))
    ∙ steps_xor 8 (bit_xor s byte) (rest * 256)
    ∙ ap (bit_xor (bit_steps 8 (bit_xor s byte))) (steps_shifted 8 rest)

-- The register after bytes is that after their number, added at once.
pub bytes_at_once : (bytes : List ℕ) → Below 256 bytes → (s : ℕ)
    → foldl byte_step s bytes ≡ bit_steps (length bytes * 8) (bit_xor s (number_of bytes))
unfolding number_of
bytes_at_once [] h s = unfold bit_steps in sym (xor_zero_r s)
bytes_at_once (b ∷ bytes) h s =
    bytes_at_once bytes (λ i. h (suc i)) (byte_step s b)
    ∙ ap (bit_steps (length bytes * 8)) (sym (byte_first s b (number_of bytes) (h 0)))
    ∙ sym (eight_more (length bytes) (bit_xor s (number_of bytes * 256 + b)))

-- The register after a word.
pub word_at_once : (s w : ℕ) → w < 2 ^ 32 → foldl byte_step s (word_bytes w) ≡ bit_steps 32 (bit_xor s w)
word_at_once s w h =
    bytes_at_once (word_bytes w) (word_bytes_below w) s
    ∙ ap₂ (λ (n x : ℕ). bit_steps (n * 8) (bit_xor s x)) (word_bytes_length w) (word_bytes_number w h)

-- The register keeps 32 bits.
pub byte_step_fits : (s b : ℕ) → s < 2 ^ 32 → b < 256 → byte_step s b < 2 ^ 32
unfolding byte_step
byte_step_fits s b h k = steps_fit 8 (bit_xor s b) (xor_lt 32 s b h (omega arith))

pub bytes_fit : (bytes : List ℕ) → Below 256 bytes → (s : ℕ) → s < 2 ^ 32 → foldl byte_step s bytes < 2 ^ 32
bytes_fit [] h s k = k
bytes_fit (b ∷ bytes) h s k = bytes_fit bytes (λ i. h (suc i)) (byte_step s b) (byte_step_fits s b k (h 0))

pub register_word : (bytes : List ℕ) → Below 256 bytes → register bytes < 2 ^ 32
register_word bytes h = bytes_fit bytes h 4294967295 (omega arith)

-- The checksum is a word.
pub crc_word : (bytes : List ℕ) → Below 256 bytes → crc32 bytes < 2 ^ 32
unfolding crc32
crc_word bytes h = xor_lt 32 (register bytes) 4294967295 (register_word bytes h) (omega arith)

-- The check value of the published algorithm: the bytes of "123456789" have the checksum 0xCBF43926.
pub check_value : crc32 (49 ∷ 50 ∷ 51 ∷ 52 ∷ 53 ∷ 54 ∷ 55 ∷ 56 ∷ 57 ∷ []) ≡ 3421780262
unfolding crc32 byte_step bit_steps bit_step
check_value = refl
