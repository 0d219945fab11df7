-- The steps of a word as the sum of its bytes' entries, and the register after one word and two. Assumes nothing.
use Rattle.crc32.proofs.Prelude.{ℕ, ◌+◌, ◌*◌, ◌/◌, ◌%◌, ◌^◌, ◌<◌, ◌≡◌, sym, ap, ◌∙◌, foldl, arith, bit_xor}
use Rattle.crc32.specs.Crc.{bit_steps, byte_step, word_bytes}
use Rattle.crc32.specs.Laws.Xor.{xor_assoc}
use Rattle.crc32.specs.Laws.Steps.{steps_xor, steps_add}
use Rattle.crc32.specs.Laws.Register.{byte_first, word_at_once}

first : (byte rest : ℕ) → byte < 256 → bit_steps 8 (rest * 256 + byte) ≡ bit_xor (bit_steps 8 byte) rest
unfolding byte_step
first byte rest h = byte_first 0 byte rest h

-- the steps of a number are those of its low byte and, eight fewer, of the rest
low_byte : (m n w : ℕ) → m ≡ 8 + n → bit_steps m w ≡ bit_xor (bit_steps m (w % 256)) (bit_steps n (w / 256))
low_byte m n w e =
    let whole : w ≡ w / 256 * 256 + w % 256 = omega arith in
    let more : (x : ℕ) → bit_steps m x ≡ bit_steps n (bit_steps 8 x) = λ x. ap (λ (k : ℕ). bit_steps k x) e ∙ steps_add 8 n x in
    more w
    ∙ ap (bit_steps n) (ap (bit_steps 8) whole ∙ first (w % 256) (w / 256) (omega arith))
    ∙ steps_xor n (bit_steps 8 (w % 256)) (w / 256)
    ∙ ap (λ (x : ℕ). bit_xor x (bit_steps n (w / 256))) (sym (more (w % 256)))

-- `four_bytes`
pub four_entries : (k w : ℕ) → w < 2 ^ 32
    → bit_xor (bit_xor (bit_xor (bit_steps ((k + 3 + 1) * 8) (w % 256)) (bit_steps ((k + 2 + 1) * 8) (w / 256 % 256)))
    (bit_steps ((k + 1 + 1) * 8) (w / 65536 % 256))) (bit_steps ((k + 1) * 8) (w / 16777216 % 256))
    ≡ bit_steps ((k + 4) * 8) w
four_entries k w h =
    let a = bit_steps ((k + 3 + 1) * 8) (w % 256) in
    let b = bit_steps ((k + 2 + 1) * 8) (w / 256 % 256) in
    let c = bit_steps ((k + 1 + 1) * 8) (w / 65536 % 256) in
    let d = bit_steps ((k + 1) * 8) (w / 16777216 % 256) in
    let n : (k + 4) * 8 ≡ (k + 3 + 1) * 8 = omega arith in
    let third : w / 256 / 256 ≡ w / 65536 = omega arith in
    let fourth : w / 65536 / 256 ≡ w / 16777216 % 256 = omega arith in
    xor_assoc (bit_xor a b) c d ∙ xor_assoc a b (bit_xor c d)
    ∙ sym
    (ap (λ (m : ℕ). bit_steps m w) n
    ∙ low_byte ((k + 3 + 1) * 8) ((k + 2 + 1) * 8) w (omega arith)
    ∙ ap (bit_xor a)
    (low_byte ((k + 2 + 1) * 8) ((k + 1 + 1) * 8) (w / 256) (omega arith)
    ∙ ap (λ (x : ℕ). bit_xor b (bit_steps ((k + 1 + 1) * 8) x)) third
    ∙ ap (bit_xor b)
    (low_byte ((k + 1 + 1) * 8) ((k + 1) * 8) (w / 65536) (omega arith)
    ∙ ap (λ (x : ℕ). bit_xor c (bit_steps ((k + 1) * 8) x)) fourth)))

-- `after_two`
pub two_words : (s a b : ℕ) → a < 2 ^ 32 → b < 2 ^ 32
    → foldl byte_step (foldl byte_step s (word_bytes a)) (word_bytes b) ≡ bit_xor (bit_steps 64 (bit_xor s a)) (bit_steps 32 b)
two_words s a b h k =
    word_at_once (foldl byte_step s (word_bytes a)) b k
    ∙ ap (λ (r : ℕ). bit_steps 32 (bit_xor r b)) (word_at_once s a h)
    ∙ steps_xor 32 (bit_steps 32 (bit_xor s a)) b
    ∙ ap (λ (x : ℕ). bit_xor x (bit_steps 32 b)) (sym (steps_add 32 32 (bit_xor s a)))
