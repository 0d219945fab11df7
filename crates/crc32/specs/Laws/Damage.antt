-- What a checksum shows of damaged bytes. Assumes nothing.
use Rattle.std.specs.Prelude.{◌*◌, ◌^◌, ◌<◌, ◌≡◌, ◌∷◌, ◌++◌}
use Rattle.crc32.specs.Laws.Prelude.{ℕ, suc, refl, sym, ap, ◌∙◌, List, [], foldl, foldl-append, arith, bit_xor, xor_lt, length}
use Rattle.crc32.specs.Crc.{bit_step, bit_steps, byte_step, crc32, word_bytes}
use Rattle.crc32.specs.Bytes.{Below, number_of}
use Rattle.crc32.specs.Laws.Xor.{xor_cancel, xor_cancel_right, xor_twice}
use Rattle.crc32.specs.Laws.Steps.{steps_injective}
use Rattle.crc32.specs.Laws.Bytes.{number_injective}
use Rattle.crc32.specs.Laws.Register.{register, bytes_at_once, word_at_once, byte_step_fits, bytes_fit, register_word, crc_word}

-- Registers that differ stay different under the same byte.
pub byte_step_injective : (s t b : ℕ) → s < 2 ^ 32 → t < 2 ^ 32 → b < 256 → byte_step s b ≡ byte_step t b → s ≡ t
unfolding byte_step
byte_step_injective s t b h k l e =
    xor_cancel_right b s t
    (steps_injective 8 (bit_xor s b) (bit_xor t b) (xor_lt 32 s b h (omega arith)) (xor_lt 32 t b k (omega arith)) e)

-- They stay different under the same bytes.
pub bytes_injective : (bytes : List ℕ) → Below 256 bytes → (s t : ℕ) → s < 2 ^ 32 → t < 2 ^ 32
    → foldl byte_step s bytes ≡ foldl byte_step t bytes → s ≡ t
bytes_injective [] l s t h k e = e
bytes_injective (b ∷ bytes) l s t h k e =
    byte_step_injective s t b h k (l 0)
    (bytes_injective bytes (λ i. l (suc i)) (byte_step s b) (byte_step t b) (byte_step_fits s b h (l 0)) (byte_step_fits t b k (l 0)) e)

-- Four bytes are below 2 ^ 32 as a number.
four_fit : (x : List ℕ) → Below 256 x → length x ≡ 4 → number_of x < 2 ^ 32
unfolding number_of
four_fit [] h e = absurd (omega arith)
four_fit (a ∷ []) h e = absurd (omega arith)
four_fit (a ∷ b ∷ []) h e = absurd (omega arith)
four_fit (a ∷ b ∷ c ∷ []) h e = absurd (omega arith)
four_fit (a ∷ b ∷ c ∷ d ∷ []) h e = omega (arith, h 0, h 1, h 2, h 3)
four_fit (a ∷ b ∷ c ∷ d ∷ f ∷ x) h e = absurd (omega arith)

-- Four bytes that differ lead to registers that differ.
pub four_bytes_injective : (s : ℕ) → s < 2 ^ 32 → (x y : List ℕ) → Below 256 x → Below 256 y → length x ≡ 4 → length y ≡ 4
    → foldl byte_step s x ≡ foldl byte_step s y → x ≡ y
four_bytes_injective s g x y h k l m e =
    let p : foldl byte_step s x ≡ bit_steps 32 (bit_xor s (number_of x)) =
    bytes_at_once x h s ∙ ap (λ (n : ℕ). bit_steps (n * 8) (bit_xor s (number_of x))) l in
    let q : foldl byte_step s y ≡ bit_steps 32 (bit_xor s (number_of y)) =
    bytes_at_once y k s ∙ ap (λ (n : ℕ). bit_steps (n * 8) (bit_xor s (number_of y))) m in
    number_injective x y h k (l ∙ sym m)
    (xor_cancel s (number_of x) (number_of y)
    (steps_injective 32 (bit_xor s (number_of x)) (bit_xor s (number_of y))
    (xor_lt 32 s (number_of x) g (four_fit x h l)) (xor_lt 32 s (number_of y) g (four_fit y k m)) (sym p ∙ e ∙ q)))

-- Damage within four bytes in a row shows in the register, if the bytes before and after are unchanged.
pub damage_shows : (a x y z : List ℕ) → Below 256 a → Below 256 x → Below 256 y → Below 256 z → length x ≡ 4 → length y ≡ 4
    → register (a ++ x ++ z) ≡ register (a ++ y ++ z) → x ≡ y
damage_shows a x y z f h k g l m e =
    let s = foldl byte_step 4294967295 a in
    let b : s < 2 ^ 32 = bytes_fit a f 4294967295 (omega arith) in
    four_bytes_injective s b x y h k l m
    (bytes_injective z g (foldl byte_step s x) (foldl byte_step s y) (bytes_fit x h s b) (bytes_fit y k s b)
    (sym (parts x) ∙ e ∙ parts y))
  where
    parts : (u : List ℕ) → foldl byte_step 4294967295 (a ++ u ++ z) ≡ foldl byte_step (foldl byte_step (foldl byte_step 4294967295 a) u) z
    parts u =
        foldl-append byte_step 4294967295 (a ++ u) z
        ∙ ap (λ (r : ℕ). foldl byte_step r z) (foldl-append byte_step 4294967295 a u)

-- It shows in the checksum.
pub damage_shows_crc : (a x y z : List ℕ) → Below 256 a → Below 256 x → Below 256 y → Below 256 z → length x ≡ 4 → length y ≡ 4
    → crc32 (a ++ x ++ z) ≡ crc32 (a ++ y ++ z) → x ≡ y
unfolding crc32
damage_shows_crc a x y z f h k g l m e =
    damage_shows a x y z f h k g l m (xor_cancel_right 4294967295 (register (a ++ x ++ z)) (register (a ++ y ++ z)) e)

-- The register after a body and a word, by the register after the body.
body_word : (body : List ℕ) (c : ℕ) → c < 2 ^ 32 → register (body ++ word_bytes c) ≡ bit_steps 32 (bit_xor (register body) c)
body_word body c h =
    foldl-append byte_step 4294967295 body (word_bytes c) ∙ word_at_once (foldl byte_step 4294967295 body) c h

with_crc : (body : List ℕ) → bit_xor (register body) (crc32 body) ≡ 4294967295
unfolding crc32
with_crc body = xor_twice (register body) 4294967295

all_ones : bit_steps 32 4294967295 ≡ 3736805603
unfolding bit_steps bit_step
all_ones = refl

-- A body followed by its checksum leaves 0xDEBB20E3 in the register.
pub residue_of_crc : (body : List ℕ) → Below 256 body → register (body ++ word_bytes (crc32 body)) ≡ 3736805603
residue_of_crc body h =
    body_word body (crc32 body) (crc_word body h)
    ∙ ap (bit_steps 32) (with_crc body)
    ∙ all_ones

-- No other word leaves it.
pub crc_of_residue : (body : List ℕ) (c : ℕ) → Below 256 body → c < 2 ^ 32 → register (body ++ word_bytes c) ≡ 3736805603 → c ≡ crc32 body
crc_of_residue body c h k e =
    xor_cancel (register body) c (crc32 body)
    (steps_injective 32 (bit_xor (register body) c) (bit_xor (register body) (crc32 body))
    (xor_lt 32 (register body) c (register_word body h) k)
    (xor_lt 32 (register body) (crc32 body) (register_word body h) (crc_word body h))
    (sym (body_word body c k) ∙ e ∙ sym (residue_of_crc body h) ∙ body_word body (crc32 body) (crc_word body h)))

-- Both in one law: the register is 0xDEBB20E3 exactly if the word is the checksum.
pub residue : (body : List ℕ) (c : ℕ) → Below 256 body → c < 2 ^ 32
    → (register (body ++ word_bytes c) ≡ 3736805603 → c ≡ crc32 body) × (c ≡ crc32 body → register (body ++ word_bytes c) ≡ 3736805603)
residue body c h k =
    (crc_of_residue body c h k, λ e. ap (λ (x : ℕ). register (body ++ word_bytes x)) e ∙ residue_of_crc body h)
