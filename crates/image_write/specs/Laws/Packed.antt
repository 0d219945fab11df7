-- Bytes packed into words: how many words there are, and each of them. Assumes nothing.
use Rattle.std.specs.Prelude.{◌+◌, ◌*◌, ◌<◌, ◌≡◌, ◌∷◌}
use Rattle.image_write.specs.Laws.Prelude.{ℕ, zero, suc, refl, sym, ◌∙◌, List, [], arith, length, get_or, List·getD-eq-default}
use Rattle.image_spec.specs.Image.{packed}

-- the four bytes from a place on, 0 behind the end, as one word
abbrev pub word_from : List ℕ → ℕ → ℕ
word_from bytes at =
    get_or bytes at 0 + 256 * get_or bytes (at + 1) 0 + 65536 * get_or bytes (at + 2) 0 + 16777216 * get_or bytes (at + 3) 0

past : (bytes : List ℕ) (at : ℕ) → length bytes < at + 1 → word_from bytes at ≡ 0
past bytes at h =
    let a : get_or bytes at 0 ≡ 0 = List·getD-eq-default bytes 0 (omega arith) in
    let b : get_or bytes (at + 1) 0 ≡ 0 = List·getD-eq-default bytes 0 (omega arith) in
    let c : get_or bytes (at + 2) 0 ≡ 0 = List·getD-eq-default bytes 0 (omega arith) in
    let d : get_or bytes (at + 3) 0 ≡ 0 = List·getD-eq-default bytes 0 (omega arith) in
    omega arith

-- the word four bytes further on
module _ (a b c d : ℕ) (bytes : List ℕ) (i : ℕ) where
  next : (k : ℕ) → get_or (a ∷ b ∷ c ∷ d ∷ bytes) (4 * suc i + k) 0 ≡ get_or bytes (4 * i + k) 0
  next k = let e : 4 * suc i + k ≡ suc (suc (suc (suc (4 * i + k)))) = omega arith in rw e

  next_first : get_or (a ∷ b ∷ c ∷ d ∷ bytes) (4 * suc i) 0 ≡ get_or bytes (4 * i) 0
  next_first = let e : 4 * suc i ≡ suc (suc (suc (suc (4 * i)))) = omega arith in rw e

  next_word : word_from (a ∷ b ∷ c ∷ d ∷ bytes) (4 * suc i) ≡ word_from bytes (4 * i)
  next_word = omega (arith, next_first, next 1, next 2, next 3)

pub get_d_packed : (bytes : List ℕ) (i : ℕ) → get_or (packed bytes) i 0 ≡ word_from bytes (4 * i)
unfolding packed
get_d_packed [] i = sym (past [] (4 * i) (omega arith))
get_d_packed (a ∷ []) zero = omega arith
get_d_packed (a ∷ []) (suc i) = sym (past (a ∷ []) (4 * suc i) (omega arith))
get_d_packed (a ∷ b ∷ []) zero = omega arith
get_d_packed (a ∷ b ∷ []) (suc i) = sym (past (a ∷ b ∷ []) (4 * suc i) (omega arith))
get_d_packed (a ∷ b ∷ c ∷ []) zero = omega arith
get_d_packed (a ∷ b ∷ c ∷ []) (suc i) = sym (past (a ∷ b ∷ c ∷ []) (4 * suc i) (omega arith))
get_d_packed (a ∷ b ∷ c ∷ d ∷ bytes) zero = refl
get_d_packed (a ∷ b ∷ c ∷ d ∷ bytes) (suc i) = get_d_packed bytes i ∙ sym (next_word a b c d bytes i)
