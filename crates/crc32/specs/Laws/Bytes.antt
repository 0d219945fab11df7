-- The bytes of words. Assumes nothing.
use Rattle.std.specs.Prelude.{◌+◌, ◌*◌, ◌/◌, ◌%◌, ◌^◌, ◌<◌, ◌≡◌, ◌∷◌, ◌++◌}
use Rattle.crc32.specs.Laws.Prelude.{ℕ, zero, suc, refl, sym, ap, ap₂, ◌∙◌, List, [], append_assoc, arith, length, get_or, take, drop, length-append, take_at, drop_at}
use Rattle.lists.specs.Lists.{flatten}
use Rattle.crc32.specs.Crc.{word_bytes, bytes_of}
use Rattle.crc32.specs.Bytes.{Below, number_of}

-- One list after another is below a bound if both are.
pub below_append : (bound : ℕ) (a b : List ℕ) → Below bound a → Below bound b → Below bound (a ++ b)
below_append bound [] b h k i = k i
below_append bound (x ∷ a) b h k zero = h 0
below_append bound (x ∷ a) b h k (suc i) = below_append bound a b (λ j. h (suc j)) k i

-- Lists of bytes of the same length and the same number are equal.
pub number_injective : (x y : List ℕ) → Below 256 x → Below 256 y → length x ≡ length y → number_of x ≡ number_of y → x ≡ y
unfolding number_of
number_injective [] [] h k l e = refl
number_injective [] (b ∷ y) h k l e = absurd (omega arith)
number_injective (a ∷ x) [] h k l e = absurd (omega arith)
number_injective (a ∷ x) (b ∷ y) h k l e =
    ap₂ (λ (p : ℕ) (q : List ℕ). p ∷ q) (omega (arith, h 0, k 0))
    (number_injective x y (λ i. h (suc i)) (λ i. k (suc i)) (omega arith) (omega (arith, h 0, k 0)))

-- A word has four bytes.
pub word_bytes_length : (word : ℕ) → length (word_bytes word) ≡ 4
unfolding word_bytes
word_bytes_length word = refl

-- Each is below 256.
pub word_bytes_below : (word : ℕ) → Below 256 (word_bytes word)
unfolding word_bytes
word_bytes_below word zero = omega arith
word_bytes_below word (suc zero) = omega arith
word_bytes_below word (suc (suc zero)) = omega arith
word_bytes_below word (suc (suc (suc zero))) = omega arith
word_bytes_below word (suc (suc (suc (suc i)))) = omega arith

low_byte : (n m : ℕ) → m ≡ n / 256 → m * 256 + n % 256 ≡ n
low_byte n m e = omega arith

-- They make up the word.
pub word_bytes_number : (word : ℕ) → word < 2 ^ 32 → number_of (word_bytes word) ≡ word
unfolding word_bytes number_of
word_bytes_number word h =
    let top : 0 + word / 16777216 % 256 ≡ word / 65536 / 256 = omega arith in
    low_byte word _ (low_byte (word / 256) _ (low_byte (word / 65536) (0 + word / 16777216 % 256) top ∙ omega arith))

pub word_bytes_sum : (word : ℕ) → word < 2 ^ 32
    → word ≡ get_or (word_bytes word) 0 0 + get_or (word_bytes word) 1 0 * 2 ^ 8 + get_or (word_bytes word) 2 0 * 2 ^ 16
    + get_or (word_bytes word) 3 0 * 2 ^ 24
unfolding word_bytes
word_bytes_sum word h =
    let top : word / 16777216 % 256 ≡ word / 65536 / 256 = omega arith in
    let high = low_byte (word / 65536) (word / 16777216 % 256) top in
    let middle = low_byte (word / 256) (word / 65536) (omega arith) in
    let low = low_byte word (word / 256) refl in
    omega arith

-- All three: a word below 2 ^ 32 is four bytes, which make it up.
pub word_bytes_lem : (word : ℕ) → word < 2 ^ 32
    → (Below 256 (word_bytes word)) × (length (word_bytes word) ≡ 4) × (number_of (word_bytes word) ≡ word)
word_bytes_lem word h = (word_bytes_below word, word_bytes_length word, word_bytes_number word h)

-- Words with the same bytes are the same.
pub word_bytes_injective : (w v : ℕ) → w < 2 ^ 32 → v < 2 ^ 32 → word_bytes w ≡ word_bytes v → w ≡ v
word_bytes_injective w v h k e = sym (word_bytes_number w h) ∙ ap number_of e ∙ word_bytes_number v k

-- One word more in front.
pub bytes_of_cons : (word : ℕ) (words : List ℕ) → bytes_of (word ∷ words) ≡ word_bytes word ++ bytes_of words
unfolding bytes_of flatten
bytes_of_cons word words = refl

-- The bytes of words after words.
pub bytes_of_append : (a b : List ℕ) → bytes_of (a ++ b) ≡ bytes_of a ++ bytes_of b
unfolding bytes_of flatten
bytes_of_append [] b = refl
bytes_of_append (w ∷ a) b = ap (λ (l : List ℕ). word_bytes w ++ l) (bytes_of_append a b) ∙ sym (append_assoc (word_bytes w) (bytes_of a) (bytes_of b))

-- Each byte of words is below 256.
pub bytes_of_below : (words : List ℕ) → Below 256 (bytes_of words)
unfolding bytes_of flatten
bytes_of_below [] i = omega arith
bytes_of_below (w ∷ words) i = below_append 256 (word_bytes w) (bytes_of words) (word_bytes_below w) (bytes_of_below words) i

-- There are four for each word.
pub bytes_of_length : (words : List ℕ) → length (bytes_of words) ≡ 4 * length words
unfolding bytes_of flatten
bytes_of_length [] = refl
bytes_of_length (w ∷ words) =
    length-append (word_bytes w) (bytes_of words) ∙ ap₂ (λ (m n : ℕ). m + n) (word_bytes_length w) (bytes_of_length words)
    ∙ omega arith

-- Lists of words with the same bytes are the same.
pub bytes_of_injective : (ws vs : List ℕ) → Below (2 ^ 32) ws → Below (2 ^ 32) vs → bytes_of ws ≡ bytes_of vs → ws ≡ vs
bytes_of_injective [] [] h k e = refl
bytes_of_injective [] (v ∷ vs) h k e =
    absurd (let l : 4 * length {A = ℕ} [] ≡ 4 * length (v ∷ vs) = sym (bytes_of_length []) ∙ ap length e ∙ bytes_of_length (v ∷ vs) in omega arith)
bytes_of_injective (w ∷ ws) [] h k e =
    absurd (let l : 4 * length (w ∷ ws) ≡ 4 * length {A = ℕ} [] = sym (bytes_of_length (w ∷ ws)) ∙ ap length e ∙ bytes_of_length [] in omega arith)
bytes_of_injective (w ∷ ws) (v ∷ vs) h k e =
    let f : word_bytes w ++ bytes_of ws ≡ word_bytes v ++ bytes_of vs = sym (bytes_of_cons w ws) ∙ e ∙ bytes_of_cons v vs in
    ap₂ (λ (p : ℕ) (q : List ℕ). p ∷ q)
    (word_bytes_injective w v (h 0) (k 0)
    (sym (take_at (word_bytes w) (bytes_of ws) 4 (word_bytes_length w)) ∙ ap (take 4) f ∙ take_at (word_bytes v) (bytes_of vs) 4 (word_bytes_length v)))
    (bytes_of_injective ws vs (λ i. h (suc i)) (λ i. k (suc i))
    (sym (drop_at (word_bytes w) (bytes_of ws) 4 (word_bytes_length w)) ∙ ap (drop 4) f ∙ drop_at (word_bytes v) (bytes_of vs) 4 (word_bytes_length v)))
