-- The register over words: the turns of `after_words`. Assumes nothing.
use Rattle.crc32.proofs.Prelude.{ℕ, zero, suc, ◌+◌, ◌*◌, ◌≤◌, ◌<◌, ◌≡◌, refl, ap, ◌∙◌, List, [], foldl, foldl-append, arith, length, drop, get_or, drop_of_length-le}
use Rattle.std.specs.Prelude.{take}
use Rattle.std.proofs.Common.{add-zero}
use Rattle.std.specs.Simd.{first_chunks}
use Rattle.std.proofs.lemmas.List.{drop-drop, get_or-take, get_or-drop}
use native.Mathlib.Numerals.{add-one}
use lib.Seq.{drop-cons}
use Rattle.lists.specs.Lists.{flatten}
use Rattle.crc32.specs.Crc.{byte_step, word_bytes, bytes_of}

-- one word more
pub word_next : (words : List ℕ) (i s : ℕ) → i < length words
    → foldl byte_step s (bytes_of (drop i words))
    ≡ foldl byte_step (foldl byte_step s (word_bytes (get_or words i 0))) (bytes_of (drop (i + 1) words))
unfolding bytes_of flatten
word_next words i s h = rw (add-one, drop-cons words i 0 h) (foldl-append byte_step s (word_bytes (get_or words i 0)) _)

-- the i-th of the pairs
pair_at : (count i : ℕ) (words : List ℕ) → i < count → get_or (first_chunks 2 count words) i [] ≡ take 2 (drop (i * 2) words)
pair_at zero i words h = absurd (omega arith)
pair_at (suc count) zero words h = refl
pair_at (suc count) (suc i) words h =
    let e : 2 + i * 2 ≡ suc i * 2 = omega arith in
    pair_at count i (drop 2 words) (omega arith) ∙ ap (take 2) (drop-drop (i * 2) 2 words ∙ ap (λ (k : ℕ). drop k words) e)

-- one pair more
pub pair_next : (words : List ℕ) (pairs : List (List ℕ)) (count i s : ℕ) → pairs ≡ first_chunks 2 count words → i < count → count * 2 ≤ length words
    → foldl byte_step s (bytes_of (drop (i * 2) words))
    ≡ foldl byte_step (foldl byte_step (foldl byte_step s (word_bytes (get_or (get_or pairs i []) 0 0))) (word_bytes (get_or (get_or pairs i []) 1 0))) (bytes_of (drop ((i + 1) * 2) words))
pair_next words pairs count i s e h room =
    let pair = get_or pairs i [] in
    let is : pair ≡ take 2 (drop (i * 2) words) = ap (λ (l : List (List ℕ)). get_or l i []) e ∙ pair_at count i words h in
    let first : get_or pair 0 0 ≡ get_or words (i * 2) 0 = ap (λ (l : List ℕ). get_or l 0 0) is ∙ get_or-take 2 (drop (i * 2) words) 0 0 (omega arith) ∙ get_or-drop (i * 2) words 0 0 ∙ ap (λ (k : ℕ). get_or words k 0) (add-zero (i * 2)) in
    let second : get_or pair 1 0 ≡ get_or words (i * 2 + 1) 0 = ap (λ (l : List ℕ). get_or l 1 0) is ∙ get_or-take 2 (drop (i * 2) words) 1 0 (omega arith) ∙ get_or-drop (i * 2) words 1 0 in
    let n : i * 2 + 1 + 1 ≡ (i + 1) * 2 = omega arith in
    rw (first, second)
    (word_next words (i * 2) s (omega arith)
    ∙ word_next words (i * 2 + 1) (foldl byte_step s (word_bytes (get_or words (i * 2) 0))) (omega arith)
    ∙ ap (λ (k : ℕ). foldl byte_step (foldl byte_step (foldl byte_step s (word_bytes (get_or words (i * 2) 0))) (word_bytes (get_or words (i * 2 + 1) 0))) (bytes_of (drop k words))) n)

-- no word left
pub none_left : (words : List ℕ) (i s : ℕ) → length words ≤ i → foldl byte_step s (bytes_of (drop i words)) ≡ s
unfolding bytes_of flatten
none_left words i s h = rw (drop_of_length-le words h)
