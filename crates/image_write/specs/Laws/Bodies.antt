-- The parts of an image, written one after another: what the output has then, and how many words that is. Assumes nothing.
use Rattle.std.specs.Prelude.{◌+◌, ◌*◌, ◌/◌, ◌≤◌, ◌<◌, ◌≡◌, ◌∷◌, ◌++◌}
use Rattle.image_write.specs.Laws.Prelude.{ℕ, refl, sym, ap, ap₂, ◌∙◌, List, [], append_assoc, arith, length, take, get_or, set, length-append, length-take-le, take-suc, add-one, splice, length_splice, part_splice, splice_then, set_splice, set_set_splice, crc32, bytes_of, Header, length_packed}
use Rattle.abi.specs.Encoding.{encode_option, encode_header}
use Rattle.image_spec.specs.Image.{packed, image_body, image_words, image_of, image_length}
use Rattle.image_write.specs.inner.Parts.{image_head, store_words, words_in_use, Holds}

-- a word behind words
pub set_behind : (l w : List ℕ) (at i a : ℕ) → i ≡ at + length w → i < length l → set (splice l at w) i a ≡ splice l at (w ++ (a ∷ []))
set_behind l w at i a e h =
    let n : length (splice l at w) ≡ length l = length_splice l w at (omega arith) in
    set_splice (splice l at w) i a (omega arith)
    ∙ ap (λ (k : ℕ). splice (splice l at w) k (a ∷ [])) e
    ∙ splice_then l w (a ∷ []) at (omega arith)

-- one more of the words that are written from a place on
pub write_step : (l w : List ℕ) (at i : ℕ) → i < length w → at + length w ≤ length l
    → set (splice l at (take i w)) (at + i) (get_or w i 0) ≡ splice l at (take (i + 1) w)
write_step l w at i h k =
    let n : length (take i w) ≡ i = length-take-le i w (omega arith) in
    set_behind l (take i w) at (at + i) (get_or w i 0) (omega arith) (omega arith)
    ∙ ap (splice l at) (sym (take-suc w i 0 h) ∙ ap (λ (j : ℕ). take j w) (sym (add-one i)))

-- three lists written one behind another
pub put_three : {l₁ l₂ l₃ : List ℕ} (l a b c : List ℕ) (at n m : ℕ) → length a ≡ n → length b ≡ m → at + n + m + length c ≤ length l
    → l₁ ≡ splice l at a → l₂ ≡ splice l₁ (at + n) b → l₃ ≡ splice l₂ (at + n + m) c → l₃ ≡ splice l at (a ++ (b ++ c))
put_three l a b c at n m e f h p q r =
    let ab : length (a ++ b) ≡ n + m = length-append a b ∙ ap₂ (λ (i j : ℕ). i + j) e f in
    let g : at + n + m ≡ at + length (a ++ b) = omega arith in
    r
    ∙ ap (λ (x : List ℕ). splice x (at + n + m) c) (q ∙ ap₂ (λ (x : List ℕ) (k : ℕ). splice x (at + k) b) p (sym e) ∙ splice_then l a b at (omega arith))
    ∙ ap (λ (k : ℕ). splice (splice l at (a ++ b)) k c) g
    ∙ splice_then l (a ++ b) c at (omega arith)
    ∙ ap (splice l at) (append_assoc a b c)

pub length_head : (h : Header) (text : ℕ) → length (image_head h text) ≡ 15
unfolding image_head encode_header encode_option
length_head h text = refl

pub length_header : (h : Header) → length (encode_header h) ≡ 12
unfolding encode_header encode_option
length_header h = refl

-- the words before the text
pub head_written : (l : List ℕ) (h : Header) (text : ℕ) → 15 ≤ length l
    → set (splice (set (set l 0 1112819533) 1 1) 2 (encode_header h)) 14 text ≡ splice l 0 (image_head h text)
unfolding image_head encode_header encode_option
head_written l h text k =
    ap (λ (x : List ℕ). set (splice x 2 (encode_header h)) 14 text) (set_set_splice l 0 1112819533 1 (omega arith))
    ∙ ap (λ (x : List ℕ). set x 14 text) (splice_then l (1112819533 ∷ 1 ∷ []) (encode_header h) 0 (omega arith))
    ∙ set_behind l (1112819533 ∷ 1 ∷ encode_header h) 0 14 text refl (omega arith)

module _ (h : Header) (rows sorts pending : List ℕ) (holds : Holds h rows sorts pending) where
  pub length_cells : length (take (h.rows * h.columns) rows) ≡ h.rows * h.columns
  length_cells = length-take-le _ rows holds.rows_held

  pub length_pairs : length (take (2 * h.entries) sorts) ≡ 2 * h.entries
  length_pairs = length-take-le _ sorts holds.sorts_held

  pub length_records : length (take h.pending pending) ≡ h.pending
  length_records = length-take-le _ pending holds.pending_held

  pub length_stores : length (store_words h rows sorts pending) ≡ words_in_use h
  unfolding store_words
  length_stores = simp length-append (omega (arith, length_cells, length_pairs, length_records))

  pub stores_written : {l₁ l₂ l₃ : List ℕ} (l : List ℕ) (at : ℕ) → at + words_in_use h ≤ length l
      → l₁ ≡ splice l at (take (h.rows * h.columns) rows)
      → l₂ ≡ splice l₁ (at + h.rows * h.columns) (take (2 * h.entries) sorts)
      → l₃ ≡ splice l₂ (at + h.rows * h.columns + 2 * h.entries) (take h.pending pending)
      → l₃ ≡ splice l at (store_words h rows sorts pending)
  unfolding store_words
  stores_written l at k =
      put_three l _ _ _ at (h.rows * h.columns) (2 * h.entries) length_cells length_pairs (omega (arith, length_records))

  module _ (text : List ℕ) where
    body_parts : image_body (image_of h rows sorts pending text) ≡ image_head h (length text) ++ (packed text ++ store_words h rows sorts pending)
    unfolding image_body image_head encode_header encode_option store_words
    body_parts = refl

    pub length_body : length (image_body (image_of h rows sorts pending text)) ≡ 15 + (length text + 3) / 4 + words_in_use h
    length_body =
        ap length body_parts
        ∙ simp length-append (omega (arith, length_head h (length text), length_packed text, length_stores))

    pub length_image : length (image_words (image_of h rows sorts pending text)) ≡ image_length h (length text)
    unfolding image_words image_length
    length_image = length-append (image_body (image_of h rows sorts pending text)) _ ∙ omega (arith, length_body)

    pub body_written : {l₁ l₂ l₃ : List ℕ} (l : List ℕ) (words : ℕ) → words ≡ (length text + 3) / 4 → 15 + (length text + 3) / 4 + words_in_use h ≤ length l
        → l₁ ≡ splice l 0 (image_head h (length text))
        → l₂ ≡ splice l₁ 15 (packed text)
        → l₃ ≡ splice l₂ (15 + words) (store_words h rows sorts pending)
        → l₃ ≡ splice l 0 (image_body (image_of h rows sorts pending text))
    body_written l words e k p q r =
        put_three l _ _ _ 0 15 words (length_head h (length text)) (length_packed text ∙ sym e) (omega (arith, length_stores)) p q r
        ∙ ap (splice l 0) (sym body_parts)

    -- all words: the checksum of the body behind it
    pub image_written : {l₁ l₂ : List ℕ} (l : List ℕ) (n : ℕ) → n + 1 ≡ image_length h (length text) → image_length h (length text) ≤ length l
        → l₁ ≡ splice l 0 (image_body (image_of h rows sorts pending text))
        → l₂ ≡ set l₁ n (crc32 (bytes_of (take n l₁)))
        → l₂ ≡ splice l 0 (image_words (image_of h rows sorts pending text))
    unfolding image_words image_length
    image_written l n e k p q =
        let body = image_body (image_of h rows sorts pending text) in
        let m : n ≡ length body = omega (arith, length_body) in
        q
        ∙ ap (λ (x : List ℕ). set x n (crc32 (bytes_of (take n x)))) p
        ∙ set_behind l body 0 n _ (omega (arith, length_body)) (omega arith)
        ∙ ap (λ (x : List ℕ). splice l 0 (body ++ (crc32 (bytes_of x) ∷ [])))
        (ap (λ (j : ℕ). take j (splice l 0 body)) m ∙ part_splice l body 0 (omega (arith, length_body)))
