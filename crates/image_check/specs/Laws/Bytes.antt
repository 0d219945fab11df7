-- The bytes of words and words of bytes: each is read back from the other. Assumes nothing.
use Rattle.std.specs.Prelude.{◌+◌, ◌*◌, ◌/◌, ◌%◌, ◌≤◌, ◌<◌, ◌≡◌, ◌∷◌, ◌++◌}
use Rattle.image_check.specs.Laws.Prelude.{ℕ, zero, suc, refl, sym, ap, ◌∙◌, Bool, true, List, [], append-nil, arith, ltb, length, take, drop, get_or, take-suc, drop-cons, get_or_at, length-take-le, ltb-true, lt-ltb, ltb-false, all_head, all_tail, Decides, Words, Filled}
use Rattle.lists.specs.Lists.{all, flatten}
use Rattle.crc32.specs.Crc.{bytes_of, word_bytes}
use Rattle.image_spec.specs.Image.{packed}

-- ---- the bytes of words

pub bytes_nil : bytes_of [] ≡ []
unfolding bytes_of flatten
bytes_nil = refl

pub bytes_cons : (w : ℕ) (ws : List ℕ) → bytes_of (w ∷ ws) ≡ w % 256 ∷ w / 256 % 256 ∷ w / 65536 % 256 ∷ w / 16777216 % 256 ∷ bytes_of ws
unfolding bytes_of flatten word_bytes
bytes_cons w ws = refl

pub length_bytes : (ws : List ℕ) → length (bytes_of ws) ≡ 4 * length ws
length_bytes [] = rw bytes_nil
length_bytes (w ∷ ws) = rw bytes_cons (omega (arith, length_bytes ws))

pub bytes_append : (xs ys : List ℕ) → bytes_of (xs ++ ys) ≡ bytes_of xs ++ bytes_of ys
bytes_append [] ys = rw bytes_nil
bytes_append (x ∷ xs) ys = rw (bytes_cons x (xs ++ ys), bytes_cons x xs, bytes_append xs ys)

-- a byte is one of its word's
pub byte_of : (q r : ℕ) (ws : List ℕ) → get_or (bytes_of ws) (4 * q + r) 0 ≡ get_or (bytes_of (drop q ws)) r 0
byte_of zero r ws = let e : 4 * 0 + r ≡ r = omega arith in rw e
byte_of (suc q) r [] = rw bytes_nil
byte_of (suc q) r (w ∷ ws) =
    let e : 4 * suc q + r ≡ suc (suc (suc (suc (4 * q + r)))) = omega arith in
    rw (e, bytes_cons) (byte_of q r ws)

abbrev pub is_byte : ℕ → Bool
is_byte byte = ltb byte 256

pub bytes_small : (ws : List ℕ) → all is_byte (bytes_of ws) ≡ true
unfolding all
bytes_small [] = rw bytes_nil
bytes_small (w ∷ ws) =
    rw (bytes_cons, lt-ltb (w % 256) 256 (omega arith), lt-ltb (w / 256 % 256) 256 (omega arith), lt-ltb (w / 65536 % 256) 256 (omega arith), lt-ltb (w / 16777216 % 256) 256 (omega arith))
    (bytes_small ws)

-- ---- the words of bytes

module _ (a b c d : ℕ) (ka : a < 256) (kb : b < 256) (kc : c < 256) (kd : d < 256) where
  byte_0 : (a + 256 * b + 65536 * c + 16777216 * d) % 256 ≡ a
  byte_0 = omega arith

  byte_1 : (a + 256 * b + 65536 * c + 16777216 * d) / 256 % 256 ≡ b
  byte_1 = omega arith

  byte_2 : (a + 256 * b + 65536 * c + 16777216 * d) / 65536 % 256 ≡ c
  byte_2 = omega arith

  byte_3 : (a + 256 * b + 65536 * c + 16777216 * d) / 16777216 % 256 ≡ d
  byte_3 = omega arith

none : 0 < 256
none = omega arith

-- bytes are read back from their words
pub packed_bytes : (text : List ℕ) → all is_byte text ≡ true → take (length text) (bytes_of (packed text)) ≡ text
unfolding packed all
packed_bytes [] e = refl
packed_bytes (a ∷ []) e =
    let ka = ltb-true a 256 (all_head is_byte a [] e) in
    let n : a ≡ a + 256 * 0 + 65536 * 0 + 16777216 * 0 = omega arith in
    rw (bytes_cons, ap (λ (w : ℕ). w % 256) n ∙ byte_0 a 0 0 0 ka none none none)
packed_bytes (a ∷ b ∷ []) e =
    let ka = ltb-true a 256 (all_head is_byte a (b ∷ []) e) in
    let f = all_tail is_byte a (b ∷ []) e in
    let kb = ltb-true b 256 (all_head is_byte b [] f) in
    let n : a + 256 * b ≡ a + 256 * b + 65536 * 0 + 16777216 * 0 = omega arith in
    rw (bytes_cons, n, byte_0 a b 0 0 ka kb none none, byte_1 a b 0 0 ka kb none none)
packed_bytes (a ∷ b ∷ c ∷ []) e =
    let ka = ltb-true a 256 (all_head is_byte a (b ∷ c ∷ []) e) in
    let f = all_tail is_byte a (b ∷ c ∷ []) e in
    let kb = ltb-true b 256 (all_head is_byte b (c ∷ []) f) in
    let g = all_tail is_byte b (c ∷ []) f in
    let kc = ltb-true c 256 (all_head is_byte c [] g) in
    let n : a + 256 * b + 65536 * c ≡ a + 256 * b + 65536 * c + 16777216 * 0 = omega arith in
    rw (bytes_cons, n, byte_0 a b c 0 ka kb kc none, byte_1 a b c 0 ka kb kc none, byte_2 a b c 0 ka kb kc none)
packed_bytes (a ∷ b ∷ c ∷ d ∷ bytes) e =
    let ka = ltb-true a 256 (all_head is_byte a (b ∷ c ∷ d ∷ bytes) e) in
    let f = all_tail is_byte a (b ∷ c ∷ d ∷ bytes) e in
    let kb = ltb-true b 256 (all_head is_byte b (c ∷ d ∷ bytes) f) in
    let g = all_tail is_byte b (c ∷ d ∷ bytes) f in
    let kc = ltb-true c 256 (all_head is_byte c (d ∷ bytes) g) in
    let h = all_tail is_byte c (d ∷ bytes) g in
    let kd = ltb-true d 256 (all_head is_byte d bytes h) in
    rw (bytes_cons, byte_0 a b c d ka kb kc kd, byte_1 a b c d ka kb kc kd, byte_2 a b c d ka kb kc kd, byte_3 a b c d ka kb kc kd, packed_bytes bytes (all_tail is_byte d bytes h))

-- a word is read back from its bytes
by_256 : (w : ℕ) → w % 256 + 256 * (w / 256) ≡ w
by_256 w = omega arith

next_byte : (w : ℕ) → w / 256 / 256 ≡ w / 65536
next_byte w = omega arith

last_byte : (w : ℕ) → w / 65536 / 256 ≡ w / 16777216
last_byte w = omega arith

word_back : (w : ℕ) → w < 4294967296 → w % 256 + 256 * (w / 256 % 256) + 65536 * (w / 65536 % 256) + 16777216 * (w / 16777216 % 256) ≡ w
word_back w k =
    let a = by_256 w in
    let b : w / 256 % 256 + 256 * (w / 65536) ≡ w / 256 = rw (← next_byte w) (by_256 (w / 256)) in
    let c : w / 65536 % 256 + 256 * (w / 16777216) ≡ w / 65536 = rw (← last_byte w) (by_256 (w / 65536)) in
    let d : w / 16777216 < 256 = omega arith in
    let e : w / 16777216 % 256 ≡ w / 16777216 = omega arith in
    rw e (sum (w % 256) (w / 256) (w / 65536) (w / 16777216) (w / 256 % 256) (w / 65536 % 256) w a b c)
  where
    sum : (a p q r b c w : ℕ) → a + 256 * p ≡ w → b + 256 * q ≡ p → c + 256 * r ≡ q → a + 256 * b + 65536 * c + 16777216 * r ≡ w
    sum a p q r b c w x y z = omega arith

-- words are read back from their bytes, four at a time
pub packed_words : (q r : ℕ) (ws : List ℕ) → Words ws → q ≤ length ws → packed (take (4 * q + r) (bytes_of ws)) ≡ take q ws ++ packed (take r (bytes_of (drop q ws)))
unfolding packed
packed_words zero r ws small k = let e : 4 * 0 + r ≡ r = omega arith in rw e
packed_words (suc q) r [] small k = absurd (omega arith)
packed_words (suc q) r (w ∷ ws) small k =
    let e : 4 * suc q + r ≡ suc (suc (suc (suc (4 * q + r)))) = omega arith in
    rw (e, bytes_cons, word_back w (small 0), packed_words q r ws (λ i. small (suc i)) (omega arith))

-- ---- a text's words

module _ (ws : List ℕ) (n : ℕ) (small : Words ws) where
  -- the last word is whole
  pub filled_whole : n % 4 ≡ 0 → n / 4 ≤ length ws → Filled ws n
  unfolding packed
  filled_whole e k =
      let a : n ≡ 4 * (n / 4) + 0 = omega arith in
      let b : (n + 3) / 4 ≡ n / 4 = omega arith in
      ap (λ (m : ℕ). packed (take m (bytes_of ws))) a ∙ packed_words (n / 4) 0 ws small k ∙ append-nil (take (n / 4) ws) ∙ ap (λ (m : ℕ). take m ws) (sym b)

  -- of the last word, this is what the text's bytes make
  module _ (k : n / 4 < length ws) (r x : ℕ) (e : n ≡ 4 * (n / 4) + r) (some : 0 < r) (few : r < 4)
      (made : packed (take r (bytes_of (get_or ws (n / 4) 0 ∷ drop (suc (n / 4)) ws))) ≡ x ∷ []) where
    front : packed (take n (bytes_of ws)) ≡ take (n / 4) ws ++ (x ∷ [])
    front =
        ap (λ (m : ℕ). packed (take m (bytes_of ws))) e ∙ packed_words (n / 4) r ws small (omega arith)
        ∙ ap (λ (l : List ℕ). take (n / 4) ws ++ l) (ap (λ (l : List ℕ). packed (take r (bytes_of l))) (drop-cons ws (n / 4) 0 k) ∙ made)

    words : take ((n + 3) / 4) ws ≡ take (n / 4) ws ++ (get_or ws (n / 4) 0 ∷ [])
    words = let b : (n + 3) / 4 ≡ suc (n / 4) = omega arith in ap (λ (m : ℕ). take m ws) b ∙ take-suc ws (n / 4) 0 k

    filled_of : x ≡ get_or ws (n / 4) 0 → Filled ws n
    filled_of q = front ∙ ap (λ (w : ℕ). take (n / 4) ws ++ (w ∷ [])) q ∙ sym words

    of_filled : Filled ws n → x ≡ get_or ws (n / 4) 0
    of_filled f =
        let c = length-take-le (n / 4) ws (omega arith) in
        sym (get_or_at (take (n / 4) ws) x [] 0 (n / 4) c) ∙ ap (λ (l : List ℕ). get_or l (n / 4) 0) (sym front ∙ f ∙ words) ∙ get_or_at (take (n / 4) ws) (get_or ws (n / 4) 0) [] 0 (n / 4) c

    filled_below : (limit : ℕ) → (get_or ws (n / 4) 0 < limit → x ≡ get_or ws (n / 4) 0) → (x ≡ get_or ws (n / 4) 0 → get_or ws (n / 4) 0 < limit)
        → Decides (Filled ws n) (ltb (get_or ws (n / 4) 0) limit)
    filled_below limit to from =
        record {
          yes = λ q. filled_of (to (ltb-true _ _ q));
          no = λ q f. let a = ltb-false (get_or ws (n / 4) 0) limit q in let b = from (of_filled f) in omega arith;
        }

  -- one, two or three bytes of it are the text's
  pub filled_one : n % 4 ≡ 1 → n / 4 < length ws → Decides (Filled ws n) (ltb (get_or ws (n / 4) 0) 256)
  unfolding packed
  filled_one e k =
      filled_below k 1 (get_or ws (n / 4) 0 % 256) (omega arith) (omega arith) (omega arith) (rw bytes_cons) 256 (λ h. omega arith) (λ h. omega arith)

  pub filled_two : n % 4 ≡ 2 → n / 4 < length ws → Decides (Filled ws n) (ltb (get_or ws (n / 4) 0) 65536)
  unfolding packed
  filled_two e k =
      filled_below k 2 (get_or ws (n / 4) 0 % 256 + 256 * (get_or ws (n / 4) 0 / 256 % 256)) (omega arith) (omega arith) (omega arith) (rw bytes_cons) 65536 (λ h. omega arith) (λ h. omega arith)

  pub filled_three : n % 4 ≡ 3 → n / 4 < length ws → Decides (Filled ws n) (ltb (get_or ws (n / 4) 0) 16777216)
  unfolding packed
  filled_three e k =
      filled_below k 3 (get_or ws (n / 4) 0 % 256 + 256 * (get_or ws (n / 4) 0 / 256 % 256) + 65536 * (get_or ws (n / 4) 0 / 65536 % 256)) (omega arith) (omega arith) (omega arith) (rw bytes_cons) 16777216 (λ h. omega (arith, word_back (get_or ws (n / 4) 0) (small (n / 4)))) (λ h. omega arith)
