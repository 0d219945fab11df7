-- The ring of slots and the words in it. Assumes nothing.
use Rattle.std.specs.Prelude.{◌+◌, ◌-◌, ◌*◌, ◌/◌, ◌%◌, ◌^◌, ◌≤◌, ◌<◌, ◌≡◌}
use Rattle.key_index.specs.Laws.Prelude.{ℕ, refl, sym, ap, ◌∙◌, true, false, List, add_assoc, add-zero, mod_self, mod-lt, mod-eq_of_lt, mod-add-mod, add-mod-mod, add-mod_right, mul-lt-mul_of_pos_right, arith, ltb, lt-ltb, ltb-true, le-leb, leb-true, and_left, and_right, IndexShape}
use Rattle.cells.specs.Cells.{compact_hash, key_hash}
use Rattle.cells.specs.Laws.Cells.{key_hash_fits}
use Rattle.key_index.specs.Slots.{word, home, slot_from}
use Rattle.key_index.specs.inner.Ring.{tagged, spread, row_named, names_row, away}

pub word_tagged : (hash row : ℕ) (key : List ℕ) → hash ≡ compact_hash (key_hash key) → tagged hash row ≡ word key row
unfolding word tagged
word_tagged hash row key e = ap (λ (h : ℕ). tagged h row) e

-- a row's word is never 0, the word of a free slot
pub word_some : (key : List ℕ) (row : ℕ) → 0 < word key row
unfolding word
word_some key row = omega arith

-- a word's row number and its 15 hash bits decode to what was encoded
pub tagged_row : (hash row : ℕ) → row < 2 ^ 17 - 1 → tagged hash row % 2 ^ 17 ≡ row + 1
unfolding tagged
tagged_row hash row h = omega arith

pub tagged_bits : (hash row : ℕ) → row < 2 ^ 17 - 1 → tagged hash row / 2 ^ 17 ≡ hash % 2 ^ 15
unfolding tagged
tagged_bits hash row h = omega arith

pub tagged_of : (hash w : ℕ) → w / 2 ^ 17 ≡ hash % 2 ^ 15 → 0 < w % 2 ^ 17 → w ≡ tagged hash (w % 2 ^ 17 - 1)
unfolding tagged
tagged_of hash w h k = omega arith

pub word_row : (key : List ℕ) (row : ℕ) → row < 2 ^ 17 - 1 → row_named (word key row) ≡ row
unfolding word row_named
word_row key row h = omega arith

-- words of two rows differ
pub word_same : (k l : List ℕ) (i j : ℕ) → i < 2 ^ 17 - 1 → j < 2 ^ 17 - 1 → word k i ≡ word l j → i ≡ j
word_same k l i j p q e = sym (word_row k i p) ∙ ap row_named e ∙ word_row l j q

-- a word encodes a row's number plus 1
module _ (t : IndexShape) (w : ℕ) where
  pub names_yes : 0 < w % 2 ^ 17 → w % 2 ^ 17 ≤ t.rows → names_row t w ≡ true
  unfolding names_row
  names_yes p q = rw (lt-ltb 0 (w % 2 ^ 17) p, le-leb (w % 2 ^ 17) t.rows q)

  pub names_none : w % 2 ^ 17 ≡ 0 → names_row t w ≡ false
  unfolding names_row
  names_none e = rw e

  pub names_number : names_row t w ≡ true → (0 < w % 2 ^ 17) × (w % 2 ^ 17 ≤ t.rows)
  unfolding names_row
  names_number e = (ltb-true 0 (w % 2 ^ 17) (and_left _ _ e), leb-true (w % 2 ^ 17) t.rows (and_right (ltb 0 (w % 2 ^ 17)) _ e))

pub names_word : (t : IndexShape) (key : List ℕ) (row : ℕ) → row < t.rows → row < 2 ^ 17 - 1 → names_row t (word key row) ≡ true
names_word t key row h k =
    let e : word key row % 2 ^ 17 ≡ row + 1 = rw (← word_tagged _ row key refl) (tagged_row (compact_hash (key_hash key)) row k) in
    names_yes t (word key row) (omega arith) (omega arith)

-- ---- homes

pub home_spread : (n hash : ℕ) (key : List ℕ) → hash ≡ compact_hash (key_hash key) → spread n hash ≡ home n key
unfolding home spread
home_spread n hash key e = ap (spread n) e

pub spread_below : (n hash : ℕ) → 0 < n → hash < 2 ^ 32 → spread n hash < n
unfolding spread
spread_below n hash h k = let m : hash * n < 2 ^ 32 * n = mul-lt-mul_of_pos_right k h in omega arith

pub home_below : (n : ℕ) (key : List ℕ) → 0 < n → home n key < n
home_below n key h = rw (← home_spread n (compact_hash (key_hash key)) key refl) (spread_below n _ h (key_hash_fits key))

-- ---- cyclic order

pub slot_below : (n s d : ℕ) → 0 < n → slot_from n s d < n
unfolding slot_from
slot_below n s d h = mod-lt (s + d) h

-- a slot before the end of the store
pub slot_low : (n s d : ℕ) → s + d < n → slot_from n s d ≡ s + d
unfolding slot_from
slot_low n s d h = mod-eq_of_lt h

pub slot_zero : (n s : ℕ) → s < n → slot_from n s 0 ≡ s
slot_zero n s h = slot_low n s 0 (omega arith) ∙ add-zero s

-- the slot after the last is the first
pub slot_wraps : (n s : ℕ) → s < n → n ≤ s + 1 → slot_from n s 1 ≡ 0
unfolding slot_from
slot_wraps n s h k = let e : s + 1 ≡ n = omega arith in rw (e, mod_self n)

-- distances add up
pub slot_then : (n s d e : ℕ) → slot_from n (slot_from n s d) e ≡ slot_from n s (d + e)
unfolding slot_from
slot_then n s d e = mod-add-mod (s + d) n e ∙ ap (λ (k : ℕ). k % n) (add_assoc s d e)

round : (n d : ℕ) → d < n → (d + n) % n ≡ d
round n d h = add-mod_right d n ∙ mod-eq_of_lt h

pub slot_round : (n s : ℕ) → s < n → slot_from n s n ≡ s
unfolding slot_from
slot_round n s h = round n s h

pub away_below : (n a b : ℕ) → 0 < n → away n a b < n
unfolding away
away_below n a b h = mod-lt (b + (n - a)) h

-- `slots_away` is the distance: that many slots after a is b
pub away_slot : (n a b : ℕ) → a < n → b < n → slot_from n a (away n a b) ≡ b
unfolding slot_from away
away_slot n a b h k =
    let e : a + (b + (n - a)) ≡ b + n = omega arith in
    add-mod-mod a (b + (n - a)) n ∙ ap (λ (x : ℕ). x % n) e ∙ round n b k

pub away_of : (n a d : ℕ) → a < n → d < n → away n a (slot_from n a d) ≡ d
unfolding slot_from away
away_of n a d h k =
    let e : a + d + (n - a) ≡ d + n = omega arith in
    mod-add-mod (a + d) n (n - a) ∙ ap (λ (x : ℕ). x % n) e ∙ round n d k

-- a full round visits each slot once: distances below n give different slots
pub slot_one : (n s p q : ℕ) → s < n → p < n → q < n → slot_from n s p ≡ slot_from n s q → p ≡ q
slot_one n s p q h k m e = sym (away_of n s p h k) ∙ ap (away n s) e ∙ away_of n s q h m

-- a full round visits every slot, from any start
pub slot_met : (n : ℕ) → 0 < n → (start slot : ℕ) → slot < n → (d : ℕ) × (d < n) × (slot_from n start d ≡ slot)
unfolding slot_from
slot_met n some start slot h =
    let d = away n (start % n) slot in
    (d, away_below n (start % n) slot some, sym (mod-add-mod start n d) ∙ away_slot n (start % n) slot (mod-lt start some) h)

-- the distance between two slots, both given by their distance from z
pub away_line : (n z p q : ℕ) → z < n → p ≤ q → q < n → away n (slot_from n z p) (slot_from n z q) ≡ q - p
away_line n z p q h k m =
    let e : p + (q - p) ≡ q = omega arith in
    let f : slot_from n z q ≡ slot_from n (slot_from n z p) (q - p) = sym (slot_then n z p (q - p) ∙ ap (slot_from n z) e) in
    ap (away n (slot_from n z p)) f ∙ away_of n (slot_from n z p) (q - p) (slot_below n z p (omega arith)) (omega arith)
