-- The steps of `renumber`: the new value of a word, the bitmap word of a block, and the loop iterations over the slots. Assumes
-- nothing.
use Rattle.key_rebuild.proofs.Prelude.{ℕ, zero, suc, ◌+◌, ◌-◌, ◌*◌, ◌/◌, ◌%◌, ◌^◌, ◌≤◌, ◌<◌, min, ◌≡◌, refl, sym, ap, ◌∙◌, inl, inr, Bool, true, false, not, List, add-zero, add-mul, mul_comm, one-mul, arith, bit_and, count_trailing_zeros, eqb, length, get_or, set, length-set, pow-add, pow_mono, shl_exact, set-get_or, le-leb, lt-leb, eqb-true, eq-eqb, ne_eqb, not-false, length_map_front, get_d_map_front_past, map_front_step, split, bitmap_word_yes, bitmap_word_no, bitmap_word_lt, bitmap_word_same, onward, onward_all, Next, next_bit, no_more, IndexShape, slots, names_number, renumbered_free}
use Rattle.lists.specs.inner.Searching.{map_front}
use Rattle.row_buffer.specs.Ranks.{set_below, bitmap_word}
use Rattle.bitmap.specs.inner.Marking.{other_at}
use Rattle.key_index.specs.inner.Ring.{row_named, names_row}
use Rattle.key_rebuild.specs.inner.Renumbering.{new_row, renumbered, Ranked, Block, BlockRenumbered}

module _ (t : IndexShape) (w : ℕ) (live base : List ℕ) where
  -- a word that names no row stays
  pub stays : names_row t w ≡ false → w ≡ renumbered t live base w
  unfolding renumbered
  stays e = rw e

  module _ (e : names_row t w ≡ true) where
    -- so does one whose new number no table has
    pub too_large : 65536 < get_or base ((w % 2 ^ 17 - 1) / 64) 0 → w ≡ renumbered t live base w
    unfolding renumbered row_named
    too_large h = rw (e, lt-leb (get_or base ((w % 2 ^ 17 - 1) / 64) 0) 65536 h)

    pub has_new : (r : ℕ) → get_or base ((w % 2 ^ 17 - 1) / 64) 0 ≤ 65536
        → r ≡ get_or base ((w % 2 ^ 17 - 1) / 64) 0 + set_below (get_or live ((w % 2 ^ 17 - 1) / 64) 0) ((w % 2 ^ 17 - 1) % 64)
        → w / 2 ^ 17 * 2 ^ 17 + (r + 1) ≡ renumbered t live base w
    unfolding renumbered row_named new_row
    has_new r h q = rw (e, le-leb (get_or base ((w % 2 ^ 17 - 1) / 64) 0) 65536 h, q)

    -- the row's bitmap word and its base are inside their lists
    pub in_words : Ranked t live base → (0 < w % 2 ^ 17) × ((w % 2 ^ 17 - 1) / 64 < length live) × ((w % 2 ^ 17 - 1) / 64 < length base)
    in_words r = let n = names_number t w e in (n.0, omega (arith, n, r.bitmap_word, r.count), omega (arith, n, r.firsts, r.count))

-- ---- the bitmap word of a block

-- a bitmap word is made of the words of its first n positions and of the others
word_join : (f : ℕ → Bool) (n m : ℕ) → bitmap_word f (n + m) ≡ bitmap_word f n + bitmap_word (λ k. f (n + k)) m * 2 ^ n
unfolding bitmap_word
word_join f n zero = let z : bitmap_word f n ≡ bitmap_word f n + 0 * 2 ^ n = omega arith in rw add-zero z
word_join f n (suc m) =
    let e : n + suc m ≡ suc (n + m) = omega arith in
    let w : ℕ = bitmap_word (λ k. f (n + k)) m in
    let h = word_join f n m in
    elim (split (f (n + m))) [
      | inl q ↦ rw (e, q) (omega (arith, h, pow-add 2 n m, mul_comm (2 ^ n) (2 ^ m), add-mul w (2 ^ m) (2 ^ n)))
      | inr q ↦ rw (e, q) (omega (arith, h, add-mul w 0 (2 ^ n)))
    ]

module _ (store : List ℕ) (from : ℕ) where
  abbrev used : ℕ → Bool
  used = other_at store from 1 0

  -- what holds at the loop's head: the word has the positions before `place`
  pub record Half (word place : ℕ) : Type 0 where
    pub few : place ≤ 32
    pub made : word ≡ bitmap_word used place

  pub half_begin : Half 0 0
  unfolding bitmap_word
  half_begin = record { few = omega arith; made = refl }

  module _ (word place : ℕ) (s : Half word place) where
    module _ (more : place < 32) where
      here : from + place * 1 ≡ from + place
      here = omega arith

      pub half_free : get_or store (from + place) 0 ≡ 0 → Half word (place + 1)
      unfolding other_at
      half_free e =
          let y : used place ≡ false = rw here (ap not (eq-eqb (get_or store (from + place) 0) 0 e)) in
          record { few = omega arith; made = s.made ∙ sym (bitmap_word_no used place y) }

      module _ (some : get_or store (from + place) 0 ≡ 0 → ⊥) (bit : ℕ) (one : bit ≡ (1 * 2 ^ place) % 2 ^ 32) where
        grown : word + bit ≡ bitmap_word used (place + 1)
        unfolding other_at
        grown =
            let y : used place ≡ true = rw here (ap not (ne_eqb (get_or store (from + place) 0) 0 some)) in
            let e : bit ≡ 2 ^ place = one ∙ shl_exact {a = 1} 1 place 32 (omega arith) (omega arith) ∙ one-mul (2 ^ place) in
            omega (arith, s.made, bitmap_word_yes used place y)

        pub half_taken : Half (word + bit) (place + 1)
        half_taken = record { few = omega arith; made = grown }

        pub half_fits : word + bit < 4294967296
        half_fits =
            let k : place + 1 ≤ 32 = omega arith in
            let m : 2 ^ (place + 1) ≤ 2 ^ 32 = pow_mono k in
            omega (arith, grown, bitmap_word_lt used (place + 1))

    pub half_end : 32 ≤ place → word ≡ bitmap_word used 32
    half_end h = let e : place ≡ 32 = omega (arith, s.few) in s.made ∙ ap (bitmap_word used) e

  -- the words of the two halves of a block
  pub word_halves : (low high : ℕ) → low ≡ bitmap_word (other_at store from 1 0) 32 → high ≡ bitmap_word (other_at store (from + 32) 1 0) 32
      → high * 4294967296 + low ≡ bitmap_word (other_at store from 1 0) 64
  unfolding other_at
  word_halves low high e f =
      let same = bitmap_word_same (other_at store (from + 32) 1 0) (λ k. other_at store from 1 0 (32 + k)) 32 (λ k b.
      let i : from + 32 + k * 1 ≡ from + (32 + k) * 1 = omega arith in
      ap (λ (x : ℕ). not (eqb (get_or store x 0) 0)) i) in
      let g : high ≡ bitmap_word (λ k. other_at store from 1 0 (32 + k)) 32 = f ∙ same in
      omega (arith, e, g, word_join (other_at store from 1 0) 32 32)

-- ---- the slots of a block

-- elements that stay as they are may as well be mapped
map_front_skip : (f : ℕ → ℕ) (n k : ℕ) (l : List ℕ) → n + k ≤ length l → ((i : ℕ) → n ≤ i → i < n + k → f (get_or l i 0) ≡ get_or l i 0)
    → map_front f n l ≡ map_front f (n + k) l
map_front_skip f n zero l h same = rw add-zero
map_front_skip f n (suc k) l h same =
    let e : n + suc k ≡ n + k + 1 = omega arith in
    let low : n ≤ n + k = omega arith in
    let here : get_or (map_front f (n + k) l) (n + k) 0 ≡ get_or l (n + k) 0 = get_d_map_front_past f (n + k) l (n + k) 0 (omega arith) in
    let stays : f (get_or (map_front f (n + k) l) (n + k) 0) ≡ get_or (map_front f (n + k) l) (n + k) 0 = rw here (same (n + k) low (omega arith)) in
    map_front_skip f n k l (omega arith) (λ i p q. same i p (omega arith))
    ∙ sym (set-get_or (map_front f (n + k) l) (n + k) 0)
    ∙ ap (set (map_front f (n + k) l) (n + k)) (sym stays)
    ∙ map_front_step f (n + k) l 0 (omega arith)
    ∙ ap (λ (x : ℕ). map_front f x l) (sym e)

module _ (t : IndexShape) (live base store₀ : List ℕ) (from count : ℕ) where
  abbrev taken : ℕ → Bool
  taken = other_at store₀ from 1 0

  abbrev new : ℕ → ℕ
  new = renumbered t live base

  -- the loop invariant: the slots of the block before `place` are renumbered, and the bitmap word has the others
  pub record Left (store : List ℕ) (word : ℕ) : Type 0 where
    pub place : ℕ
    pub few : place ≤ count
    pub same : length store ≡ length store₀
    pub others : word ≡ bitmap_word (onward taken place) count
    pub on : (l : List ℕ) → store₀ ≡ map_front new from l → store ≡ map_front new (from + place) l

  pub left_begin : (word : ℕ) → word ≡ bitmap_word taken count → Left store₀ word
  left_begin word e =
      record {
        place = 0;
        few = omega arith;
        same = refl;
        others = e ∙ onward_all taken count;
        on = λ l q. q ∙ ap (λ (x : ℕ). map_front new x l) (sym (add-zero from));
      }

  -- a slot whose bit is not set is free, and remains so
  free_stays : (l : List ℕ) → store₀ ≡ map_front new from l → (k : ℕ) → taken k ≡ false → new (get_or l (from + k) 0) ≡ get_or l (from + k) 0
  unfolding other_at
  free_stays l q k e =
      let z : get_or store₀ (from + k * 1) 0 ≡ 0 = eqb-true _ 0 (not-false _ e) in
      let m : k * 1 ≡ k = omega arith in
      let p : get_or l (from + k) 0 ≡ 0 = sym (get_d_map_front_past new from l (from + k) 0 (omega arith)) ∙ ap (λ (x : List ℕ). get_or x (from + k) 0) (sym q) ∙ rw m at z in
      rw p (renumbered_free t live base 0 refl)

  module _ (b : Block store₀ from count) (store : List ℕ) (word : ℕ) (s : Left store word) where
    -- positions whose bit is not set may be skipped
    passed : (z : ℕ) → s.place ≤ z → z ≤ count → ((k : ℕ) → s.place ≤ k → k < z → taken k ≡ false) → (l : List ℕ) → store₀ ≡ map_front new from l
        → store ≡ map_front new (from + z) l
    passed z h m none l q =
        let long : length store₀ ≡ length l = ap length q ∙ length_map_front new from l in
        let e : from + s.place + (z - s.place) ≡ from + z = omega arith in
        s.on l q
        ∙ map_front_skip new (from + s.place) (z - s.place) l (omega (arith, b.inside)) (λ i low high.
        let j : from + (i - from) ≡ i = omega arith in
        rw j at (free_stays l q (i - from) (none (i - from) (omega arith) (omega arith))))
        ∙ ap (λ (x : ℕ). map_front new x l) e

    pub left_end : word ≡ 0 → BlockRenumbered t live base store₀ from count store
    left_end z = record { on = passed count s.few (omega arith) (no_more taken s.place count word s.others z) }

    module _ (some : word ≡ 0 → ⊥) where
      abbrev z : ℕ
      z = count_trailing_zeros 64 word

      at : Next taken s.place count word z
      at = next_bit taken s.place count word s.others b.few some

      pub left_in : from + z < from + count
      left_in = omega (arith, at.below)

      pub left_step : (r : ℕ) → r ≡ renumbered t live base (get_or store (from + z) 0) → Left (set store (from + z) r) (bit_and word (word - 1))
      left_step r e =
          record {
            place = z + 1;
            few = omega (arith, at.below);
            same = length-set store (from + z) r ∙ s.same;
            others = at.rest;
            on = λ l q.
                let p = passed z at.after (omega (arith, at.below)) at.none l q in
                let long : length store₀ ≡ length l = ap length q ∙ length_map_front new from l in
                let i : from + z < length l = omega (arith, at.below, b.inside) in
                let n : from + z + 1 ≡ from + (z + 1) = omega arith in
                rw (e, p) (map_front_step new (from + z) l 0 i) ∙ ap (λ (x : ℕ). map_front new x l) n;
          }

-- ---- all slots

-- what holds at the loop's head: the first `at` slots are renumbered
pub record Pass (t : IndexShape) (live base store₀ store : List ℕ) (at : ℕ) : Type 0 where
  pub at_in : at ≤ slots t
  pub same : length store ≡ length store₀
  pub words : store ≡ map_front (renumbered t live base) at store₀

pub pass_begin : (t : IndexShape) (live base store : List ℕ) → Pass t live base store store 0
unfolding map_front
pass_begin t live base store = record { at_in = omega arith; same = refl; words = refl }

module _ (t : IndexShape) (live base store₀ store : List ℕ) (at : ℕ) (s : Pass t live base store₀ store at) where
  -- the next ones
  pub pass_block : (count : ℕ) → count ≡ min 64 (slots t - at) → slots t ≤ length store₀ → slots t ≤ 131072 → Block store at count
  pass_block count e long most =
      record { few = omega arith; inside = omega (arith, s.at_in, s.same); most = omega (arith, s.at_in) }

  pub pass_step : (count : ℕ) (store' : List ℕ) → count ≡ min 64 (slots t - at) → BlockRenumbered t live base store at count store' → Pass t live base store₀ store' (at + count)
  pass_step count store' e b =
      let p = b.on store₀ s.words in
      record { at_in = omega (arith, s.at_in); same = ap length p ∙ length_map_front (renumbered t live base) (at + count) store₀; words = p }

  pub pass_end : slots t ≤ at → store ≡ map_front (renumbered t live base) (slots t) store₀
  pass_end h =
      let e : at ≡ slots t = omega (arith, s.at_in) in
      s.words ∙ ap (λ (k : ℕ). map_front (renumbered t live base) k store₀) e
