-- The loops that test whether ids rise, a step at a time. Assumes nothing.
use Rattle.offsets.proofs.Prelude.{ℕ, ◌+◌, ◌-◌, ◌*◌, ◌%◌, ◌^◌, ◌≤◌, ◌<◌, ◌≡◌, refl, sym, ap, ap₂, ◌∙◌, Bool, true, false, ◌&&◌, List, arith, leb, ltb, length, take, drop, get_or, length-drop, leb-true, lt-ltb, rising, RisesUpTo}
use Rattle.std.proofs.Common.{inl, inr, length-take-le, get_or-drop, take_all, drop-drop}
use Rattle.lists.specs.Laws.Filter.{split, and_left, and_right}
use Rattle.lists.specs.Laws.Parts.{part_to_end}
use Rattle.lists.specs.Laws.Rising.{bool_ext, rising_take, rising_drop, rising_take_one, rising_take_more, rising_past}

-- whether a block's ids before position i rise
pub record Tested (ids : List ℕ) (rises : Bool) (i : ℕ) : Type 0 where
  pub one : 1 ≤ i
  pub front : rises ≡ rising (take i ids)

pub tested_begin : (ids : List ℕ) → Tested ids true 1
tested_begin ids = record { one = omega arith; front = sym (rising_take_one ids) }

module _ (ids : List ℕ) (rises : Bool) (i : ℕ) (s : Tested ids rises i) where
  pub tested_more : i < length ids → Tested ids (rises && ltb (get_or ids (i - 1) 0) (get_or ids i 0)) (i + 1)
  tested_more h =
      record { one = omega arith; front = ap (λ (b : Bool). b && ltb (get_or ids (i - 1) 0) (get_or ids i 0)) s.front ∙ sym (rising_take_more i ids s.one h) }

  pub tested_all : length ids ≤ i → rises ≡ rising ids
  tested_all h = s.front ∙ ap rising (take_all i ids h)

-- ---- small steps

-- a difference modulo 2 ^ 32 leads back
pub difference_back : (a b : ℕ) → a < 2 ^ 32 → b < 2 ^ 32 → ((a + (2 ^ 32 - b)) % 2 ^ 32 + b) % 2 ^ 32 ≡ a
difference_back a b h k = omega arith

-- the difference of the earlier and the later id, modulo 2 ^ 32, shows that the later one is larger, by at most 2 ^ 24
small_step : (a b d : ℕ) → (d + b) % 2 ^ 32 ≡ a → 4278190080 ≤ d → d < 2 ^ 32 → b < 2 ^ 32 → a < 4278190080 → (a < b) × (b ≤ a + 16777216)
small_step a b d e h k m n = (omega arith, omega arith)

-- a list whose first i ids rise by small steps from one below 2 ^ 31
pub record Chain (ids : List ℕ) (i : ℕ) : Type 0 where
  pub up : rising (take i ids) ≡ true
  pub low : get_or ids (i - 1) 0 < 2147483648 + 16777216 * (i - 1)

pub chain_begin : (ids : List ℕ) → get_or ids 0 0 < 2147483648 → Chain ids 1
chain_begin ids h = record { up = rising_take_one ids; low = omega arith }

pub chain_more : (ids : List ℕ) (i d : ℕ) → 1 ≤ i → i ≤ 64 → i < length ids → Chain ids i → (d + get_or ids i 0) % 2 ^ 32 ≡ get_or ids (i - 1) 0 → 4278190080 ≤ d → d < 2 ^ 32
    → get_or ids i 0 < 2 ^ 32 → Chain ids (i + 1)
chain_more ids i d o h k s e m n q =
    let t = small_step (get_or ids (i - 1) 0) (get_or ids i 0) d e m n q (omega (arith, s.low, h)) in
    let z : i + 1 - 1 ≡ i = omega arith in
    record {
      up = rising_take_more i ids o k ∙ ap₂ (λ (a b : Bool). a && b) s.up (lt-ltb (get_or ids (i - 1) 0) (get_or ids i 0) t.0);
      low = rw z (omega (arith, s.low, t.1, o));
    }

-- both halves of a block, with the last id that was read of the second
pub record Steps (ids : List ℕ) (last : ℕ) (rises : Bool) (i : ℕ) : Type 0 where
  pub one : 1 ≤ i
  pub most : i ≤ 65
  pub kept : last ≡ get_or (drop 64 ids) (i - 1) 0
  pub first : rises ≡ true → Chain ids i
  pub second : rises ≡ true → Chain (drop 64 ids) i

pub steps_begin : (ids : List ℕ) → get_or ids 0 0 < 2147483648 → get_or ids 64 0 < 2147483648 → Steps ids (get_or ids 64 0) true 1
steps_begin ids h k =
    record {
      one = omega arith;
      most = omega arith;
      kept = sym (get_or-drop 64 ids 0 0);
      first = λ e. chain_begin ids h;
      second = λ e. chain_begin (drop 64 ids) (rw (get_or-drop 64 ids 0 0) k);
    }

module _ (ids : List ℕ) (last : ℕ) (rises : Bool) (i : ℕ) (long : length ids ≡ 129) (s : Steps ids last rises i) where
  pub steps_more : i ≤ 64 → ((k : ℕ) → get_or ids k 0 < 2 ^ 32) → (d e : ℕ) → (d + get_or ids i 0) % 2 ^ 32 ≡ get_or ids (i - 1) 0 → (e + get_or ids (64 + i) 0) % 2 ^ 32 ≡ last
      → d < 2 ^ 32 → e < 2 ^ 32 → Steps ids (get_or ids (64 + i) 0) (rises && leb 4278190080 d && leb 4278190080 e) (i + 1)
  steps_more h fits d e p q m n =
      let z : i + 1 - 1 ≡ i = omega arith in
      let y : get_or (drop 64 ids) i 0 ≡ get_or ids (64 + i) 0 = get_or-drop 64 ids i 0 in
      record {
        one = omega arith;
        most = omega arith;
        kept = rw z (sym y);
        first = λ t.
            (let a : (rises && leb 4278190080 d) ≡ true = and_left _ _ t in
            chain_more ids i d s.one h (omega arith) (s.first (and_left _ _ a)) p (leb-true _ _ (and_right rises _ a)) m (fits i));
        second = λ t.
            (let a : (rises && leb 4278190080 d) ≡ true = and_left _ _ t in
            chain_more (drop 64 ids) i e s.one h (simp length-drop (omega arith)) (s.second (and_left _ _ a)) (rw y (q ∙ s.kept)) (leb-true _ _ (and_right (rises && leb 4278190080 d) _ t)) n (rw y (fits (64 + i))));
      }

  pub steps_all : 64 < i → rises ≡ true → rising ids ≡ true
  steps_all h t =
      let w : i ≡ 65 = omega (arith, s.most) in
      let a : rising (take 65 ids) ≡ true = rw w at (s.first t).up in
      let b : rising (take 65 (drop 64 ids)) ≡ true = rw w at (s.second t).up in
      rising_past 64 ids (omega arith) a ∙ ap rising (sym (take_all 65 (drop 64 ids) (simp length-drop (omega arith)))) ∙ b

-- ---- block by block

pub onward_begin : (ids : List ℕ) → RisesUpTo ids 0
onward_begin ids = record { in_list = omega arith; same = refl }

-- a block and the id after it
pub block_length : (ids : List ℕ) (at n : ℕ) → n < length ids - at → length (take (at + n + 1 - at) (drop at ids)) ≡ n + 1
block_length ids at n h =
    let z : at + n + 1 - at ≡ n + 1 = omega arith in
    rw z (length-take-le (n + 1) (drop at ids) (simp length-drop (omega arith)))

pub onward_more : (ids : List ℕ) (at n : ℕ) → RisesUpTo ids at → n < length ids - at → rising (take (at + n + 1 - at) (drop at ids)) ≡ true → RisesUpTo ids (at + n)
onward_more ids at n s more up =
    let z : at + n + 1 - at ≡ n + 1 = omega arith in
    let h : n < length (drop at ids) = simp length-drop more in
    record { in_list = omega arith; same = s.same ∙ rising_past n (drop at ids) h (rw z at up) ∙ ap rising (drop-drop n at ids) }

pub onward_fall : (ids : List ℕ) (at n : ℕ) → RisesUpTo ids at → (rises : Bool) → rises ≡ rising (take (at + n + 1 - at) (drop at ids)) → rises ≡ false → false ≡ rising ids
onward_fall ids at n s rises tested e =
    elim (split (rising ids)) [ inl q ↦ sym e ∙ tested ∙ rising_take (at + n + 1 - at) (drop at ids) (sym s.same ∙ q) ∙ sym q | inr q ↦ sym q ]

-- the last part, which may begin before the position
pub onward_last : (ids : List ℕ) (at m : ℕ) → RisesUpTo ids at → m ≤ at → rising (take (length ids - m) (drop m ids)) ≡ rising ids
onward_last ids at m s h =
    let z : m + (at - m) ≡ at = omega arith in
    ap rising (part_to_end ids m)
    ∙ bool_ext (rising (drop m ids)) (rising ids)
    (λ e. s.same ∙ ap (λ (k : ℕ). rising (drop k ids)) (sym z) ∙ ap rising (sym (drop-drop (at - m) m ids)) ∙ rising_drop (at - m) (drop m ids) e)
    (λ e. rising_drop m ids e)
