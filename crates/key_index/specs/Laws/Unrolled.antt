-- The ring of slots, unrolled into a line at a free slot. No path from a home to its row's slot passes a free slot. So each path is
-- a contiguous part of the line, and closing a hole needs only plain arithmetic. Re-exports the laws of distances on the ring from
-- Ring.antt. Assumes nothing.
use Rattle.std.specs.Prelude.{◌+◌, ◌≤◌, ◌<◌, ◌≡◌, ◌⊎◌}
use Rattle.key_index.specs.Laws.Prelude.{ℕ, refl, sym, ap, ◌∙◌, inl, inr, List, dec_lt, ℕ_discrete, arith, length, get_or, set, get_or-set_same, get_or-set_other, slot_from}
unfoldable pub use Rattle.key_index.specs.inner.Ring.{away}
pub use Rattle.key_index.specs.Laws.Ring.{slot_below, slot_then, slot_zero, slot_round, slot_one, away_below, away_slot, away_of, away_line}

-- the word p slots after slot z
unfoldable pub line : ℕ → ℕ → List ℕ → ℕ → ℕ
line n z store p = get_or store (slot_from n z p) 0

pub line_at : (n z : ℕ) (store : List ℕ) (p slot : ℕ) → slot_from n z p ≡ slot → line n z store p ≡ get_or store slot 0
unfolding line
line_at n z store p slot e = ap (λ (k : ℕ). get_or store k 0) e

-- one position of a line of n is changed
pub record Put (n : ℕ) (l : ℕ → ℕ) (g v : ℕ) (m : ℕ → ℕ) : Type 0 where
  pub here : m g ≡ v
  pub elsewhere : (p : ℕ) → p < n → (p ≡ g → ⊥) → m p ≡ l p

pub line_put : (n z : ℕ) (store : List ℕ) (g v : ℕ) → z < n → g < n → n ≤ length store → Put n (line n z store) g v (line n z (set store (slot_from n z g) v))
unfolding line
line_put n z store g v h k m =
    let b = slot_below n z g (omega arith) in
    record {
      here = get_or-set_same store (slot_from n z g) v 0 (omega arith);
      elsewhere = λ p q ne. get_or-set_other store (slot_from n z g) (slot_from n z p) v 0 (λ e. ne (slot_one n z p g h q k e));
    }

-- A line of n positions whose first is free. Each word that must be held is at one position, at or after its home, and no position
-- from its home to it is free.
pub record Line (n : ℕ) (home_of : ℕ → ℕ) (Held : ℕ → Type 0) (l : ℕ → ℕ) : Type 0 where
  pub free : l 0 ≡ 0
  pub only : (p : ℕ) → p < n → 0 < l p → Held (l p)
  pub once : (p q : ℕ) → p < n → q < n → 0 < l p → l p ≡ l q → p ≡ q
  pub all : (w : ℕ) → Held w → (p : ℕ) × (p < n) × (l p ≡ w)
  pub after : (p : ℕ) → p < n → 0 < l p → home_of (l p) ≤ p
  pub way : (p : ℕ) → p < n → 0 < l p → (q : ℕ) → home_of (l p) ≤ q → q ≤ p → 0 < l q

-- The same with a hole at position g. The word in the hole is ignored, and a path may pass the hole. No path to a position up to a
-- passes it.
pub record LineWithHole (n : ℕ) (home_of : ℕ → ℕ) (Held : ℕ → Type 0) (l : ℕ → ℕ) (g a : ℕ) : Type 0 where
  pub free : l 0 ≡ 0
  pub past : 0 < g
  pub order : g ≤ a
  pub end : a < n
  pub only : (p : ℕ) → p < n → (p ≡ g → ⊥) → 0 < l p → Held (l p)
  pub once : (p q : ℕ) → p < n → q < n → (p ≡ g → ⊥) → (q ≡ g → ⊥) → 0 < l p → l p ≡ l q → p ≡ q
  pub all : (w : ℕ) → Held w → (p : ℕ) × (p < n) × (p ≡ g → ⊥) × (l p ≡ w)
  pub after : (p : ℕ) → p < n → (p ≡ g → ⊥) → 0 < l p → home_of (l p) ≤ p
  pub way : (p : ℕ) → p < n → (p ≡ g → ⊥) → 0 < l p → (q : ℕ) → home_of (l p) ≤ q → q ≤ p → (q ≡ g → ⊥) → 0 < l q
  pub passed : (p : ℕ) → g < p → p ≤ a → 0 < l p → g < home_of (l p)

-- transports a fact along an equality of words
carried : (F : ℕ → Type 0) {w v : ℕ} → w ≡ v → F w → F v
carried F e m = rw (← e) m

module _ (n : ℕ) (home_of : ℕ → ℕ) (Held : ℕ → Type 0) where
  -- a word is removed: its position is the hole
  pub hole_open : (Fewer : ℕ → Type 0) (l : ℕ → ℕ) (g : ℕ) → g < n → 0 < l g → ((w : ℕ) → Held w → (w ≡ l g → ⊥) → Fewer w)
      → ((w : ℕ) → Fewer w → Held w) → (Fewer (l g) → ⊥) → Line n home_of Held l → LineWithHole n home_of Fewer l g g
  hole_open Fewer l g h k few more out s =
      record {
        free = s.free;
        past = elim (ℕ_discrete g 0) [ yes e ↦ absurd (let z : l g ≡ 0 = ap l e ∙ s.free in omega arith) | no e ↦ omega arith ];
        order = omega arith;
        end = h;
        only = λ p b ne c. few (l p) (s.only p b c) (λ e. ne (s.once p g b h c e));
        once = λ p q b c u v d e. s.once p q b c d e;
        all = λ w m. let f = s.all w (more w m) in (f.0, f.1, λ e. out (carried Fewer (sym f.2 ∙ ap l e) m), f.2);
        after = λ p b ne c. s.after p b c;
        way = λ p b ne c q i j v. s.way p b c q i j;
        passed = λ p i j c. absurd (omega arith);
      }

  module _ (l : ℕ → ℕ) (g a : ℕ) (s : LineWithHole n home_of Held l g a) where
    -- the next word's home is after the hole: the word remains
    pub hole_stay : a + 1 < n → g < home_of (l (a + 1)) → LineWithHole n home_of Held l g (a + 1)
    hole_stay h k =
        record {
          free = s.free;
          past = s.past;
          order = omega (arith, s.order);
          end = h;
          only = s.only;
          once = s.once;
          all = s.all;
          after = s.after;
          way = s.way;
          passed = λ p i j c. elim (ℕ_discrete p (a + 1)) [ yes e ↦ rw e k | no e ↦ s.passed p i (omega arith) c ];
        }

    -- the next word's home is not after the hole: the word fills the hole, and its position is the new hole
    pub hole_move : (m : ℕ → ℕ) → a + 1 < n → 0 < l (a + 1) → home_of (l (a + 1)) ≤ g → Put n l g (l (a + 1)) m → LineWithHole n home_of Held m (a + 1) (a + 1)
    hole_move m h c k t =
        record {
          free = t.elsewhere 0 (omega arith) (omega (arith, s.past)) ∙ s.free;
          past = omega arith;
          order = omega arith;
          end = h;
          only = λ p b ne d. let f = from p b ne in carried Held (sym f.3) (s.only f.0 f.1 f.2 (rw f.3 at d));
          once = λ p q b b' ne ne' d e. same p q ne ne' (from p b ne) (from q b' ne') d e;
          all = λ w d. to w (s.all w d);
          after = λ p b ne d. behind p b ne d (ℕ_discrete p g);
          way = λ p b ne d q i j ne'. on p b ne d q i j ne' (ℕ_discrete p g) (ℕ_discrete q g);
          passed = λ p i j d. absurd (omega arith);
        }
      where
        -- the previous position of the word at a position
        From : ℕ → Type 0
        From p = (q : ℕ) × (q < n) × (q ≡ g → ⊥) × (m p ≡ l q) × (((p ≡ g) × (q ≡ a + 1)) ⊎ ((p ≡ g → ⊥) × (q ≡ p)))

        from : (p : ℕ) → p < n → (p ≡ a + 1 → ⊥) → From p
        from p b ne =
            elim (ℕ_discrete p g) [
              | yes e ↦ (a + 1, h, omega (arith, s.order), ap m e ∙ t.here, inl (e, refl))
              | no e ↦ (p, b, e, t.elsewhere p b e, inr (e, refl))
            ]

        same : (p q : ℕ) → (p ≡ a + 1 → ⊥) → (q ≡ a + 1 → ⊥) → From p → From q → 0 < m p → m p ≡ m q → p ≡ q
        same p q ne ne' f f' d e =
            let k = s.once f.0 f'.0 f.1 f'.1 f.2 f'.2 (rw f.3 at d) (sym f.3 ∙ e ∙ f'.3) in
            elim f.4 [
              | inl u ↦ elim f'.4 [ inl v ↦ omega arith | inr v ↦ absurd (omega arith) ]
              | inr u ↦ elim f'.4 [ inl v ↦ absurd (omega arith) | inr v ↦ omega arith ]
            ]

        to : (w : ℕ) → (p : ℕ) × (p < n) × (p ≡ g → ⊥) × (l p ≡ w) → (p : ℕ) × (p < n) × (p ≡ a + 1 → ⊥) × (m p ≡ w)
        to w f =
            elim (ℕ_discrete f.0 (a + 1)) [
              | yes e ↦ (g, omega (arith, s.order), omega (arith, s.order), t.here ∙ ap l (sym e) ∙ f.3)
              | no e ↦ (f.0, f.1, e, t.elsewhere f.0 f.1 f.2 ∙ f.3)
            ]

        behind : (p : ℕ) → p < n → (p ≡ a + 1 → ⊥) → 0 < m p → Dec (p ≡ g) → home_of (m p) ≤ p
        behind p b ne d (yes e) = rw (e, t.here) k
        behind p b ne d (no e) = rw (t.elsewhere p b e) (s.after p b e (rw (t.elsewhere p b e) at d))

        on : (p : ℕ) → p < n → (p ≡ a + 1 → ⊥) → 0 < m p → (q : ℕ) → home_of (m p) ≤ q → q ≤ p → (q ≡ a + 1 → ⊥) → Dec (p ≡ g) → Dec (q ≡ g) → 0 < m q
        on p b ne d q i j ne' u (yes e) = rw (e, t.here) c
        on p b ne d q i j ne' (yes u) (no e) =
            let o = s.order in
            let i' : home_of (l (a + 1)) ≤ q = rw (u, t.here) at i in
            rw (t.elsewhere q (omega arith) e) (s.way (a + 1) h (omega arith) c q i' (omega arith) e)
        on p b ne d q i j ne' (no u) (no e) =
            let x = t.elsewhere p b u in
            rw (t.elsewhere q (omega arith) e) (s.way p b u (rw x at d) q (rw x at i) j e)

    -- the next position is free: no path passes the hole any more
    pub hole_close : (m : ℕ → ℕ) → (a + 1 < n → l (a + 1) ≡ 0) → Put n l g 0 m → Line n home_of Held m
    hole_close m h t =
        record {
          free = t.elsewhere 0 (omega (arith, s.end)) (omega (arith, s.past)) ∙ s.free;
          only = λ p b c. let ne = held p c in let x = t.elsewhere p b ne in carried Held (sym x) (s.only p b ne (rw x at c));
          once = λ p q b b' c e. both p q b b' c e;
          all = λ w d. let f = s.all w d in (f.0, f.1, t.elsewhere f.0 f.1 f.2 ∙ f.3);
          after = λ p b c. let ne = held p c in let x = t.elsewhere p b ne in rw x (s.after p b ne (rw x at c));
          way = λ p b c q i j. on p b c q i j (ℕ_discrete q g);
        }
      where
        held : (p : ℕ) → 0 < m p → p ≡ g → ⊥
        held p c e = let z : m p ≡ 0 = ap m e ∙ t.here in omega arith

        both : (p q : ℕ) → p < n → q < n → 0 < m p → m p ≡ m q → p ≡ q
        both p q b b' c e =
            let ne = held p c in
            let ne' = held q (omega arith) in
            let x = t.elsewhere p b ne in
            let y = t.elsewhere q b' ne' in
            s.once p q b b' ne ne' (rw x at c) (sym x ∙ e ∙ y)

        on : (p : ℕ) → p < n → 0 < m p → (q : ℕ) → home_of (m p) ≤ q → q ≤ p → Dec (q ≡ g) → 0 < m q
        on p b c q i j (no e) =
            let ne = held p c in
            let x = t.elsewhere p b ne in
            rw (t.elsewhere q (omega arith) e) (s.way p b ne (rw x at c) q (rw x at i) j e)
        on p b c q i j (yes e) =
            let ne = held p c in
            let x = t.elsewhere p b ne in
            let i' : home_of (l p) ≤ q = rw x at i in
            let c' : 0 < l p = rw x at c in
            let o = s.order in
            absurd (elim (dec_lt a p) [
              | yes u ↦
                  let w = s.way p b ne c' (a + 1) (omega arith) (omega arith) (omega arith) in
                  omega (arith, h (omega arith))
              | no u ↦ omega (arith, s.passed p (omega arith) (omega arith) c')
            ])

  -- a line with an equal function for the homes
  pub line_homes : (other : ℕ → ℕ) (l : ℕ → ℕ) → ((w : ℕ) → Held w → home_of w ≡ other w) → Line n home_of Held l → Line n other Held l
  line_homes other l f s =
      record {
        free = s.free;
        only = s.only;
        once = s.once;
        all = s.all;
        after = λ p b c. rw (← f (l p) (s.only p b c)) (s.after p b c);
        way = λ p b c q i j. s.way p b c q (rw (← f (l p) (s.only p b c)) at i) j;
      }
