-- A sound key store as a line of slots that starts at a free slot: the ring unrolled, and the converse. Assumes nothing.
use Rattle.std.specs.Prelude.{◌+◌, ◌-◌, ◌^◌, ◌≤◌, ◌<◌, ◌≡◌}
use Rattle.key_index.specs.Laws.Prelude.{ℕ, refl, sym, ap, ◌∙◌, List, dec_lt, ℕ_discrete, arith, get_or, IndexShape, LiveAt, key_at, slots, word, home, slot_from, ReachableAt, KeysSound, away}
use Rattle.key_index.specs.Laws.Ring.{word_some, word_row, home_below, slot_below, slot_then, slot_zero, slot_round, slot_one, away_below, away_slot}
use Rattle.key_index.specs.inner.Index.{Fits, home_of}
use Rattle.key_index.specs.Laws.Unrolled.{line, Line}

-- a word that the store must have
abbrev pub Stored : IndexShape → List ℕ → ℕ → Type 0
Stored t rows w = (row : ℕ) × LiveAt t rows row × (w ≡ word (key_at t rows row) row)

-- the distance from slot z to a word's home
unfoldable pub line_home : IndexShape → List ℕ → ℕ → ℕ → ℕ
line_home t rows z w = away (slots t) z (home_of t rows w)

-- the bounds of a table's numbers; it has at least one slot
pub record Small (t : IndexShape) : Type 0 where
  pub some : 1 ≤ t.room
  pub room : t.room ≤ 65536
  pub count : t.rows ≤ t.room

pub small : (t : IndexShape) (rows store : List ℕ) → Fits t rows store → Small t
small t rows store f = record { some = f.some; room = f.most; count = f.count }

module _ (t : IndexShape) (m : Small t) (rows : List ℕ) (z : ℕ) (b : z < slots t) where
  -- the home slot of a live row's word
  home_slot : (row : ℕ) → LiveAt t rows row → slot_from (slots t) z (line_home t rows z (word (key_at t rows row) row)) ≡ home (slots t) (key_at t rows row)
  unfolding line_home home_of
  home_slot row live =
      let k : row < 2 ^ 17 - 1 = omega (arith, live.0) in
      let e = word_row (key_at t rows row) row k in
      rw e (away_slot (slots t) z (home (slots t) (key_at t rows row)) b (home_below (slots t) (key_at t rows row) (omega arith)))

  home_in : (w : ℕ) → line_home t rows z w < slots t
  unfolding line_home
  home_in w = away_below (slots t) z (home_of t rows w) (omega arith)

  module _ (store : List ℕ) where
    -- a row d slots from its home is d positions after its home on the line: the path does not wrap past z
    on_line : (row d : ℕ) → LiveAt t rows row → get_or store z 0 ≡ 0 → ReachableAt (slots t) store (key_at t rows row) row d
        → line_home t rows z (word (key_at t rows row) row) + d < slots t
    on_line row d live free s =
        elim (dec_lt (k + d) (slots t)) [
          | yes h ↦ h
          | no h ↦ elim (dec_lt (slots t - k) d) [
            | yes i ↦ absurd (s.way (slots t - k) i (ap (λ (x : ℕ). get_or store x 0) back ∙ free))
            | no i ↦
                let e : d ≡ slots t - k = omega (arith, home_in w) in
                let f : w ≡ 0 = sym s.there ∙ ap (λ (x : ℕ). get_or store (slot_from (slots t) (home (slots t) (key_at t rows row)) x) 0) e ∙ ap (λ (x : ℕ). get_or store x 0) back ∙ free in
                absurd (omega (arith, word_some (key_at t rows row) row))
          ]
        ]
      where
        w : ℕ
        w = word (key_at t rows row) row

        k : ℕ
        k = line_home t rows z w

        back : slot_from (slots t) (home (slots t) (key_at t rows row)) (slots t - k) ≡ z
        back =
            let e : k + (slots t - k) ≡ slots t = omega (arith, home_in w) in
            ap (λ (x : ℕ). slot_from (slots t) x (slots t - k)) (sym (home_slot row live)) ∙ slot_then (slots t) z k (slots t - k) ∙ ap (slot_from (slots t) z) e ∙ slot_round (slots t) z b

    -- each slot from the home on, as a position of the line
    from_home : (row e : ℕ) → LiveAt t rows row
        → slot_from (slots t) (home (slots t) (key_at t rows row)) e ≡ slot_from (slots t) z (line_home t rows z (word (key_at t rows row) row) + e)
    from_home row e live = ap (λ (x : ℕ). slot_from (slots t) x e) (sym (home_slot row live)) ∙ slot_then (slots t) z _ e

    -- a word's position, by its distance from its home
    Reached : ℕ → ℕ → Type 0
    Reached p k = (d : ℕ) × (k + d ≡ p) × ((e : ℕ) → e < d → line (slots t) z store (k + e) ≡ 0 → ⊥)

    reached : KeysSound t rows store → get_or store z 0 ≡ 0 → (p : ℕ) → p < slots t → 0 < line (slots t) z store p → Reached p (line_home t rows z (line (slots t) z store p))
    unfolding line Reached
    reached s free p h c =
        let i = slot_below (slots t) z p (omega arith) in
        let o = s.only_live (slot_from (slots t) z p) i c in
        let row = o.0 in
        let live = o.1 in
        let f = s.leads row live in
        let d = f.0 in
        let w = word (key_at t rows row) row in
        let k = line_home t rows z w in
        let j : k + d < slots t = on_line row d live free f.1 in
        let there : get_or store (slot_from (slots t) z (k + d)) 0 ≡ w = ap (λ (x : ℕ). get_or store x 0) (sym (from_home row d live)) ∙ f.1.there in
        let same : slot_from (slots t) z p ≡ slot_from (slots t) z (k + d) = s.once (slot_from (slots t) z p) (slot_from (slots t) z (k + d)) i (slot_below (slots t) z (k + d) (omega arith)) c (o.2 ∙ sym there) in
        rw o.2
        (d, sym (slot_one (slots t) z p (k + d) b h j same), λ e g q. f.1.way e g (ap (λ (x : ℕ). get_or store x 0) (from_home row e live) ∙ q))

    pub unroll : KeysSound t rows store → get_or store z 0 ≡ 0 → Line (slots t) (line_home t rows z) (Stored t rows) (line (slots t) z store)
    unfolding line Reached
    unroll s free =
        record {
          free = ap (λ (x : ℕ). get_or store x 0) (slot_zero (slots t) z b) ∙ free;
          only = λ p h c. s.only_live (slot_from (slots t) z p) (slot_below (slots t) z p (omega arith)) c;
          once = λ p q h k c e. slot_one (slots t) z p q b h k (s.once _ _ (slot_below (slots t) z p (omega arith)) (slot_below (slots t) z q (omega arith)) c e);
          all = λ w m.
              let f = s.leads m.0 m.1 in
              let k = line_home t rows z (word (key_at t rows m.0) m.0) in
              (k + f.0, on_line m.0 f.0 m.1 free f.1, ap (λ (x : ℕ). get_or store x 0) (sym (from_home m.0 f.0 m.1)) ∙ f.1.there ∙ sym m.2);
          after = λ p h c. let f = reached s free p h c in omega (arith, f.1);
          way = λ p h c q i j.
              let k = line_home t rows z (get_or store (slot_from (slots t) z p) 0) in
              let f = reached s free p h c in
              elim (ℕ_discrete q p) [
                | yes e ↦ rw e c
                | no e ↦
                    let g : k + (q - k) ≡ q = omega arith in
                    let u : get_or store (slot_from (slots t) z q) 0 ≡ 0 → ⊥ = λ v. f.2 (q - k) (omega (arith, f.1)) (ap (λ (x : ℕ). get_or store (slot_from (slots t) z x) 0) g ∙ v) in
                    omega arith
              ];
        }

    pub roll : Line (slots t) (line_home t rows z) (Stored t rows) (line (slots t) z store) → KeysSound t rows store
    unfolding line
    roll s =
        record {
          only_live = λ slot h c. let e = at slot h in rw e at (s.only (away (slots t) z slot) (away_below (slots t) z slot (omega arith)) (rw e c));
          once = λ i j h k c e.
              let p = at i h in
              let q = at j k in
              let u = s.once (away (slots t) z i) (away (slots t) z j) (away_below (slots t) z i (omega arith)) (away_below (slots t) z j (omega arith)) (rw p c) (rw (p, q) e) in
              sym p ∙ ap (slot_from (slots t) z) u ∙ q;
          leads = λ row live. lead row live (s.all (word (key_at t rows row) row) (row, live, refl));
        }
      where
        at : (slot : ℕ) → slot < slots t → slot_from (slots t) z (away (slots t) z slot) ≡ slot
        at slot h = away_slot (slots t) z slot b h

        lead : (row : ℕ) → LiveAt t rows row → (p : ℕ) × (p < slots t) × (get_or store (slot_from (slots t) z p) 0 ≡ word (key_at t rows row) row)
            → (d : ℕ) × ReachableAt (slots t) store (key_at t rows row) row d
        lead row live f =
            let w = word (key_at t rows row) row in
            let k = line_home t rows z w in
            let p = f.0 in
            let c : 0 < get_or store (slot_from (slots t) z p) 0 = rw f.2 (word_some (key_at t rows row) row) in
            let i : k ≤ p = rw f.2 at (s.after p f.1 c) in
            let g : k + (p - k) ≡ p = omega arith in (
              p - k,
              record {
                below = omega (arith, f.1);
                there = ap (λ (x : ℕ). get_or store x 0) (from_home row (p - k) live) ∙ ap (λ (x : ℕ). get_or store (slot_from (slots t) z x) 0) g ∙ f.2;
                way = λ e j v.
                    let u : k ≤ k + e = omega arith in
                    let o = s.way p f.1 c (k + e) (rw f.2 u) (omega arith) in
                    let y : get_or store (slot_from (slots t) z (k + e)) 0 ≡ 0 = ap (λ (x : ℕ). get_or store x 0) (sym (from_home row e live)) ∙ v in
                    omega arith;
              },
            )
