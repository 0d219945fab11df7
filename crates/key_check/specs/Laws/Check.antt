-- Laws of counting rows and slots; and that a key store is sound, and live rows have different keys, exactly if each live row is
-- reached from its key's home and taken slots and live rows are equally many. Assumes nothing.
use Rattle.std.specs.Prelude.{ℕ, zero, suc, ◌+◌, ◌≤◌, ◌<◌, ◌≡◌, refl, Bool, true, false, not, ◌&&◌, List, eqb, get_or}
use Rattle.std.proofs.Common.{sym, ap, ◌∙◌, inl, inr, add-one, eq-eqb, ne_eqb, le-ltb, lt-ltb, ltb-true}
use Rattle.std.proofs.lemmas.Bool.{false≢true}
use Rattle.std.proofs.Math.Bool.{and-true}
use Rattle.std.proofs.Math.Decide.{dec_lt, ℕ_discrete}
use native.Mathlib.Omega.{arith}
use Rattle.lists.specs.Laws.Filter.{split}
use Rattle.cells.specs.Cells.{compact_hash, key_hash}
use Rattle.key_index.specs.declared.IndexShape.{IndexShape}
use Rattle.key_index.specs.Slots.{LiveAt, key_at, slots, word, home, slot_from, ReachableAt, KeysSound}
use Rattle.key_index.specs.inner.Ring.{spread, row_named}
use Rattle.key_index.specs.inner.Index.{Fits, KeysDiffer, Leads, FirstHit}
use Rattle.key_index.specs.Laws.Ring.{home_spread, home_below, slot_below, slot_one, word_tagged, word_some, word_row, word_same}
use Rattle.key_index.specs.Laws.Index.{first_one}
use Rattle.key_check.specs.inner.Check.{is_live_row, tally, live_count, is_taken, taken_count, Own, KeyStoreSound}

module _ (test : ℕ → Bool) (n : ℕ) where
  suc_yes : test n ≡ true → tally test (suc n) ≡ suc (tally test n)
  unfolding tally
  suc_yes e = rw e

  suc_no : test n ≡ false → tally test (suc n) ≡ tally test n
  unfolding tally
  suc_no e = rw e

  -- adding one number to the range, as the code counts
  pub tally_yes : test n ≡ true → tally test (n + 1) ≡ tally test n + 1
  tally_yes e = rw (add-one n, suc_yes e) (sym (add-one (tally test n)))

  pub tally_no : test n ≡ false → tally test (n + 1) ≡ tally test n
  tally_no e = rw (add-one n, suc_no e)

pub tally_le : (test : ℕ → Bool) (n : ℕ) → tally test n ≤ n
unfolding tally
tally_le test zero = omega arith
tally_le test (suc n) = let h = tally_le test n in elim (split (test n)) [ inl e ↦ rw e (omega arith) | inr e ↦ rw e (omega arith) ]

tally_same : (f g : ℕ → Bool) (n : ℕ) → ((i : ℕ) → i < n → f i ≡ g i) → tally f n ≡ tally g n
unfolding tally
tally_same f g zero e = refl
tally_same f g (suc n) e = rw (e n (omega arith), tally_same f g n (λ i h. e i (omega arith)))

-- the test, with one number excluded
unfoldable pub without : (ℕ → Bool) → ℕ → ℕ → Bool
without test k i = test i && not (eqb i k)

pub without_other : (test : ℕ → Bool) (k i : ℕ) → (i ≡ k → ⊥) → without test k i ≡ test i
unfolding without
without_other test k i ne = rw (ne_eqb i k ne) (and-true (test i))

without_same : (test : ℕ → Bool) (k i : ℕ) → i ≡ k → without test k i ≡ false
unfolding without
without_same test k i e = rw (eq-eqb i k e) (elim (split (test i)) [ inl u ↦ rw u | inr u ↦ rw u ])

pub tally_without : (test : ℕ → Bool) (k n : ℕ) → k < n → test k ≡ true → tally test n ≡ suc (tally (without test k) n)
tally_without test k zero h e = absurd (omega arith)
tally_without test k (suc n) h e =
    elim (ℕ_discrete n k) [
      | yes q ↦
          let u : test n ≡ true = ap test q ∙ e in
          let v = tally_same test (without test k) n (λ i m. sym (without_other test k i (omega arith))) in
          suc_yes test n u ∙ ap suc (v ∙ sym (suc_no (without test k) n (without_same test k n q)))
      | no q ↦
          let m = tally_without test k n (omega arith) e in
          let o = without_other test k n q in
          elim (split (test n)) [
            | inl u ↦ suc_yes test n u ∙ ap suc (m ∙ sym (suc_yes (without test k) n (o ∙ u)))
            | inr u ↦ suc_no test n u ∙ m ∙ ap suc (sym (suc_no (without test k) n (o ∙ u)))
          ]
    ]

-- Each number that passes f has a partner of its own that passes g. So at least as many numbers pass g.
pub matched : (R : ℕ → ℕ → Type 0) (f : ℕ → Bool) (n : ℕ) (g : ℕ → Bool) (m : ℕ) → ((p : ℕ) → p < n → f p ≡ true → (r : ℕ) × (r < m) × (g r ≡ true) × R p r)
    → ((p q r : ℕ) → p < n → q < n → R p r → R q r → p ≡ q) → tally f n ≤ tally g m
matched R f zero g m has own = unfold tally in omega arith
matched R f (suc n) g m has own =
    elim (split (f n)) [
      | inl e ↦
          let h = has n (omega arith) e in
          let r = h.0 in
          let i = matched R f n (without g r) m
          (λ p k u.
          let a = has p (omega arith) u in
          let ne : a.0 ≡ r → ⊥ = λ q. (let z : p ≡ n = own p n r (omega arith) (omega arith) (rw q at a.3) h.3 in omega arith) in
          (a.0, a.1, without_other g r a.0 ne ∙ a.2, a.3))
          (λ p q s k l. own p q s (omega arith) (omega arith)) in
          omega (arith, suc_yes f n e, tally_without g r m h.1 h.2)
      | inr e ↦ rw (suc_no f n e) (matched R f n g m (λ p k. has p (omega arith)) (λ p q s k l. own p q s (omega arith) (omega arith)))
    ]

-- ---- live rows and their slots

pub live_is : (t : IndexShape) (rows : List ℕ) (row : ℕ) → row < t.rows → is_live_row t rows row ≡ true → LiveAt t rows row
unfolding is_live_row
live_is t rows row h e = (h, e)

pub is_live_lem : (t : IndexShape) (rows : List ℕ) (row : ℕ) → LiveAt t rows row → is_live_row t rows row ≡ true
unfolding is_live_row
is_live_lem t rows row s = s.1

taken_is : (store : List ℕ) (slot : ℕ) → is_taken store slot ≡ true → 0 < get_or store slot 0
unfolding is_taken
taken_is store slot e = ltb-true 0 (get_or store slot 0) e

pub is_taken_lem : (store : List ℕ) (slot : ℕ) → 0 < get_or store slot 0 → is_taken store slot ≡ true
unfolding is_taken
is_taken_lem store slot h = lt-ltb 0 (get_or store slot 0) h

pub not_taken : (store : List ℕ) (slot : ℕ) → get_or store slot 0 ≤ 0 → is_taken store slot ≡ false
unfolding is_taken
not_taken store slot h = le-ltb 0 (get_or store slot 0) h

module _ (t : IndexShape) (rows store : List ℕ) (f : Fits t rows store) where
  -- a slot has the word of a row
  abbrev Has : ℕ → ℕ → Type 0
  Has slot row = get_or store slot 0 ≡ word (key_at t rows row) row

  -- a slot that has the word of a row is taken
  taken : (slot row : ℕ) → Has slot row → is_taken store slot ≡ true
  taken slot row e = is_taken_lem store slot (rw e (word_some (key_at t rows row) row))

  -- a slot has the word of one row
  one_row : (i j slot : ℕ) → i < t.rows → j < t.rows → Has slot i → Has slot j → i ≡ j
  one_row i j slot h k u v = word_same _ _ i j (omega (arith, f.count, f.most)) (omega (arith, f.count, f.most)) (sym u ∙ v)

  -- ---- from the check to soundness

  module _ (count : taken_count store (slots t) ≡ live_count t rows) (own : (row : ℕ) → LiveAt t rows row → Own t rows store row) where
    reachable : (row : ℕ) → LiveAt t rows row → (d : ℕ) × ReachableAt (slots t) store (key_at t rows row) row d
    reachable row live =
        let o = own row live in
        let e = home_spread (slots t) _ (key_at t rows row) refl in (
          o.0,
          record {
            below = o.1.below;
            there = rw (← e) (o.1.there ∙ word_tagged _ row (key_at t rows row) refl);
            way = λ d h. rw (← e) (o.1.taken d h);
          },
        )

    slot_of : (row : ℕ) → LiveAt t rows row → (slot : ℕ) × (slot < slots t) × Has slot row
    slot_of row live = let p = reachable row live in (slot_from (slots t) _ p.0, slot_below (slots t) _ p.0 (omega (arith, f.some)), p.1.there)

    -- live rows do not all have a slot other than a taken one
    not_spared : (a : ℕ) → a < slots t → 0 < get_or store a 0 → ((row : ℕ) → LiveAt t rows row → (slot : ℕ) × (slot < slots t) × (slot ≡ a → ⊥) × Has slot row) → ⊥
    not_spared a h c places =
        let m = matched (λ row slot. Has slot row) (is_live_row t rows) t.rows (without (is_taken store) a) (slots t)
        (λ row k e.
        let p = places row (live_is t rows row k e) in
        (p.0, p.1, without_other (is_taken store) a p.0 p.2 ∙ taken p.0 row p.3, p.3))
        (λ i j slot. one_row i j slot) in
        omega (arith, m, count, tally_without (is_taken store) a (slots t) h (is_taken_lem store a c))

    -- no two slots have the same word: one of them would be spared
    once : (a b : ℕ) → a < slots t → b < slots t → 0 < get_or store a 0 → get_or store a 0 ≡ get_or store b 0 → a ≡ b
    once a b h k c e =
        elim (ℕ_discrete a b) [
          | yes q ↦ q
          | no ne ↦ absurd (not_spared a h c (λ row live.
              let p = slot_of row live in
              elim (ℕ_discrete p.0 a) [
                | yes q ↦ (b, k, (λ v. ne (sym v)), sym e ∙ ap (λ (i : ℕ). get_or store i 0) (sym q) ∙ p.2)
                | no q ↦ (p.0, p.1, q, p.2)
              ]))
        ]

    -- a taken slot has the word of a live row: otherwise it would be spared
    only_live : (slot : ℕ) → slot < slots t → 0 < get_or store slot 0 → (row : ℕ) × LiveAt t rows row × Has slot row
    only_live slot h c =
        elim (dec_lt r t.rows) [
          | no i ↦ absurd (other (λ live e. i live.0))
          | yes i ↦ elim (split (is_live_row t rows r)) [
            | inr e ↦ absurd (other (λ live _. false≢true (sym e ∙ is_live_lem t rows r live)))
            | inl e ↦ elim (ℕ_discrete (get_or store slot 0) (word (key_at t rows r) r)) [
              | yes q ↦ (r, live_is t rows r i e, q)
              | no q ↦ absurd (other (λ _. q))
            ]
          ]
        ]
      where
        r : ℕ
        r = row_named (get_or store slot 0)

        other : (LiveAt t rows r → Has slot r → ⊥) → ⊥
        other none =
            not_spared slot h c (λ row live.
            let p = slot_of row live in (
              p.0,
              p.1,
              (λ q.
                  let e : Has slot row = rw q at p.2 in
                  let z : r ≡ row = ap row_named e ∙ word_row (key_at t rows row) row (omega (arith, live.0, f.count, f.most)) in
                  none (rw z live) (rw z e)),
              p.2,
            ))

    own_first : (row : ℕ) → LiveAt t rows row → (d : ℕ) × FirstHit t rows store (key_at t rows row) (compact_hash (key_hash (key_at t rows row))) row d
    own_first row live = let o = own row live in (o.0, record { leads = record { tag = o.1.there; below = live.0; cells = refl }; way = o.1.others })

    differ : KeysDiffer t rows
    differ i j a b e =
        let p = own_first i a in
        let q = own_first j b in
        first_one t rows store (key_at t rows j) (compact_hash (key_hash (key_at t rows j))) i j p.0 q.0 (rw e at p.1) q.1

    pub own_sound : KeyStoreSound t rows store
    own_sound = record { keys_sound = record { only_live = only_live; once = once; leads = reachable }; keys_differ = differ }

  -- ---- from soundness to the check

  module _ (s : KeyStoreSound t rows store) where
    k : KeysSound t rows store
    k = s.keys_sound

    -- each taken slot has a live row of its own, and each live row a slot
    pub sound_count : taken_count store (slots t) ≡ live_count t rows
    sound_count =
        let x = matched Has (is_taken store) (slots t) (is_live_row t rows) t.rows
        (λ slot h d. let o = k.only_live slot h (taken_is store slot d) in (o.0, o.1.0, is_live_lem t rows o.0 o.1, o.2))
        (λ a b row h j u v. k.once a b h j (rw u (word_some (key_at t rows row) row)) (u ∙ sym v)) in
        let y = matched (λ row slot. Has slot row) (is_live_row t rows) t.rows (is_taken store) (slots t)
        (λ row h d.
        let p = k.leads row (live_is t rows row h d) in
        let slot = slot_from (slots t) (home (slots t) (key_at t rows row)) p.0 in
        (slot, slot_below (slots t) _ p.0 (omega (arith, f.some)), taken slot row p.1.there, p.1.there))
        (λ i j slot. one_row i j slot) in
        omega (arith, x, y)

    -- each live row is reached
    module _ (row : ℕ) (live : LiveAt t rows row) where
      abbrev key : List ℕ
      key = key_at t rows row

      abbrev from : ℕ → ℕ
      from d = slot_from (slots t) (home (slots t) key) d

      same_home : spread (slots t) (compact_hash (key_hash key)) ≡ home (slots t) key
      same_home = home_spread (slots t) _ key refl

      -- no slot before the row's own leads to a row with its key: that row would be live, so it would be the same row
      first : (d : ℕ) → ReachableAt (slots t) store key row d → (e : ℕ) → e < d → (i : ℕ) → Leads t rows key (compact_hash (key_hash key)) (get_or store (from e) 0) i → ⊥
      first d p e h i l =
          let some : 0 < slots t = omega (arith, f.some) in
          let b = slot_below (slots t) (home (slots t) key) e some in
          let w : get_or store (from e) 0 ≡ word key i = l.tag ∙ word_tagged _ i key refl in
          let o = k.only_live (from e) b (rw w (word_some key i)) in
          let q : o.0 ≡ i = word_same _ _ o.0 i (omega (arith, o.1.0, f.count, f.most)) (omega (arith, l.below, f.count, f.most)) (sym o.2 ∙ w) in
          let z : i ≡ row = s.keys_differ i row (rw q at o.1) live l.cells in
          let same : from e ≡ from d = k.once (from e) (from d) b (slot_below (slots t) _ d some) (rw w (word_some key i)) (w ∙ ap (word key) z ∙ sym p.there) in
          let x : e ≡ d = slot_one (slots t) (home (slots t) key) e d (home_below (slots t) key some) (omega (arith, p.below)) p.below same in
          omega arith

      pub sound_own : Own t rows store row
      sound_own =
          let p = k.leads row live in (
            p.0,
            record {
              below = p.1.below;
              there = rw same_home (p.1.there ∙ sym (word_tagged _ row key refl));
              taken = λ e h. rw same_home (p.1.way e h);
              others = λ e h i. rw same_home (first p.0 p.1 e h i);
            },
          )
