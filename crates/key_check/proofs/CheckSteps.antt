-- The steps of the check, by the laws of specs/Laws/Check.antt. Assumes nothing.
use Rattle.key_check.proofs.Prelude.{ℕ, ◌+◌, ◌-◌, ◌*◌, ◌≤◌, ◌<◌, ◌≡◌, sym, ap, ◌∙◌, Bool, List, true, false, dec_lt, ℕ_discrete, arith, eqb, eqb-true, eqb-false, take, drop, get_or, part_width, is_live, Decides, decides_yes, decides_no, IndexShape, LiveAt, slots, spread, tagged, key_part, Fits, Leads, ScannedSlots, own_sound, sound_count, sound_own}
use Rattle.lists.specs.Lists.{row_at}
use Rattle.cells.specs.Cells.{compact_hash, key_hash}
use Rattle.key_check.specs.inner.Check.{is_live_row, live_count, taken_count, ReachedAt, Reached, Own, KeyStoreSound}

-- the part of the store that is lent is the row
pub row_part : (t : IndexShape) (rows : List ℕ) (row : ℕ) → is_live (take (row * t.columns + t.columns - row * t.columns) (drop (row * t.columns) rows)) ≡ is_live_row t rows row
unfolding row_at is_live_row
row_part t rows row = ap is_live (part_width rows (row * t.columns) t.columns)

-- ---- the scan for a row

-- why the scan passes a slot: it is taken, has not the row's own word, and leads to no row with the key
pub record Past (t : IndexShape) (rows key : List ℕ) (hash row w : ℕ) : Type 0 where
  pub taken : w ≡ 0 → ⊥
  pub not_own : w ≡ tagged hash row → ⊥
  pub other : (i : ℕ) → Leads t rows key hash w i → ⊥

module _ (t : IndexShape) (rows store key : List ℕ) (hash row at passed : ℕ) (s : ScannedSlots (slots t) store (Past t rows key hash row) (spread (slots t) hash) at passed) where
  -- a slot at which the row was reached is not passed
  not_passed : (d : ℕ) → ReachedAt t rows store key hash row d → passed ≤ d
  not_passed d r = elim (dec_lt d passed) [ yes h ↦ absurd ((s.each d h).not_own r.there) | no h ↦ omega arith ]

  -- the scan does not reach the row past this slot
  stopped : (get_or store at 0 ≡ tagged hash row → ⊥) → ((d : ℕ) → passed < d → ReachedAt t rows store key hash row d → ⊥) → Decides (Reached t rows store key hash row) false
  stopped ne none = decides_no (λ r. last r.0 r.1 (ℕ_discrete passed r.0))
    where
      last : (d : ℕ) → ReachedAt t rows store key hash row d → Dec (passed ≡ d) → ⊥
      last d r (yes q) = ne (rw (s.here, q) r.there)
      last d r (no q) = none d (omega (arith, not_passed d r)) r

  pub reached_own : passed < slots t → get_or store at 0 ≡ tagged hash row → Decides (Reached t rows store key hash row) true
  reached_own h e =
      decides_yes (passed, record { below = h; there = rw (← s.here) e; taken = λ d k. (s.each d k).taken; others = λ d k. (s.each d k).other })

  pub reached_free : (get_or store at 0 ≡ tagged hash row → ⊥) → get_or store at 0 ≡ 0 → Decides (Reached t rows store key hash row) false
  reached_free ne z = stopped ne (λ d h r. r.taken passed h (rw (← s.here) z))

  pub reached_other : (get_or store at 0 ≡ tagged hash row → ⊥) → (i : ℕ) → Leads t rows key hash (get_or store at 0) i → Decides (Reached t rows store key hash row) false
  reached_other ne i l = stopped ne (λ d h r. r.others passed h i (rw (← s.here) l))

  pub reached_none : slots t ≤ passed → Decides (Reached t rows store key hash row) false
  reached_none h = decides_no (λ r. omega (arith, not_passed r.0 r.1, r.1.below))

-- the key that is lent, and its hash, are the row's own
pub own_decided : (t : IndexShape) (rows store : List ℕ) (row : ℕ) → t.keys ≤ t.columns
    → let lent = take (row * t.columns + t.keys - row * t.columns) (drop (row * t.columns) rows) in
    (hash : ℕ) → hash ≡ compact_hash (key_hash lent) → (r : Bool) → Decides (Reached t rows store lent hash row) r → Decides (Own t rows store row) r
own_decided t rows store row narrow hash e r d = rw (← key_part t rows row narrow, ← e) d

-- ---- all rows

module _ (t : IndexShape) (rows store : List ℕ) (f : Fits t rows store) where
  -- a live row that is not reached
  pub lost_row : (row : ℕ) → LiveAt t rows row → (Own t rows store row → ⊥) → Decides (KeyStoreSound t rows store) false
  lost_row row live none = decides_no (λ s. none (sound_own t rows store f s row live))

  -- all live rows are reached: the counts decide
  pub counts_decide : ((row : ℕ) → LiveAt t rows row → Own t rows store row) → (live taken : ℕ) → live ≡ live_count t rows → taken ≡ taken_count store (slots t)
      → Decides (KeyStoreSound t rows store) (eqb live taken)
  counts_decide own live taken e h =
      record {
        yes = λ q. own_sound t rows store f (sym h ∙ sym (eqb-true live taken q) ∙ e) own;
        no = λ q s. eqb-false live taken q (e ∙ sym (sound_count t rows store f s) ∙ sym h);
      }
