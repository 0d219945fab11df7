-- The answers of `put_new`, one law for each return path. Assumes nothing.
use Rattle.key_index.proofs.Prelude.{ℕ, ◌*◌, ◌≤◌, ◌<◌, ◌≡◌, refl, sym, true, false, false≢true, List, arith, get_or, set, IndexShape, slots, slot_met, spread, tagged, Leads, RowsFit, NewPutIs, free_slot, roomy, roomy_fits, keys_longer, zeros}
use Rattle.key_index.proofs.ScanSteps.{ScannedSlots}
use Rattle.key_index.proofs.FindSteps.{Past, found_free, found_row}
use Rattle.key_index.proofs.PutSteps.{put_here}
use Rattle.key_index.proofs.WindowSteps.{Taken}

-- a slot that is passed is taken, and leads to no row with the key
pub record Other (t : IndexShape) (rows key : List ℕ) (hash w : ℕ) : Type 0 where
  pub taken : Taken w
  pub past : Past t rows key hash w

module _ (t : IndexShape) (rows store key : List ℕ) (hash : ℕ) (few : t.rows ≤ 65536) where
  abbrev Walked : ℕ → ℕ → Type 0
  Walked at passed = ScannedSlots (slots t) store (Other t rows key hash) (spread (slots t) hash) at passed

  past_all : (at passed : ℕ) → Walked at passed → ScannedSlots (slots t) store (Past t rows key hash) (spread (slots t) hash) at passed
  past_all at passed w = record { here = w.here; inside = w.inside; each = λ e h. (w.each e h).past }

  taken_all : (at passed : ℕ) → Walked at passed → ScannedSlots (slots t) store Taken (spread (slots t) hash) at passed
  taken_all at passed w = record { here = w.here; inside = w.inside; each = λ e h. (w.each e h).taken }

  pub new_put : (at passed row : ℕ) → Walked at passed → passed < slots t → get_or store at 0 ≡ 0 → (word : ℕ) → word ≡ tagged hash row
      → NewPutIs t rows store key hash row true (set store at word)
  new_put at passed row w h free word e =
      record {
        put = λ _. put_here (slots t) store hash row at passed (taken_all at passed w) h free word e;
        new = λ _ hash-is sound. (found_free t rows store key hash few at passed (past_all at passed w) free).none hash-is sound refl;
        known = λ f. absurd (false≢true (sym f));
      }

  pub new_known : (at passed row other : ℕ) (store' : List ℕ) → Walked at passed → Leads t rows key hash (get_or store at 0) other → Taken (get_or store at 0)
      → NewPutIs t rows store key hash row false store'
  new_known at passed row other store' w l some =
      record {
        put = λ f. absurd (false≢true f);
        new = λ f. absurd (false≢true f);
        known = λ _ hash-is sound.
            let f = (found_row t rows store key hash few at passed other (past_all at passed w) l (omega arith)).at hash-is sound _ refl in
            (other, f.live, f.key_is);
      }

  -- the ring has a free slot if the store is sound
  pub new_none : (at passed row : ℕ) (store' : List ℕ) → Walked at passed → slots t ≤ passed → RowsFit t rows store → NewPutIs t rows store key hash row false store'
  new_none at passed row store' w h f =
      record {
        put = λ e. absurd (false≢true e);
        new = λ e. absurd (false≢true e);
        known = λ _ hash-is sound.
            let z = free_slot t (roomy t rows) store (roomy_fits t rows store f) (keys_longer t rows (zeros (t.room * t.columns)) f.within store sound) in
            let m = slot_met (slots t) (omega (arith, z.1)) (spread (slots t) hash) z.0 z.1 in
            absurd ((w.each m.0 (omega (arith, m.1))).taken (rw m.2 z.2));
      }
