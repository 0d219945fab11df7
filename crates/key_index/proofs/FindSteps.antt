-- The answers of `find` and `look_up`, one law for each return path: at a free slot, after a full round, and at a slot that leads
-- to the row; and how `look_up` reaches a slot. Assumes nothing.
use Rattle.key_index.proofs.Prelude.{ℕ, ◌+◌, ◌/◌, ◌%◌, ◌^◌, ◌≤◌, ◌<◌, ◌≡◌, sym, ap, ◌∙◌, List, add-zero, arith, get_or, dec_lt, ℕ_discrete, IndexShape, None, Some, Hit, LiveAt, key_at, slots, word, home, slot_from, ReachableAt, KeysSound, spread, home_spread, word_tagged, word_some, word_same, tagged_row, Leads, FoundAt, FoundIs, Ahead}
use Rattle.cells.specs.Cells.{compact_hash, key_hash}
use Rattle.key_index.proofs.ScanSteps.{ScannedSlots, begin_past}
use Rattle.key_index.proofs.WordSteps.{leads_bits}

-- a lookup passes a slot that leads to no row with the key
pub record Past (t : IndexShape) (rows key : List ℕ) (hash w : ℕ) : Type 0 where
  pub other : (i : ℕ) → Leads t rows key hash w i → ⊥

-- it passes one without the hash's bits
pub past_bits : (t : IndexShape) (rows key : List ℕ) (hash w : ℕ) → t.rows ≤ 65536 → (w / 2 ^ 17 ≡ hash % 2 ^ 15 → ⊥) → Past t rows key hash w
past_bits t rows key hash w few other = record { other = λ i l. other (leads_bits t rows key hash w i few l) }

-- a word that leads to a row determines it
pub leads_some : (t : IndexShape) (rows key : List ℕ) (hash w row : ℕ) → t.rows ≤ 65536 → Leads t rows key hash w row → 0 < w % 2 ^ 17
leads_some t rows key hash w row few l = omega (arith, ap (λ (x : ℕ). x % 2 ^ 17) l.tag, tagged_row hash row (omega (arith, l.below)))

none_some : (hit : Hit) → None ≡ Some hit → ⊥
none_some hit e = cc

module _ (t : IndexShape) (rows store key : List ℕ) (hash : ℕ) (few : t.rows ≤ 65536) where
  abbrev Passed : ℕ → ℕ → Type 0
  Passed at passed = ScannedSlots (slots t) store (Past t rows key hash) (spread (slots t) hash) at passed

  -- the slot of a live row with the key leads to it
  stands_leads : hash ≡ compact_hash (key_hash key) → (i d : ℕ) → LiveAt t rows i → key_at t rows i ≡ key → ReachableAt (slots t) store key i d
      → Leads t rows key hash (get_or store (slot_from (slots t) (spread (slots t) hash) d) 0) i
  stands_leads e i d live k s =
      record { tag = rw (home_spread (slots t) hash key e) s.there ∙ sym (word_tagged hash i key e); below = live.0; cells = k }

  -- so no scan passed it
  not_passed : (at passed : ℕ) → Passed at passed → hash ≡ compact_hash (key_hash key) → (i d : ℕ) → LiveAt t rows i → key_at t rows i ≡ key
      → ReachableAt (slots t) store key i d → passed ≤ d
  not_passed at passed w e i d live k s = elim (dec_lt d passed) [ yes h ↦ absurd ((w.each d h).other i (stands_leads e i d live k s)) | no h ↦ omega arith ]

  stands : KeysSound t rows store → (i : ℕ) → LiveAt t rows i → key_at t rows i ≡ key → (d : ℕ) × ReachableAt (slots t) store key i d
  stands sound i live k = rw k at (sound.leads i live)

  module _ (at passed : ℕ) (w : Passed at passed) where
    -- no row is found if none with the key can be past the scanned slots
    found_none : (hash ≡ compact_hash (key_hash key) → (i d : ℕ) → passed ≤ d → ReachableAt (slots t) store key i d → ⊥) → FoundIs t rows store key hash None
    found_none f =
        record {
          row_in = λ hit e. absurd (none_some hit e);
          slot_in = λ hit e. absurd (none_some hit e);
          first = λ hit e. absurd (none_some hit e);
          none = λ e sound _ i live k. let s = stands sound i live k in f e i s.0 (not_passed at passed w e i s.0 live k s.1) s.1;
          at = λ _ _ hit e. absurd (none_some hit e);
        }

    -- the scan reached a free slot
    pub found_free : get_or store at 0 ≡ 0 → FoundIs t rows store key hash None
    found_free z = found_none (λ e i d h s.
        let f : get_or store (slot_from (slots t) (home (slots t) key) passed) 0 ≡ 0 = rw (← home_spread (slots t) hash key e, ← w.here) z in
        elim (ℕ_discrete passed d) [
          | yes q ↦ let g : word key i ≡ 0 = sym s.there ∙ rw (← q) f in omega (arith, word_some key i)
          | no q ↦ s.way passed (omega arith) f
        ])

    -- the scan made a full round
    pub found_round : slots t ≤ passed → FoundIs t rows store key hash None
    found_round m = found_none (λ e i d h s. omega (arith, s.below))

  -- the home slot leads to no row with the key, and no slot between it and the d-th has the hash's bits
  pub passed_to : (start d : ℕ) → start ≡ spread (slots t) hash → ((i : ℕ) → Leads t rows key hash (get_or store start 0) i → ⊥)
      → Ahead (slots t) store start hash d → Passed (start + d) d
  passed_to start d e no_row a =
      begin_past (slots t) store (Past t rows key hash) (spread (slots t) hash) start d e a.below past
    where
      past : (k : ℕ) → k < d → Past t rows key hash (get_or store (start + k) 0)
      past k h =
          record {
            other = λ i l.
                elim (ℕ_discrete k 0) [
                  | yes q ↦ no_row i (rw (q, add-zero start) at l)
                  | no q ↦ a.others k (omega arith) h (leads_bits t rows key hash _ i few l)
                ];
          }

  -- a slot leads to the row, and none passed does
  pub found_row : (at passed row : ℕ) → Passed at passed → Leads t rows key hash (get_or store at 0) row → 0 < get_or store at 0 → FoundIs t rows store key hash (Some (record { row = row; slot = at }))
  found_row at passed row walked l some =
      record {
        row_in = λ hit e. rw (← (the_hit hit e)) l.below;
        slot_in = λ hit e. rw (← (the_hit hit e)) walked.inside;
        first = λ hit e. rw (← (the_hit hit e)) (passed, record { leads = rw (← walked.here) l; way = λ e h. (walked.each e h).other });
        none = λ _ _ e. absurd (none_some _ (sym e));
        at = λ e sound hit f. rw (← (the_hit hit f)) (the_one e sound);
      }
    where
      the_hit : (hit : Hit) → Some (record { row = row; slot = at }) ≡ Some hit → record { row = row; slot = at } ≡ hit
      the_hit hit e = cc

      the_one : hash ≡ compact_hash (key_hash key) → KeysSound t rows store → FoundAt t rows store key row at
      the_one e sound =
          let o = sound.only_live at walked.inside some in
          let w : get_or store at 0 ≡ word key row = l.tag ∙ word_tagged hash row key e in
          let q : o.0 ≡ row = word_same _ _ o.0 row (omega (arith, o.1.0)) (omega (arith, l.below)) (sym o.2 ∙ w) in
          record { live = rw q at o.1; key_is = l.cells; slot_in = walked.inside; word_is = w }
