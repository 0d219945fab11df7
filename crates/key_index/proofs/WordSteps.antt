-- Decoding a slot's word: whether it has a row's number, the position of that row, and whether the row has a key. One law for each
-- return path of `names_row` and `is_hit`. Assumes nothing.
use Rattle.key_index.proofs.Prelude.{ℕ, ◌+◌, ◌-◌, ◌*◌, ◌/◌, ◌%◌, ◌^◌, ◌≤◌, ◌<◌, ◌≡◌, sym, ap, ◌∙◌, Bool, true, false, false≢true, List, arith, length, lt-ltb, leb, same, same_refl, same_eq, IndexShape, key_at, tagged_row, tagged_bits, tagged_of, names_yes, names_number, row_inside, RowsIn, Leads, HitIs}
use Rattle.key_index.specs.inner.Ring.{tagged, names_row}

pub names_some : (t : IndexShape) (w : ℕ) → (w % 2 ^ 17 ≡ 0 → ⊥) → leb (w % 2 ^ 17) t.rows ≡ names_row t w
unfolding names_row
names_some t w ne = let p : 0 < w % 2 ^ 17 = omega arith in rw (lt-ltb 0 (w % 2 ^ 17) p)

-- a word that names a row has its number plus 1, and the row is inside its store
pub record Named (t : IndexShape) (rows : List ℕ) (w : ℕ) : Type 0 where
  pub some : 0 < w % 2 ^ 17
  pub row : w % 2 ^ 17 - 1 < t.rows
  pub inside : (w % 2 ^ 17 - 1) * t.columns + t.columns ≤ length rows
  pub small : (w % 2 ^ 17 - 1) * t.columns + t.columns ≤ 524288

pub named : (t : IndexShape) (rows : List ℕ) (w : ℕ) → RowsIn t rows → names_row t w ≡ true → Named t rows w
named t rows w f e =
    let n = names_number t w e in
    let r : w % 2 ^ 17 - 1 < t.rows = omega (arith, n) in
    let i = row_inside t rows (w % 2 ^ 17 - 1) f r in
    record { some = n.0; row = r; inside = i.in_store; small = i.small }

-- a word that leads to a row has the hash's bits
pub leads_bits : (t : IndexShape) (rows key : List ℕ) (hash w i : ℕ) → t.rows ≤ 65536 → Leads t rows key hash w i → w / 2 ^ 17 ≡ hash % 2 ^ 15
leads_bits t rows key hash w i few l = ap (λ (x : ℕ). x / 2 ^ 17) l.tag ∙ tagged_bits hash i (omega (arith, l.below))

module _ (t : IndexShape) (rows key : List ℕ) (hash w row : ℕ) (few : t.rows ≤ 65536) where
  pub hit_bits : (w / 2 ^ 17 ≡ hash % 2 ^ 15 → ⊥) → HitIs t rows key hash w row false
  hit_bits ne = record { yes = λ e. absurd (false≢true e); no = λ _ i l. ne (leads_bits t rows key hash w i few l) }

  -- the word determines its row
  the_row : (i : ℕ) → Leads t rows key hash w i → w % 2 ^ 17 ≡ i + 1
  the_row i l = ap (λ (x : ℕ). x % 2 ^ 17) l.tag ∙ tagged_row hash i (omega (arith, l.below))

  pub hit_nameless : names_row t w ≡ false → HitIs t rows key hash w row false
  hit_nameless e =
      record {
        yes = λ y. absurd (false≢true y);
        no = λ _ i l. let q = the_row i l in false≢true (sym e ∙ names_yes t w (omega arith) (omega (arith, l.below)));
      }

  pub hit_cells : w / 2 ^ 17 ≡ hash % 2 ^ 15 → 0 < w % 2 ^ 17 → row ≡ w % 2 ^ 17 - 1 → row < t.rows → (r : Bool) → r ≡ same (key_at t rows row) key
      → HitIs t rows key hash w row r
  hit_cells bits some e h r q =
      record {
        yes = λ y. record { tag = tagged_of hash w bits some ∙ ap (tagged hash) (sym e); below = h; cells = same_eq _ _ (sym q ∙ y) };
        no = λ z i l.
            let f : i ≡ row = omega (arith, the_row i l) in
            false≢true (sym z ∙ q ∙ ap (λ (k : List ℕ). same k key) (ap (key_at t rows) (sym f) ∙ l.cells) ∙ same_refl key);
      }
