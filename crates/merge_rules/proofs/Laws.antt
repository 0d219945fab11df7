-- Signed comparison, the paths through the functions of a cell, the loop iterations of `changes` and `make`, and the row that is
-- returned. Assumes nothing.
use Rattle.merge_rules.proofs.Prelude.{ℕ, suc, ◌+◌, ◌-◌, ◌*◌, ◌%◌, ◌^◌, ◌≤◌, ◌<◌, ◌≡◌, refl, sym, ap, ap₂, ◌∙◌, Bool, true, false, not, ◌&&◌, ◌||◌, List, [], ◌∷◌, ◌++◌, zero-add, dec_lt, cond, ℤ, add-one, arith, bit_xor, xor_block, xor_comm, xor_shifted, xor_zero_r, w32, cast_signed, cast_unsigned, int_min, int_max, of_z-to_z, lt_z, as_the_machine, eqb, length, take, drop, get_or, set, drop_of_length-le, drop-cons, take-length, eq-eqb, ne_eqb, copy_step, part_width, made_length, made_at}
use Rattle.lists.specs.Lists.{splice}
use Rattle.merge_rules.specs.Rules.{ruled_column, smaller, larger, taken, made_cell, made_from, changes_from, survivor}

-- ---- the smaller and the larger of two cells, compared as the machine's signed numbers

-- the top bit turned over
pub top_turned : (cell : ℕ) → cell < 2 ^ 32 → bit_xor cell (2 ^ 31) ≡ (cell + 2 ^ 31) % 2 ^ 32
top_turned cell h =
    elim (dec_lt cell (2 ^ 31)) [
      | yes k ↦
          let e : 1 * 2 ^ 31 + cell ≡ (cell + 2 ^ 31) % 2 ^ 32 = omega arith in
          xor_comm cell (2 ^ 31) ∙ xor_shifted 1 31 cell k ∙ e
      | no k ↦
          let r : cell - 2 ^ 31 < 2 ^ 31 = omega arith in
          let e : cell ≡ 1 * 2 ^ 31 + (cell - 2 ^ 31) = omega arith in
          let f : 0 * 2 ^ 31 + (cell - 2 ^ 31) ≡ (cell + 2 ^ 31) % 2 ^ 32 = omega arith in
          ap (λ (x : ℕ). bit_xor x (2 ^ 31)) e
          ∙ xor_block 31 1 1 (cell - 2 ^ 31) 0 r (omega arith)
          ∙ ap (λ (x : ℕ). 0 * 2 ^ 31 + x) (xor_zero_r (cell - 2 ^ 31))
          ∙ f
    ]

-- the bits of one of the two
bits_of : (a b : ℕ) → a < 2 ^ 32 → b < 2 ^ 32 → (t : Bool)
    → cast_unsigned w32 (cast_signed w32 (cast_unsigned w32 (cond t (cast_signed w32 b) (cast_signed w32 a)))) ≡ cond t b a
bits_of a b p q true = rw (of_z-to_z w32 b q) (of_z-to_z w32 b q)
bits_of a b p q false = rw (of_z-to_z w32 a p) (of_z-to_z w32 a p)

module _ (a b : ℕ) (p : a < 2 ^ 32) (q : b < 2 ^ 32) where
  pub smaller_law : (x y m : ℤ) → x ≡ cast_signed w32 a → y ≡ cast_signed w32 b
      → m ≡ int_min (cast_signed w32 (cast_unsigned w32 x)) (cast_signed w32 (cast_unsigned w32 y))
      → cast_unsigned w32 (cast_signed w32 (cast_unsigned w32 m)) ≡ smaller a b
  unfolding smaller
  smaller_law x y m ex ey em =
      rw (em, ex, ey, of_z-to_z w32 a p, of_z-to_z w32 b q, as_the_machine a, as_the_machine b) (bits_of a b p q (lt_z (cast_signed w32 b) (cast_signed w32 a)))

  pub larger_law : (x y m : ℤ) → x ≡ cast_signed w32 a → y ≡ cast_signed w32 b
      → m ≡ int_max (cast_signed w32 (cast_unsigned w32 y)) (cast_signed w32 (cast_unsigned w32 x))
      → cast_unsigned w32 (cast_signed w32 (cast_unsigned w32 m)) ≡ larger a b
  unfolding larger
  larger_law x y m ex ey em =
      rw (em, ex, ey, of_z-to_z w32 a p, of_z-to_z w32 b q, as_the_machine a, as_the_machine b) (bits_of a b p q (lt_z (cast_signed w32 a) (cast_signed w32 b)))

module _ (rule keys sort column old new : ℕ) where
  pub cell_ruled : ruled_column keys sort column ≡ true → made_cell rule keys sort column old new ≡ taken rule old new
  unfolding made_cell
  cell_ruled e = rw e

  module _ (e : ruled_column keys sort column ≡ false) where
    pub cell_new : column ≡ sort → made_cell rule keys sort column old new ≡ new
    unfolding made_cell
    cell_new q = rw (e, eq-eqb _ _ q)

    pub cell_old : (column ≡ sort → ⊥) → made_cell rule keys sort column old new ≡ old
    unfolding made_cell
    cell_old q = rw (e, ne_eqb _ _ q)

module _ (rule keys sort : ℕ) (old new : List ℕ) (i : ℕ) where
  -- from column i on
  pub old_ended : length old ≤ i → changes_from rule keys sort i (drop i old) (drop i new) ≡ false
  unfolding changes_from
  old_ended h = rw (drop_of_length-le old h)

  pub new_ended : length new ≤ i → changes_from rule keys sort i (drop i old) (drop i new) ≡ false
  new_ended h = rw (drop_of_length-le new h) (none (drop i old))
    where
      none : (l : List ℕ) → changes_from rule keys sort i l [] ≡ false
      none [] = unfold changes_from in refl
      none (a ∷ l) = unfold changes_from in refl

  module _ (ho : i < length old) (hn : i < length new) where
    turn : changes_from rule keys sort i (drop i old) (drop i new)
        ≡ ((ruled_column keys sort i && not (eqb (taken rule (get_or old i 0) (get_or new i 0)) (get_or old i 0))) || changes_from rule keys sort (suc i) (drop (suc i) old) (drop (suc i) new))
    unfolding changes_from
    turn = rw (drop-cons old i 0 ho, drop-cons new i 0 hn)

    -- b is what the cell's test answers
    module _ (b : Bool) (e : b ≡ (ruled_column keys sort i && not (eqb (taken rule (get_or old i 0) (get_or new i 0)) (get_or old i 0)))) where
      pub changed : b ≡ true → changes_from rule keys sort i (drop i old) (drop i new) ≡ true
      changed q = turn ∙ rw (← e, q)

      pub unchanged : b ≡ false
          → changes_from rule keys sort i (drop i old) (drop i new) ≡ changes_from rule keys sort (i + 1) (drop (i + 1) old) (drop (i + 1) new)
      unchanged q = turn ∙ rw (← e, q, add-one)

-- the row made is written cell by cell
module _ (rule keys sort : ℕ) (old new out : List ℕ) (n : length old ≡ length new) where
  pub make_step : (now : List ℕ) (i cell : ℕ) → i < length old → i < length out → now ≡ take i (made_from rule keys sort 0 old new) ++ drop i out
      → cell ≡ made_cell rule keys sort i (get_or old i 0) (get_or new i 0)
      → set now i cell ≡ take (i + 1) (made_from rule keys sort 0 old new) ++ drop (i + 1) out
  make_step now i cell h k e q =
      let p : i < length new = omega arith in
      let m : i < length (made_from rule keys sort 0 old new) = omega (arith, made_length rule keys sort old new n) in
      ap₂ (λ (d : List ℕ) (v : ℕ). set d i v) e (q ∙ sym (made_at rule keys sort old new i h p)) ∙ copy_step (made_from rule keys sort 0 old new) out i 0 m k

  pub make_end : (i : ℕ) → i ≡ length old → take i (made_from rule keys sort 0 old new) ++ drop i out ≡ splice out 0 (made_from rule keys sort 0 old new)
  unfolding splice
  make_end i e =
      let m : i ≡ length (made_from rule keys sort 0 old new) = omega (arith, made_length rule keys sort old new n) in
      rw (m, take-length (made_from rule keys sort 0 old new), zero-add (length (made_from rule keys sort 0 old new)))

-- the row returned, where b is what `changes` answers
module _ (rule keys sort width : ℕ) (rows : List ℕ) (old : ℕ) (pending : List ℕ) (new : ℕ) (b : Bool)
    (e : b ≡ changes_from rule keys sort 0 (take (old + width - old) (drop old rows)) (take (new + width - new) (drop new pending))) where
  answer : b ≡ changes_from rule keys sort 0 (take width (drop old rows)) (take width (drop new pending))
  answer = e ∙ ap₂ (changes_from rule keys sort 0) (part_width rows old width) (part_width pending new width)

  pub new_survives : b ≡ true → take (new + width - new) (drop new pending) ≡ survivor rule keys sort (take width (drop old rows)) (take width (drop new pending))
  unfolding survivor
  new_survives q = part_width pending new width ∙ rw (← answer, q)

  pub old_survives : b ≡ false → take (old + width - old) (drop old rows) ≡ survivor rule keys sort (take width (drop old rows)) (take width (drop new pending))
  unfolding survivor
  old_survives q = part_width rows old width ∙ rw (← answer, q)
