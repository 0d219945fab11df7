-- Laws of the rules: the cells of the resulting row, and what rules 0 and 1 are equal to. Assumes nothing.
use Rattle.std.specs.Prelude.{◌+◌, ◌≤◌, ◌<◌, ◌≡◌, ◌&&◌, ◌∷◌}
use Rattle.merge_rules.specs.Laws.Prelude.{ℕ, zero, suc, min, refl, sym, ap, ◌∙◌, inl, inr, Bool, true, false, cond, not, true≢false, List, [], none, some, add-zero, dec_lt, ℕ_discrete, arith, leb, eqb, lt_z, length, take, drop, get_or, length-take, get_or-take, ext_get_or, eq-eqb, ne_eqb, le-leb, lt-leb, same, split, same_refl, same_ne}
use Rattle.merge_rules.specs.Rules.{ruled_column, signed, smaller, larger, taken, made_cell, made_from, changes_from, ruled, survivor}

and-false : (b : Bool) → (b && false) ≡ false
and-false true = refl
and-false false = refl

-- ---- cells

pub ruled_key : (keys sort column : ℕ) → column < keys → ruled_column keys sort column ≡ false
unfolding ruled_column
ruled_key keys sort column h = rw (lt-leb _ _ h)

pub ruled_sort : (keys sort column : ℕ) → column ≡ sort → ruled_column keys sort column ≡ false
unfolding ruled_column
ruled_sort keys sort column e = rw (eq-eqb _ _ e) (and-false (leb keys column))

pub ruled_past : (keys sort column : ℕ) → keys ≤ column → ruled_column keys sort column ≡ not (eqb column sort)
unfolding ruled_column
ruled_past keys sort column h = rw (le-leb _ _ h)

pub ruled_other : (keys sort column : ℕ) → keys ≤ column → (column ≡ sort → ⊥) → ruled_column keys sort column ≡ true
ruled_other keys sort column h ne = ruled_past keys sort column h ∙ rw (ne_eqb _ _ ne)

module _ (rule keys sort column old new : ℕ) where
  -- "Key cells stay"
  pub made_key_cell : column < keys → old ≡ new → made_cell rule keys sort column old new ≡ old
  unfolding made_cell
  made_key_cell h e = elim (split (eqb column sort)) [ inl q ↦ rw (ruled_key keys sort column h, q) (sym e) | inr q ↦ rw (ruled_key keys sort column h, q) ]

  -- "the sort cell is the new row's"
  pub made_sort_cell : column ≡ sort → made_cell rule keys sort column old new ≡ new
  unfolding made_cell
  made_sort_cell e = rw (ruled_sort keys sort column e, eq-eqb _ _ e)

  -- the other cells are those that the rule takes
  pub made_other_cell : keys ≤ column → (column ≡ sort → ⊥) → made_cell rule keys sort column old new ≡ taken rule old new
  unfolding made_cell
  made_other_cell h ne = rw (ruled_other keys sort column h ne)

-- ---- rows

module _ (rule keys sort : ℕ) where
  length_from : (column : ℕ) (old new : List ℕ) → length old ≡ length new → length (made_from rule keys sort column old new) ≡ length old
  unfolding made_from
  length_from column [] new e = refl
  length_from column (a ∷ old) [] e = absurd (omega arith)
  length_from column (a ∷ old) (b ∷ new) e = ap suc (length_from (suc column) old new (omega arith))

  at_from : (column : ℕ) (old new : List ℕ) (i : ℕ) → i < length old → i < length new
      → get_or (made_from rule keys sort column old new) i 0 ≡ made_cell rule keys sort (column + i) (get_or old i 0) (get_or new i 0)
  unfolding made_from
  at_from column [] new i h k = absurd (omega arith)
  at_from column (a ∷ old) [] i h k = absurd (omega arith)
  at_from column (a ∷ old) (b ∷ new) zero h k = rw add-zero
  at_from column (a ∷ old) (b ∷ new) (suc i) h k =
      let e : suc column + i ≡ column + suc i = omega arith in
      at_from (suc column) old new i (omega arith) (omega arith) ∙ ap (λ (c : ℕ). made_cell rule keys sort c (get_or old i 0) (get_or new i 0)) e

  pub made_length : (old new : List ℕ) → length old ≡ length new → length (made_from rule keys sort 0 old new) ≡ length old
  made_length old new e = length_from 0 old new e

  pub made_at : (old new : List ℕ) (i : ℕ) → i < length old → i < length new
      → get_or (made_from rule keys sort 0 old new) i 0 ≡ made_cell rule keys sort i (get_or old i 0) (get_or new i 0)
  made_at old new i h k = let z : 0 + i ≡ i = omega arith in at_from 0 old new i h k ∙ ap (λ (c : ℕ). made_cell rule keys sort c (get_or old i 0) (get_or new i 0)) z

  -- "Key cells stay", where the keys agree
  pub made_keys : (old new : List ℕ) → length old ≡ length new → take keys old ≡ take keys new → take keys (made_from rule keys sort 0 old new) ≡ take keys old
  made_keys old new n e =
      ext_get_or 0 (take keys (made_from rule keys sort 0 old new)) (take keys old) (simp length-take (ap (min keys) (made_length old new n))) each
    where
      each : (i : ℕ) → i < length (take keys (made_from rule keys sort 0 old new)) → get_or (take keys (made_from rule keys sort 0 old new)) i 0 ≡ get_or (take keys old) i 0
      each i p =
          let q : i < min keys (length (made_from rule keys sort 0 old new)) = simp length-take at p in
          let k : i < keys = omega arith in
          let h : i < length old = omega (arith, made_length old new n) in
          let same : get_or old i 0 ≡ get_or new i 0 = sym (get_or-take keys old i 0 k) ∙ ap (λ (l : List ℕ). get_or l i 0) e ∙ get_or-take keys new i 0 k in
          get_or-take keys (made_from rule keys sort 0 old new) i 0 k
          ∙ made_at old new i h (omega arith)
          ∙ made_key_cell rule keys sort i (get_or old i 0) (get_or new i 0) k same
          ∙ sym (get_or-take keys old i 0 k)

  -- "the old row is kept", or there is a resulting row
  pub kept_of : (old new : List ℕ) → changes_from rule keys sort 0 old new ≡ false → ruled rule keys sort old new ≡ none
  unfolding ruled
  kept_of old new e = rw e

  pub made_of : (old new : List ℕ) → changes_from rule keys sort 0 old new ≡ true → ruled rule keys sort old new ≡ some (made_from rule keys sort 0 old new)
  unfolding ruled
  made_of old new e = rw e

-- ---- rule 0

taken_zero : (old new : ℕ) → taken 0 old new ≡ old
unfolding taken
taken_zero old new = refl

changes_zero : (keys sort column : ℕ) (old new : List ℕ) → changes_from 0 keys sort column old new ≡ false
unfolding changes_from
changes_zero keys sort column [] new = refl
changes_zero keys sort column (a ∷ old) [] = refl
changes_zero keys sort column (a ∷ old) (b ∷ new) =
    rw (taken_zero a b, eq-eqb a a refl, and-false (ruled_column keys sort column), changes_zero keys sort (suc column) old new)

-- "Rule 0 keeps the old row"
pub rule_zero : (keys sort : ℕ) (old new : List ℕ) → ruled 0 keys sort old new ≡ none
rule_zero keys sort old new = kept_of 0 keys sort old new (changes_zero keys sort 0 old new)

-- ---- rule 1

taken_one : (old new : ℕ) → taken 1 old new ≡ new
unfolding taken
taken_one old new = refl

module _ (keys sort : ℕ) (old new : List ℕ) (n : length old ≡ length new) (e : take keys old ≡ take keys new) where
  one_cell : (i : ℕ) → made_cell 1 keys sort i (get_or old i 0) (get_or new i 0) ≡ get_or new i 0
  one_cell i =
      elim (dec_lt i keys) [
        | yes k ↦
            let same : get_or old i 0 ≡ get_or new i 0 = sym (get_or-take keys old i 0 k) ∙ ap (λ (l : List ℕ). get_or l i 0) e ∙ get_or-take keys new i 0 k in
            made_key_cell 1 keys sort i (get_or old i 0) (get_or new i 0) k same ∙ same
        | no k ↦
            elim (ℕ_discrete i sort) [
              | yes q ↦ made_sort_cell 1 keys sort i (get_or old i 0) (get_or new i 0) q
              | no q ↦ made_other_cell 1 keys sort i (get_or old i 0) (get_or new i 0) (omega arith) q ∙ taken_one (get_or old i 0) (get_or new i 0)
            ]
      ]

  -- the row that rule 1 makes is the new one
  pub made_one : made_from 1 keys sort 0 old new ≡ new
  made_one =
      ext_get_or 0 (made_from 1 keys sort 0 old new) new (made_length 1 keys sort old new n ∙ n)
      (λ i h. made_at 1 keys sort old new i (omega (arith, made_length 1 keys sort old new n)) (omega (arith, made_length 1 keys sort old new n)) ∙ one_cell i)

  -- "Rule 1 takes the new row if a cell outside keys and sort column differs, else keeps the old"
  pub rule_one : ruled 1 keys sort old new ≡ cond (changes_from 1 keys sort 0 old new) (some new) none
  unfolding ruled
  rule_one = rw made_one

  -- under rules 0 and 1 the survivor is the rule's resulting row, or the old row
  pub survives : (rule : ℕ) → rule ≤ 1 → ruled rule keys sort old new ≡ cond (changes_from rule keys sort 0 old new) (some (survivor rule keys sort old new)) none
  unfolding survivor
  survives zero h = rule_zero keys sort old new ∙ rw (changes_zero keys sort 0 old new)
  survives (suc zero) h = rule_one ∙ elim (split (changes_from 1 keys sort 0 old new)) [ inl q ↦ rw q | inr q ↦ rw q ]
  survives (suc (suc rule)) h = absurd (omega arith)

-- the survivor is one of the two rows, so it has their length and their key
pub survivor_length : (rule keys sort : ℕ) (old new : List ℕ) → length old ≡ length new → length (survivor rule keys sort old new) ≡ length old
unfolding survivor
survivor_length rule keys sort old new n = elim (split (changes_from rule keys sort 0 old new)) [ inl e ↦ rw e (sym n) | inr e ↦ rw e ]

-- two equal cells change under no rule
cond_same : (b : Bool) (a : ℕ) → cond b a a ≡ a
cond_same true a = refl
cond_same false a = refl

taken_same : (rule a : ℕ) → taken rule a a ≡ a
unfolding taken smaller larger
taken_same rule a =
    rw (cond_same (lt_z (signed a) (signed a)) a, cond_same (eqb rule 3) a, cond_same (eqb rule 2) a, cond_same (eqb rule 1) a)

changes_same : (rule keys sort column : ℕ) (row : List ℕ) → changes_from rule keys sort column row row ≡ false
unfolding changes_from
changes_same rule keys sort column [] = refl
changes_same rule keys sort column (a ∷ row) =
    rw (taken_same rule a, eq-eqb a a refl, and-false (ruled_column keys sort column), changes_same rule keys sort (suc column) row)

-- a key cell changes under no rule, so only the cells after the key matter
changes_none : (rule keys sort column : ℕ) (old : List ℕ) → changes_from rule keys sort column old [] ≡ false
unfolding changes_from
changes_none rule keys sort column [] = refl
changes_none rule keys sort column (a ∷ old) = refl

changes_from_lem : (rule keys sort column n : ℕ) (old new : List ℕ) → column + n ≤ keys
    → changes_from rule keys sort column old new ≡ changes_from rule keys sort (column + n) (drop n old) (drop n new)
unfolding changes_from
changes_from_lem rule keys sort column zero old new h = rw add-zero
changes_from_lem rule keys sort column (suc n) [] new h = refl
changes_from_lem rule keys sort column (suc n) (a ∷ old) [] h = sym (changes_none rule keys sort (column + suc n) (drop n old))
changes_from_lem rule keys sort column (suc n) (a ∷ old) (b ∷ new) h =
    let e : suc column + n ≡ column + suc n = omega arith in
    rw (ruled_key keys sort column (omega arith), ← e) (changes_from_lem rule keys sort (suc column) n old new (omega arith))

pub changes_behind : (rule keys sort : ℕ) (old new : List ℕ) → changes_from rule keys sort 0 old new ≡ changes_from rule keys sort keys (drop keys old) (drop keys new)
changes_behind rule keys sort old new = let z : 0 + keys ≡ keys = omega arith in rw z at (changes_from_lem rule keys sort 0 keys old new (omega arith))

-- so the survivor determines whether a row is appended: after the key it has the old row's cells exactly if no cell outside keys
-- and sort column changes
pub survivor_old : (rule keys sort : ℕ) (old new : List ℕ) → same (drop keys (survivor rule keys sort old new)) (drop keys old) ≡ not (changes_from rule keys sort 0 old new)
unfolding survivor
survivor_old rule keys sort old new =
    elim (split (changes_from rule keys sort 0 old new)) [
      | inl e ↦ rw e (same_ne (drop keys new) (drop keys old) (λ q. true≢false (sym e ∙ changes_behind rule keys sort old new ∙ ap (changes_from rule keys sort keys (drop keys old)) q ∙ changes_same rule keys sort keys (drop keys old))))
      | inr e ↦ rw e (same_refl (drop keys old))
    ]

-- ---- the resulting row

module _ (rule keys sort : ℕ) where
  -- the first cell is a key cell
  pub made_first : (old new : List ℕ) → 1 ≤ keys → length old ≡ length new → take keys old ≡ take keys new
      → get_or (made_from rule keys sort 0 old new) 0 0 ≡ get_or new 0 0
  made_first old new h n e =
      sym (get_or-take keys (made_from rule keys sort 0 old new) 0 0 h)
      ∙ ap (λ (l : List ℕ). get_or l 0 0) (made_keys rule keys sort old new n e ∙ e)
      ∙ get_or-take keys new 0 0 h

  -- the resulting row is the rule's, and a ruled cell changes
  pub ruled_made : (old new row : List ℕ) → ruled rule keys sort old new ≡ some row
      → (changes_from rule keys sort 0 old new ≡ true) × (made_from rule keys sort 0 old new ≡ row)
  unfolding ruled
  ruled_made old new row e = go (changes_from rule keys sort 0 old new) refl e
    where
      go : (b : Bool) → changes_from rule keys sort 0 old new ≡ b → cond b (some (made_from rule keys sort 0 old new)) none ≡ some row
          → (changes_from rule keys sort 0 old new ≡ true) × (made_from rule keys sort 0 old new ≡ row)
      go true q f = (q, cc)
      go false q f = absurd (let z : ◌≡◌ {A = ℕ} 0 1 = cc in omega arith)
