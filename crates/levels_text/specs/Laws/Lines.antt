-- Laws of fields and decimals in the order in which a reader needs them: byte by byte up to a comma or the end, and field by field.
-- Assumes nothing.
use Rattle.std.specs.Prelude.{◌+◌, ◌≤◌, ◌<◌, ◌≡◌, ◌&&◌, ◌∷◌}
use Rattle.levels_text.specs.Laws.Prelude.{ℕ, refl, ap, inl, inr, true, false, and-false, or-false, List, [], add-one, arith, leb, eqb, length, drop, get_or, length-drop, drop_of_length-le, drop-cons, drop-drop, eq-eqb, ne_eqb, le-leb, lt-leb, eqb-true, eqb-false, leb-true, split}
use Rattle.lists.specs.Lists.{all, elem}
use Rattle.levels_text.specs.Lines.{prepend_to_first, fields, is_decimal, is_line, letter, numbers, is_form, of_forms}

-- ---- the first field, and the others

unfoldable pub first : List ℕ → List ℕ
first bytes = get_or (fields bytes) 0 []

unfoldable pub others : List ℕ → List (List ℕ)
others bytes = drop 1 (fields bytes)

-- there is always a first field
pub fields_cons : (bytes : List ℕ) → fields bytes ≡ first bytes ∷ others bytes
unfolding fields first others prepend_to_first
fields_cons [] = refl
fields_cons (byte ∷ bytes) =
    elim (split (eqb byte 44)) [ inl e ↦ rw e | inr e ↦ rw (e, fields_cons bytes) ]

pub first_comma : (bytes : List ℕ) → first (44 ∷ bytes) ≡ []
unfolding fields first
first_comma bytes = refl

pub first_more : (byte : ℕ) (bytes : List ℕ) → (byte ≡ 44 → ⊥) → first (byte ∷ bytes) ≡ byte ∷ first bytes
unfolding fields first prepend_to_first
first_more byte bytes ne = rw (ne_eqb _ _ ne, fields_cons bytes)

pub others_comma : (bytes : List ℕ) → others (44 ∷ bytes) ≡ first bytes ∷ others bytes
unfolding fields others
others_comma bytes = fields_cons bytes

pub others_more : (byte : ℕ) (bytes : List ℕ) → (byte ≡ 44 → ⊥) → others (byte ∷ bytes) ≡ others bytes
unfolding fields others prepend_to_first
others_more byte bytes ne = rw (ne_eqb _ _ ne, fields_cons bytes)

pub length_first : (bytes : List ℕ) → length (first bytes) ≤ length bytes
length_first [] = unfold first fields in omega arith
length_first (byte ∷ bytes) =
    let below = length_first bytes in
    elim (split (eqb byte 44)) [
      | inl e ↦ rw (eqb-true byte 44 e, first_comma bytes) (omega arith)
      | inr e ↦ rw (first_more byte bytes (eqb-false byte 44 e)) (omega arith)
    ]

-- after the first field comes a comma or the end
pub first_behind : (bytes : List ℕ) → first (drop (length (first bytes)) bytes) ≡ []
first_behind [] = unfold first fields in refl
first_behind (byte ∷ bytes) =
    let more = first_behind bytes in
    elim (split (eqb byte 44)) [
      | inl e ↦ rw (eqb-true byte 44 e, first_comma bytes) (first_comma bytes)
      | inr e ↦ rw (first_more byte bytes (eqb-false byte 44 e)) more
    ]

-- the other fields begin there
pub others_behind : (bytes : List ℕ) → others (drop (length (first bytes)) bytes) ≡ others bytes
others_behind [] = unfold first fields in refl
others_behind (byte ∷ bytes) =
    let more = others_behind bytes in
    elim (split (eqb byte 44)) [
      | inl e ↦ rw (eqb-true byte 44 e, first_comma bytes)
      | inr e ↦ rw (first_more byte bytes (eqb-false byte 44 e), others_more byte bytes (eqb-false byte 44 e)) more
    ]

-- ---- the field at an offset of a line, and those after it

module _ (line : List ℕ) (at : ℕ) where
  pub first_end : length line ≤ at → first (drop at line) ≡ []
  unfolding first fields
  first_end past = rw (drop_of_length-le line past)

  pub others_end : length line ≤ at → others (drop at line) ≡ []
  unfolding others fields
  others_end past = rw (drop_of_length-le line past)

  module _ (inside : at < length line) where
    pub first_at_comma : get_or line at 0 ≡ 44 → first (drop at line) ≡ []
    first_at_comma e = rw (drop-cons line at 0 inside, e) (first_comma _)

    pub first_at_more : (get_or line at 0 ≡ 44 → ⊥) → first (drop at line) ≡ get_or line at 0 ∷ first (drop (at + 1) line)
    first_at_more ne = rw (add-one, drop-cons line at 0 inside) (first_more _ _ ne)

    pub others_at_more : (get_or line at 0 ≡ 44 → ⊥) → others (drop at line) ≡ others (drop (at + 1) line)
    others_at_more ne = rw (add-one, drop-cons line at 0 inside) (others_more _ _ ne)

    pub others_at_comma : get_or line at 0 ≡ 44 → others (drop at line) ≡ first (drop (at + 1) line) ∷ others (drop (at + 1) line)
    others_at_comma e = rw (add-one, drop-cons line at 0 inside, e) (others_comma _)

  -- after the field
  pub next_first : first (drop (at + length (first (drop at line))) line) ≡ []
  next_first = rw (← drop-drop (length (first (drop at line))) at line) (first_behind (drop at line))

  pub next_others : others (drop (at + length (first (drop at line))) line) ≡ others (drop at line)
  next_others = rw (← drop-drop (length (first (drop at line))) at line) (others_behind (drop at line))

  pub next_inside : at ≤ length line → at + length (first (drop at line)) ≤ length line
  next_inside inside = omega (arith, length_first (drop at line), length-drop at line)

-- ---- which lines are a letter and decimals

module _ (line : List ℕ) where
  pub too_long : 120 < length line → is_line line ≡ false
  unfolding is_line
  too_long h = rw (lt-leb (length line) 120 h)

  pub no_letter : (length (first line) ≡ 1 → ⊥) → is_line line ≡ false
  unfolding is_line first
  no_letter ne = rw (ne_eqb (length (first line)) 1 ne, and-false (leb (length line) 120))

  pub no_bytes : length line < 1 → is_line line ≡ false
  no_bytes none = no_letter (λ e. let l = length_first line in omega arith)

  pub comma_first : 1 ≤ length line → get_or line 0 0 ≡ 44 → is_line line ≡ false
  comma_first some comma =
      let none : length (first line) ≡ 0 = ap length (first_at_comma line 0 some comma) in
      no_letter (λ e. omega arith)

  pub no_decimal : all is_decimal (others line) ≡ false → is_line line ≡ false
  unfolding is_line others
  no_decimal e = rw (e, and-false (leb (length line) 120 && eqb (length (get_or (fields line) 0 [])) 1))

  pub is_line_lem : length line ≤ 120 → length (first line) ≡ 1 → all is_decimal (others line) ≡ true → is_line line ≡ true
  unfolding is_line first others
  is_line_lem short one all_hold = rw (le-leb (length line) 120 short, eq-eqb (length (get_or (fields line) 0 [])) 1 one, all_hold)

-- a line that is not a letter and decimals is of no valid form
pub no_forms : (line : List ℕ) → is_line line ≡ false → of_forms line ≡ false
unfolding of_forms
no_forms line e = rw e

pub line_forms : (line : List ℕ) → is_line line ≡ true → of_forms line ≡ is_form (letter line) (length (numbers line))
unfolding of_forms
line_forms line e = rw e

-- of the letters without numbers, the last one left
pub bare_last : (letter : ℕ) → (letter ≡ 77 → ⊥) → (letter ≡ 86 → ⊥) → (letter ≡ 76 → ⊥) → (letter ≡ 85 → ⊥) → (letter ≡ 67 → ⊥) → elem letter (77 ∷ 86 ∷ 76 ∷ 85 ∷ 67 ∷ 71 ∷ []) ≡ eqb letter 71
unfolding elem
bare_last letter m v l u c = rw (ne_eqb letter 77 m, ne_eqb letter 86 v, ne_eqb letter 76 l, ne_eqb letter 85 u, ne_eqb letter 67 c, or-false (eqb letter 71))

-- ---- how many numbers a line of a form has

module _ (letter count : ℕ) where
  pub form_open : letter ≡ 79 → is_form letter count ≡ true → count ≡ 6
  unfolding is_form
  form_open e form = eqb-true count 6 (rw e at form)

  pub form_insert : letter ≡ 73 → is_form letter count ≡ true → 1 ≤ count
  unfolding is_form
  form_insert e form = leb-true 1 count (rw e at form)

  pub form_by_key : letter ≡ 82 → is_form letter count ≡ true → 1 ≤ count
  unfolding is_form
  form_by_key e form = leb-true 1 count (rw e at form)

  pub form_by_row : letter ≡ 75 → is_form letter count ≡ true → 2 ≤ count
  unfolding is_form
  form_by_row e form = leb-true 2 count (rw e at form)

  pub form_range : letter ≡ 70 → is_form letter count ≡ true → count ≡ 3
  unfolding is_form
  form_range e form = eqb-true count 3 (rw e at form)
