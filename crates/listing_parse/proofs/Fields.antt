-- The line and the field that begin at an offset of a text, byte by byte, and what is to come of a line. Assumes nothing.
use Rattle.listing_parse.proofs.Prelude.{ℕ, suc, ◌≤◌, ◌<◌, ◌≡◌, refl, sym, ap, ◌∙◌, ◌⊎◌, inl, inr, Bool, true, false, not, ◌&&◌, and-true, and-false, false≢true, List, [], ◌∷◌, map, length-map, arith, length, drop, get_or, eqb, eq-eqb, ne_eqb, eqb-true, eqb-false, split, and_left, and_right, is_line, first_comma, first_more, others_comma, others_more, is_line_lem, no_bytes, bool_ext, line_letter, line_decimals, fields_length_lem, pieces_some}
use Rattle.lists.specs.Lists.{all}
use Rattle.levels_text.specs.Lines.{fields, value_from, is_decimal, letter, numbers}
use Rattle.levels_text.specs.Laws.Lines.{first, others}
use Rattle.listing_spec.specs.inner.Checking.{longer, pieces, is_nil, begins}
use Rattle.listing_parse.specs.inner.Lines.{line_from, field_from}

-- ---- the first line, and the lines after it

unfoldable pub rest_from : List ℕ → List (List ℕ)
rest_from bytes = drop 1 (pieces bytes)

pub pieces_cons : (bytes : List ℕ) → pieces bytes ≡ line_from bytes ∷ rest_from bytes
unfolding line_from rest_from
pieces_cons bytes = cons (pieces bytes) (pieces_some bytes)
  where
    cons : (ps : List (List ℕ)) → is_nil ps ≡ false → ps ≡ get_or ps 0 [] ∷ drop 1 ps
    cons [] e = absurd (false≢true (sym e ∙ (unfold is_nil in refl)))
    cons (p ∷ ps) e = refl

line_end : (bytes : List ℕ) → line_from (10 ∷ bytes) ≡ []
unfolding line_from pieces
line_end bytes = refl

pub rest_end : (bytes : List ℕ) → rest_from (10 ∷ bytes) ≡ pieces bytes
unfolding rest_from pieces
rest_end bytes = refl

module _ (byte : ℕ) (bytes : List ℕ) (inside : byte ≡ 10 → ⊥) where
  pieces_more : pieces (byte ∷ bytes) ≡ (byte ∷ line_from bytes) ∷ rest_from bytes
  unfolding pieces longer
  pieces_more = rw (ne_eqb byte 10 inside, pieces_cons bytes)

  line_more : line_from (byte ∷ bytes) ≡ byte ∷ line_from bytes
  line_more = unfold line_from in ap (λ (ps : List (List ℕ)). get_or ps 0 []) pieces_more

  pub rest_more : rest_from (byte ∷ bytes) ≡ rest_from bytes
  rest_more = unfold rest_from in ap (λ (ps : List (List ℕ)). drop 1 ps) pieces_more

-- ---- the first field, and the other fields of its line

abbrev others_from : List ℕ → List (List ℕ)
others_from bytes = others (line_from bytes)

field_end : (bytes : List ℕ) → field_from (10 ∷ bytes) ≡ []
unfolding field_from
field_end bytes = rw (line_end bytes) (unfold first fields in refl)

pub others_end : (bytes : List ℕ) → others_from (10 ∷ bytes) ≡ []
others_end bytes = rw (line_end bytes) (unfold others fields in refl)

pub line_comma : (bytes : List ℕ) → line_from (44 ∷ bytes) ≡ 44 ∷ line_from bytes
line_comma bytes = line_more 44 bytes (λ e. omega (arith, e))

field_comma : (bytes : List ℕ) → field_from (44 ∷ bytes) ≡ []
unfolding field_from
field_comma bytes = rw (line_comma bytes) (first_comma (line_from bytes))

pub others_from_comma : (bytes : List ℕ) → others_from (44 ∷ bytes) ≡ field_from bytes ∷ others_from bytes
unfolding field_from
others_from_comma bytes = rw (line_comma bytes) (others_comma (line_from bytes))

module _ (byte : ℕ) (bytes : List ℕ) (comma : byte ≡ 44 → ⊥) (end : byte ≡ 10 → ⊥) where
  pub field_more : field_from (byte ∷ bytes) ≡ byte ∷ field_from bytes
  unfolding field_from
  field_more = rw (line_more byte bytes end) (first_more byte (line_from bytes) comma)

  others_from_more : others_from (byte ∷ bytes) ≡ others_from bytes
  others_from_more = rw (line_more byte bytes end) (others_more byte (line_from bytes) comma)

-- a field ends at a comma or a newline; otherwise its first byte is there
pub field_cases : (byte : ℕ) (bytes : List ℕ) → (field_from (byte ∷ bytes) ≡ []) ⊎ (field_from (byte ∷ bytes) ≡ byte ∷ field_from bytes)
field_cases byte bytes =
    elim (split (eqb byte 44)) [
      | inl e ↦ inl (rw (eqb-true byte 44 e) (field_comma bytes))
      | inr e ↦ elim (split (eqb byte 10)) [
        | inl f ↦ inl (rw (eqb-true byte 10 f) (field_end bytes))
        | inr f ↦ inr (field_more byte bytes (eqb-false byte 44 e) (eqb-false byte 10 f))
      ]
    ]

-- after the field: a comma or the end of the line, the same fields and the same lines
pub record Behind (bytes behind : List ℕ) : Type 0 where
  pub field : field_from behind ≡ []
  pub others : others_from behind ≡ others_from bytes
  pub rest : rest_from behind ≡ rest_from bytes

pub field_behind : (bytes : List ℕ) → Behind bytes (drop (length (field_from bytes)) bytes)
field_behind [] = rw none (record { field = none; others = refl; rest = refl })
  where
    none : field_from [] ≡ []
    none = unfold field_from line_from pieces first fields in refl
field_behind (byte ∷ bytes) =
    elim (split (eqb byte 44)) [
      | inl e ↦ rw (eqb-true byte 44 e, field_comma bytes) (record { field = field_comma bytes; others = refl; rest = refl })
      | inr e ↦ elim (split (eqb byte 10)) [
        | inl f ↦ rw (eqb-true byte 10 f, field_end bytes) (record { field = field_end bytes; others = refl; rest = refl })
        | inr f ↦
            let b = field_behind bytes in
            let comma = eqb-false byte 44 e in
            let end = eqb-false byte 10 f in
            rw (field_more byte bytes comma end)
            (record { field = b.field; others = b.others ∙ sym (others_from_more byte bytes comma end); rest = b.rest ∙ sym (rest_more byte bytes end) })
      ]
    ]

line_inside : (bytes : List ℕ) → is_nil (rest_from bytes) ≡ false → length (line_from bytes) < length bytes
line_inside [] e = absurd (false≢true (sym e ∙ (unfold rest_from pieces is_nil in refl)))
line_inside (byte ∷ bytes) e =
    elim (split (eqb byte 10)) [
      | inl f ↦ rw (eqb-true byte 10 f, line_end bytes) (omega arith)
      | inr f ↦
          let more = line_inside bytes (rw (rest_more byte bytes (eqb-false byte 10 f)) at e) in
          rw (line_more byte bytes (eqb-false byte 10 f)) (omega (arith, more))
    ]

-- ---- what is to come of a line

eqb_suc : (a b : ℕ) → eqb (suc a) (suc b) ≡ eqb a b
eqb_suc a b =
    elim (split (eqb a b)) [
      | inl e ↦ eq-eqb (suc a) (suc b) (ap suc (eqb-true a b e)) ∙ sym e
      | inr e ↦ ne_eqb (suc a) (suc b) (λ same. eqb-false a b e (omega (arith, same))) ∙ sym e
    ]

-- the rest of the line is so many decimals, each after a comma, and a newline
unfoldable pub comes : ℕ → List ℕ → Bool
comes count bytes =
    not (is_nil (rest_from bytes)) && (eqb (length (field_from bytes)) 0 && all is_decimal (others_from bytes) && eqb (length (others_from bytes)) count)

module _ (count : ℕ) (bytes : List ℕ) where
  pub comes_field : (length (field_from bytes) ≡ 0 → ⊥) → comes count bytes ≡ false
  unfolding comes
  comes_field some = rw (ne_eqb (length (field_from bytes)) 0 some, and-false (not (is_nil (rest_from bytes))))

  pub comes_more : comes (suc count) (44 ∷ bytes) ≡ (is_decimal (field_from bytes) && comes count (drop (length (field_from bytes)) bytes))
  unfolding comes all
  comes_more =
      let b = field_behind bytes in
      rw (rest_more 44 bytes (λ e. omega (arith, e)), field_comma bytes, others_from_comma bytes, eqb_suc (length (others_from bytes)) count, b.field, b.others, b.rest)
      (swapped (not (is_nil (rest_from bytes))) (is_decimal (field_from bytes)) (all is_decimal (others_from bytes)) (eqb (length (others_from bytes)) count))
    where
      swapped : (a b c d : Bool) → (a && (true && (b && c) && d)) ≡ (b && (a && (true && c && d)))
      swapped true true c d = refl
      swapped true false c d = refl
      swapped false true c d = refl
      swapped false false c d = refl

pub comes_end : (bytes : List ℕ) → comes 0 (10 ∷ bytes) ≡ true
unfolding comes all
comes_end bytes = rw (rest_end bytes, pieces_some bytes, field_end bytes, others_end bytes)

module _ (byte : ℕ) (bytes : List ℕ) where
  pub comes_comma : (count : ℕ) → comes (suc count) (byte ∷ bytes) ≡ true → byte ≡ 44
  comes_comma count e =
      elim (split (eqb byte 44)) [
        | inl f ↦ eqb-true byte 44 f
        | inr f ↦ absurd (false≢true (sym (none (eqb-false byte 44 f)) ∙ e))
      ]
    where
      none : (byte ≡ 44 → ⊥) → comes (suc count) (byte ∷ bytes) ≡ false
      none comma =
          elim (split (eqb byte 10)) [
            | inl f ↦ rw (eqb-true byte 10 f) (unfold comes in rw (others_end bytes, ne_eqb 0 (suc count) (λ z. omega (arith, z)), and-false (eqb (length (field_from (10 ∷ bytes))) 0 && all is_decimal []), and-false (not (is_nil (rest_from (10 ∷ bytes))))))
            | inr f ↦ comes_field (suc count) (byte ∷ bytes) (λ z. omega (arith, z, ap length (field_more byte bytes comma (eqb-false byte 10 f))))
          ]

  pub comes_newline : comes 0 (byte ∷ bytes) ≡ true → byte ≡ 10
  comes_newline e =
      elim (split (eqb byte 10)) [
        | inl f ↦ eqb-true byte 10 f
        | inr f ↦ absurd (false≢true (sym (none (eqb-false byte 10 f)) ∙ e))
      ]
    where
      none : (byte ≡ 10 → ⊥) → comes 0 (byte ∷ bytes) ≡ false
      none end =
          elim (split (eqb byte 44)) [
            | inl f ↦ rw (eqb-true byte 44 f) (unfold comes in rw (others_from_comma bytes, ne_eqb (suc (length (others_from bytes))) 0 (λ z. omega (arith, z)), and-false (eqb (length (field_from (44 ∷ bytes))) 0 && all is_decimal (field_from bytes ∷ others_from bytes)), and-false (not (is_nil (rest_from (44 ∷ bytes))))))
            | inr f ↦ comes_field 0 (byte ∷ bytes) (λ z. omega (arith, z, ap length (field_more byte bytes (eqb-false byte 44 f) end)))
          ]

-- what comes is before the newline
pub comes_inside : (count : ℕ) (bytes : List ℕ) → comes count bytes ≡ true → length (line_from bytes) < length bytes
unfolding comes
comes_inside count bytes e =
    line_inside bytes (more (is_nil (rest_from bytes)) (and_left (not (is_nil (rest_from bytes))) (eqb (length (field_from bytes)) 0 && all is_decimal (others_from bytes) && eqb (length (others_from bytes)) count) e))
  where
    more : (b : Bool) → not b ≡ true → b ≡ false
    more true e = absurd (false≢true e)
    more false e = refl

-- ---- a whole line

module _ (byte : ℕ) (bytes : List ℕ) (comma : byte ≡ 44 → ⊥) (end : byte ≡ 10 → ⊥) where
  pub line_numbers : numbers (line_from (byte ∷ bytes)) ≡ map (value_from 0) (others_from bytes)
  unfolding numbers others
  line_numbers = ap (map (value_from 0)) (others_from_more byte bytes comma end)

-- a letter, and what comes after it; so few decimals are at most 120 bytes long
module _ (width byte : ℕ) (comma : byte ≡ 44 → ⊥) where
  module _ (bytes : List ℕ) where
    abbrev none : Bool
    none = eqb (length (first bytes)) 0

    abbrev decimals : Bool
    decimals = all is_decimal (others bytes)

    abbrev wide : Bool
    wide = eqb (length (others bytes)) width

    count : length (numbers (byte ∷ bytes)) ≡ length (others bytes)
    unfolding numbers others
    count = length-map (others (byte ∷ bytes)) (value_from 0) ∙ ap length (others_more byte bytes comma)

    one : length (first (byte ∷ bytes)) ≡ suc (length (first bytes))
    one = ap length (first_more byte bytes comma)

    line_tests : width ≤ 9 → (is_line (byte ∷ bytes) && eqb (letter (byte ∷ bytes)) byte && eqb (length (numbers (byte ∷ bytes))) width) ≡ (none && decimals && wide)
    unfolding letter
    line_tests few = bool_ext _ _ to from
      where
        to : (is_line (byte ∷ bytes) && eqb byte byte && eqb (length (numbers (byte ∷ bytes))) width) ≡ true → (none && decimals && wide) ≡ true
        to e =
            let line = and_left (is_line (byte ∷ bytes)) (eqb byte byte) (and_left (is_line (byte ∷ bytes) && eqb byte byte) (eqb (length (numbers (byte ∷ bytes))) width) e) in
            let many = eqb-true (length (numbers (byte ∷ bytes))) width (and_right (is_line (byte ∷ bytes) && eqb byte byte) (eqb (length (numbers (byte ∷ bytes))) width) e) in
            let nil : length (first bytes) ≡ 0 = omega (arith, one, line_letter (byte ∷ bytes) line) in
            rw (eq-eqb (length (first bytes)) 0 nil, eq-eqb (length (others bytes)) width (sym count ∙ many), and-true decimals, ← others_more byte bytes comma) (line_decimals (byte ∷ bytes) line)

        from : (none && decimals && wide) ≡ true → (is_line (byte ∷ bytes) && eqb byte byte && eqb (length (numbers (byte ∷ bytes))) width) ≡ true
        from e =
            let nil = eqb-true (length (first bytes)) 0 (and_left none decimals (and_left (none && decimals) wide e)) in
            let each = and_right none decimals (and_left (none && decimals) wide e) in
            let many = eqb-true (length (others bytes)) width (and_right (none && decimals) wide e) in
            let short : length (byte ∷ bytes) ≤ 120 = omega (arith, fields_length_lem bytes nil each, many) in
            let line : is_line (byte ∷ bytes) ≡ true = is_line_lem (byte ∷ bytes) short (one ∙ ap suc nil) (rw (others_more byte bytes comma) each) in
            rw (line, eq-eqb byte byte refl, eq-eqb (length (numbers (byte ∷ bytes))) width (count ∙ many))

  module _ (end : byte ≡ 10 → ⊥) (bytes : List ℕ) where
    pub begins_comes : width ≤ 9 → begins byte width (pieces (byte ∷ bytes)) ≡ comes width bytes
    unfolding comes field_from
    begins_comes few = rw (pieces_more byte bytes end) (unfold begins in rw (line_tests (line_from bytes) few))

-- another letter
pub begins_other : (first width byte : ℕ) (bytes : List ℕ) → (byte ≡ first → ⊥) → begins first width (pieces (byte ∷ bytes)) ≡ false
begins_other first width byte bytes ne =
    elim (split (eqb byte 10)) [
      | inl e ↦ rw (eqb-true byte 10 e) (unfold begins pieces in rw (no_bytes [] (omega arith), and-false (not (is_nil (pieces bytes)))))
      | inr e ↦ rw (pieces_more byte bytes (eqb-false byte 10 e)) (unfold begins letter in rw (ne_eqb byte first ne, and-false (is_line (byte ∷ line_from bytes)), and-false (not (is_nil (rest_from bytes)))))
    ]
