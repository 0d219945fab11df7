-- A line that `levels` reads is the written form of its letter and numbers, and a line that is written is read back. Assumes
-- nothing.
use Rattle.std.specs.Prelude.{◌*◌, ◌≤◌, ◌≡◌, ◌&&◌, ◌∷◌, ◌++◌}
use Rattle.listing_spec.specs.Laws.Prelude.{ℕ, suc, refl, sym, ap, ◌∙◌, inl, inr, true, false, false≢true, List, [], map, append-nil, arith, leb, eqb, length, length-append, length-map, get_or, drop, eqb-true, eqb-false, ne_eqb, le-leb, leb-true, all_head, all_tail, elem_append, split, and_left, and_right, length_fields, decimal_value, decimal_read}
use Rattle.lists.specs.Lists.{all, flatten, elem}
use Rattle.levels_text.specs.Lines.{value_from, is_decimal, is_line, letter, numbers, fields}
use Rattle.levels_text.specs.Written.{decimal, field, text_line}
use Rattle.levels_text.specs.Laws.Lines.{first, others, first_comma, first_more, others_comma, others_more, is_line_lem}
use Rattle.levels_text.specs.Laws.Digits.{digit}
use Rattle.listing_spec.specs.Listings.{are_numbers}
use Rattle.listing_spec.specs.Laws.Decimals.{decimal_back, decimal_parts}

-- ---- a line that is read is the line that was written

-- the fields, with commas between them, are the line
fields_joined : (bytes : List ℕ) → bytes ≡ first bytes ++ flatten (map (λ (f : List ℕ). 44 ∷ f) (others bytes))
unfolding flatten
fields_joined [] = unfold first others fields in refl
fields_joined (byte ∷ bytes) =
    elim (split (eqb byte 44)) [
      | inl e ↦ rw (eqb-true byte 44 e, first_comma bytes, others_comma bytes) (ap (λ (l : List ℕ). 44 ∷ l) (fields_joined bytes))
      | inr e ↦ rw (first_more byte bytes (eqb-false byte 44 e), others_more byte bytes (eqb-false byte 44 e)) (ap (λ (l : List ℕ). byte ∷ l) (fields_joined bytes))
    ]

fields_back : (fs : List (List ℕ)) → all is_decimal fs ≡ true → map field (map (value_from 0) fs) ≡ map (λ (f : List ℕ). 44 ∷ f) fs
unfolding field
fields_back [] e = refl
fields_back (f ∷ fs) e = rw (decimal_back f (all_head is_decimal f fs e), fields_back fs (all_tail is_decimal f fs e))

-- decimals, each after a comma
pub fields_length_lem : (bytes : List ℕ) → length (first bytes) ≡ 0 → all is_decimal (others bytes) ≡ true → length bytes ≤ 11 * length (others bytes)
fields_length_lem bytes none e =
    let joined : flatten (map field (map (value_from 0) (others bytes))) ≡ flatten (map (λ (f : List ℕ). 44 ∷ f) (others bytes)) = ap flatten (fields_back (others bytes) e) in
    let parts = ap length (fields_joined bytes) in
    let sum = length-append (first bytes) (flatten (map (λ (f : List ℕ). 44 ∷ f) (others bytes))) in
    omega (arith, parts, sum, ap length joined, length_fields (map (value_from 0) (others bytes)), length-map (others bytes) (value_from 0))

fields_fit : (fs : List (List ℕ)) → all is_decimal fs ≡ true → are_numbers (map (value_from 0) fs) ≡ true
unfolding are_numbers all
fields_fit [] e = refl
fields_fit (f ∷ fs) e = rw (le-leb (value_from 0 f) 4294967295 (decimal_parts f (all_head is_decimal f fs e)).fits) (fields_fit fs (all_tail is_decimal f fs e))

module _ (line : List ℕ) (e : is_line line ≡ true) where
  pub line_decimals : all is_decimal (others line) ≡ true
  unfolding is_line others
  line_decimals = and_right (leb (length line) 120 && eqb (length (get_or (fields line) 0 [])) 1) (all is_decimal (drop 1 (fields line))) e

  pub line_letter : length (first line) ≡ 1
  unfolding is_line first
  line_letter =
      eqb-true (length (first line)) 1
      (and_right (leb (length line) 120) (eqb (length (get_or (fields line) 0 [])) 1) (and_left (leb (length line) 120 && eqb (length (get_or (fields line) 0 [])) 1) (all is_decimal (drop 1 (fields line))) e))

  pub line_written : line ≡ letter line ∷ flatten (map field (numbers line))
  unfolding numbers others letter
  line_written = one (first line) line_letter (fields_joined line ∙ ap (λ (l : List (List ℕ)). first line ++ flatten l) (sym (fields_back (others line) line_decimals)))
    where
      one : (f : List ℕ) {rest : List ℕ} → length f ≡ 1 → line ≡ f ++ rest → line ≡ get_or line 0 0 ∷ rest
      one [] h p = absurd (omega (arith, h))
      one (x ∷ []) {rest} h p = p ∙ ap (λ (y : ℕ). y ∷ rest) (sym (ap (λ (l : List ℕ). get_or l 0 0) p))
      one (x ∷ y ∷ f) h p = absurd (omega (arith, h))

  pub line_numbers : are_numbers (numbers line) ≡ true
  unfolding numbers others
  line_numbers = fields_fit (others line) line_decimals

-- ---- a line that is written is read back

-- a decimal has neither comma nor newline
digits_without : (x : ℕ) → digit x ≡ false → (f : List ℕ) → all digit f ≡ true → elem x f ≡ false
unfolding elem
digits_without x other [] e = refl
digits_without x other (y ∷ f) e =
    let ne : x ≡ y → ⊥ = λ p. false≢true (sym other ∙ (rw p (all_head digit y f e))) in
    rw (ne_eqb x y ne) (digits_without x other f (all_tail digit y f e))

decimal_without : (x n : ℕ) → digit x ≡ false → n ≤ 4294967295 → elem x (decimal n) ≡ false
decimal_without x n other fits = digits_without x other (decimal n) (decimal_parts (decimal n) (decimal_read n fits)).digits

has_tail : (x y : ℕ) (f : List ℕ) → elem x (y ∷ f) ≡ false → (y ≡ x → ⊥) × (elem x f ≡ false)
unfolding elem
has_tail x y f e =
    elim (split (eqb x y)) [
      | inl p ↦ absurd (false≢true (sym (rw p at e)))
      | inr p ↦ (λ q. eqb-false x y p (sym q), rw p at e)
    ]

-- a field without a comma, and the bytes after it
first_field : (f bytes : List ℕ) → elem 44 f ≡ false → first (f ++ bytes) ≡ f ++ first bytes
first_field [] bytes e = refl
first_field (x ∷ f) bytes e =
    let t = has_tail 44 x f e in
    first_more x (f ++ bytes) t.0 ∙ ap (λ (l : List ℕ). x ∷ l) (first_field f bytes t.1)

others_field : (f bytes : List ℕ) → elem 44 f ≡ false → others (f ++ bytes) ≡ others bytes
others_field [] bytes e = refl
others_field (x ∷ f) bytes e =
    let t = has_tail 44 x f e in
    others_more x (f ++ bytes) t.0 ∙ others_field f bytes t.1

module _ (n : ℕ) (ns : List ℕ) (e : are_numbers (n ∷ ns) ≡ true) where
  numbers_first : n ≤ 4294967295
  unfolding are_numbers
  numbers_first = leb-true n 4294967295 (all_head (λ m. leb m 4294967295) n ns e)

  numbers_rest : are_numbers ns ≡ true
  unfolding are_numbers
  numbers_rest = all_tail (λ m. leb m 4294967295) n ns e

-- several fields in order
written_first : (ns : List ℕ) → first (flatten (map field ns)) ≡ []
unfolding flatten field
written_first [] = unfold first fields in refl
written_first (n ∷ ns) = first_comma (decimal n ++ flatten (map field ns))

written_others : (ns : List ℕ) → are_numbers ns ≡ true → others (flatten (map field ns)) ≡ map decimal ns
unfolding flatten field
written_others [] e = unfold others fields in refl
written_others (n ∷ ns) e =
    let free = decimal_without 44 n refl (numbers_first n ns e) in
    others_comma (decimal n ++ flatten (map field ns))
    ∙ rw (first_field (decimal n) (flatten (map field ns)) free, others_field (decimal n) (flatten (map field ns)) free, written_first ns, append-nil (decimal n), written_others ns (numbers_rest n ns e))

decimals_read : (ns : List ℕ) → are_numbers ns ≡ true → all is_decimal (map decimal ns) ≡ true
unfolding all
decimals_read [] e = refl
decimals_read (n ∷ ns) e = rw (decimal_read n (numbers_first n ns e)) (decimals_read ns (numbers_rest n ns e))

decimals_value : (ns : List ℕ) → are_numbers ns ≡ true → map (value_from 0) (map decimal ns) ≡ ns
decimals_value [] e = refl
decimals_value (n ∷ ns) e = rw (decimal_value n (numbers_first n ns e), decimals_value ns (numbers_rest n ns e))

fields_without : (ns : List ℕ) → are_numbers ns ≡ true → elem 10 (flatten (map field ns)) ≡ false
unfolding flatten field elem
fields_without [] e = refl
fields_without (n ∷ ns) e =
    rw (elem_append 10 (decimal n) (flatten (map field ns)), decimal_without 10 n refl (numbers_first n ns e), fields_without ns (numbers_rest n ns e))

-- the bytes of a line without its newline
unfoldable pub line_of : ℕ → List ℕ → List ℕ
line_of letter ns = letter ∷ flatten (map field ns)

pub line_ended : (letter : ℕ) (ns : List ℕ) → text_line letter ns ≡ line_of letter ns ++ (10 ∷ [])
unfolding text_line line_of
line_ended letter ns = refl

module _ (x : ℕ) (ns : List ℕ) (no-comma : x ≡ 44 → ⊥) (e : are_numbers ns ≡ true) where
  pub read_numbers : numbers (line_of x ns) ≡ ns
  unfolding numbers line_of others
  read_numbers =
      ap (map (value_from 0)) (others_more x (flatten (map field ns)) no-comma ∙ written_others ns e) ∙ decimals_value ns e

  pub read_letter : letter (line_of x ns) ≡ x
  unfolding letter line_of
  read_letter = refl

  pub read_line : length ns ≤ 9 → is_line (line_of x ns) ≡ true
  unfolding line_of
  read_line few =
      is_line_lem (x ∷ flatten (map field ns)) (omega (arith, length_fields ns))
      (ap length (first_more x (flatten (map field ns)) no-comma) ∙ ap (λ (l : List ℕ). suc (length l)) (written_first ns))
      (ap (all is_decimal) (others_more x (flatten (map field ns)) no-comma ∙ written_others ns e) ∙ decimals_read ns e)

  pub read_ended : (x ≡ 10 → ⊥) → elem 10 (line_of x ns) ≡ false
  unfolding line_of elem
  read_ended no_end = rw (ne_eqb 10 x (λ p. no_end (sym p))) (fields_without ns e)
