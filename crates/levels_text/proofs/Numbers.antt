-- The ways through `read_line`: the numbers of the fields read so far. Assumes nothing.
use Rattle.levels_text.proofs.Prelude.{ℕ, ◌+◌, ◌*◌, ◌≤◌, ◌<◌, ◌≡◌, refl, sym, ap, ◌∙◌, arith, length, take, get_or, set, true, false, List, [], ◌∷◌, ◌++◌, map, eqb, eqb-true, eqb-false, split, inl, inr, add-one, take-suc, take_all, splice_nil, put_more, None, Some, Option, subst}
use Rattle.std.specs.List.{slice_split, onto_first}
use Rattle.std.specs.Slice.Iter as slice
use Rattle.std.specs.declared.slice.Split.{Split}
use Rattle.std.specs.Fn.{CalledAt}
use denote.Param.Members.{Mut}
use denote.Ref.{Bor}
use Rattle.std.specs.Iterator.Runs.{Run, EachRunFrom}
use Rattle.std.specs.Prelude.{Bool}
use Rattle.std.proofs.Common.{zero, suc}
use Rattle.std.proofs.Math.Bool.{and-false}
use Rattle.std.proofs.lemmas.Option.{none-some, cond_some}
use Rattle.std.proofs.lemmas.Iterator.{YieldsList}
use Rattle.std.proofs.lemmas.Iterator.Splits.{YieldsList-from_slice_split}
use Rattle.std.proofs.lemmas.List.{map-append, length-map}
use Rattle.std.proofs.Common.{length-take}
use Rattle.lists.specs.Lists.{splice, all}
use Rattle.lists.specs.Laws.All.{all_head, all_tail, all_snoc}
use Rattle.lists.specs.Laws.Parts.{length_splice}
use Rattle.levels_text.specs.Lines.{prepend_to_first, fields, value_from, is_decimal, is_line, letter, numbers}
use Rattle.levels_text.specs.inner.Reading.{decimal_of, LineIs, read_right}
use Rattle.levels_text.specs.Laws.Digits.{decimal_some}
use Rattle.levels_text.specs.Laws.Lines.{first, others, fields_cons, first_more, first_comma, others_comma, others_more, no_letter, no_decimal, is_line_lem}

-- the fields, in std's words
prepend_same : (byte : ℕ) (texts : List (List ℕ)) → prepend_to_first byte texts ≡ onto_first byte texts
unfolding prepend_to_first
prepend_same byte [] = refl
prepend_same byte (text ∷ texts) = refl

split_fields : (bytes : List ℕ) → slice_split (λ (byte : ℕ). eqb byte 44) bytes ≡ fields bytes
unfolding fields
split_fields [] = refl
split_fields (byte ∷ bytes) = rw (split_fields bytes, ← prepend_same byte (fields bytes))

-- the first fact says which closure cuts the line
pub line_cut : {F : Type 0} {s : Split ℕ F} {g : Mut F (Bor ℕ × Unit {0}) Bool} {f : F} {P : Run (slice.split_steps g) → Type 0} (line : List ℕ) → EachRunFrom (slice.split_steps g) s P → slice.split_rest s ≡ line → slice.split_done s ≡ false → slice.split_callee s ≡ f
    → ((x : ℕ) (b : Bool) (q : F) → CalledAt g f x b q → (q ≡ f) × (b ≡ eqb x 44)) → YieldsList (slice.split_steps g) (λ x. x.now) s (first line ∷ others line)
line_cut {s = s} {g = g} line runs rest done closure tests =
    subst (YieldsList (slice.split_steps g) (λ x. x.now) s) (split_fields line ∙ fields_cons line)
    (YieldsList-from_slice_split g (λ (byte : ℕ). eqb byte 44) line rest done closure tests)

-- a call of `next` on an iterator that gives a list, and the iterator after it
module _ {S A B : Type 0} {steps : S → Option A → S → Type 0} {v : A → B} {s t : S} {r : Option A} {y : B} {ys : List B} {x : A}
    (e : YieldsList steps v s (y ∷ ys)) (is : r ≡ Some x) (k : steps s r t) where
  pub head_gives : v x ≡ y
  head_gives = (e.runs.1 x t (subst (λ (o : Option A). steps s o t) is k)).0

  pub tail_gives : {u : S} → u ≡ t → YieldsList steps v u ys
  tail_gives same = subst (λ (i : S). YieldsList steps v i ys) (sym same) (record { runs = (e.runs.1 x t (subst (λ (o : Option A). steps s o t) is k)).1 })

-- the first field is the letter alone, or the line is wrong
pub wrong_first : (line : List ℕ) {field : List ℕ} → field ≡ first line → (length field ≡ 1 → ⊥) → is_line line ≡ false
wrong_first line e ne = no_letter line (λ one. ne (ap length e ∙ one))

first_byte : (line : List ℕ) → 0 < length (first line) → get_or (first line) 0 0 ≡ get_or line 0 0
first_byte [] some = unfold first fields in refl
first_byte (byte ∷ bytes) some =
    elim (split (eqb byte 44)) [
      | inl e ↦ absurd (omega (arith, ap length (ap first (ap (λ (b : ℕ). b ∷ bytes) (eqb-true byte 44 e)) ∙ first_comma bytes)))
      | inr e ↦ ap (λ (l : List ℕ). get_or l 0 0) (first_more byte bytes (eqb-false byte 44 e))
    ]

not_all : (texts : List (List ℕ)) (n : ℕ) (d : List ℕ) → n < length texts → is_decimal (get_or texts n d) ≡ false → all is_decimal texts ≡ false
unfolding all
not_all [] n d h e = absurd (omega arith)
not_all (text ∷ texts) zero d h e = rw e
not_all (text ∷ texts) (suc n) d h e = rw (not_all texts n d (omega arith) e, and-false (is_decimal text))

-- what `decimal` says of a field
not_decimal : (field : List ℕ) → decimal_of field ≡ None → is_decimal field ≡ false
not_decimal field e =
    elim (split (is_decimal field)) [
      | inl y ↦ absurd (let some : ◌≡◌ {A = Option ℕ} (Some (value_from 0 field)) None = rw y at e in none-some _ (sym some))
      | inr n ↦ n
    ]

decimal_is : (field : List ℕ) {value : ℕ} → decimal_of field ≡ Some value → (is_decimal field ≡ true) × (value_from 0 field ≡ value)
decimal_is field e = cond_some (is_decimal field) (value_from 0 field) _ e

-- decimals take two bytes or more each, with the comma before
unfoldable widths : List (List ℕ) → ℕ
widths [] = 0
widths (text ∷ texts) = 1 + length text + widths texts

widths_cons : (text : List ℕ) (texts : List (List ℕ)) → widths (text ∷ texts) ≡ 1 + length text + widths texts
unfolding widths
widths_cons text texts = refl

line_width : (line : List ℕ) → length (first line) + widths (others line) ≡ length line
line_width [] = unfold first others fields widths in refl
line_width (byte ∷ bytes) =
    let rest = line_width bytes in
    elim (split (eqb byte 44)) [
      | inl e ↦ rw (eqb-true byte 44 e, first_comma bytes, others_comma bytes, widths_cons (first bytes) (others bytes)) (omega arith)
      | inr e ↦ rw (first_more byte bytes (eqb-false byte 44 e), others_more byte bytes (eqb-false byte 44 e)) (omega arith)
    ]

decimals_wide : (texts : List (List ℕ)) (n : ℕ) → n ≤ length texts → all is_decimal (take n texts) ≡ true → 2 * n ≤ widths texts
decimals_wide texts zero h e = omega arith
decimals_wide [] (suc n) h e = absurd (omega arith)
decimals_wide (text ∷ texts) (suc n) h e =
    let some = decimal_some text (all_head is_decimal text (take n texts) e) in
    let rest = decimals_wide texts n (omega arith) (all_tail is_decimal text (take n texts) e) in
    rw (widths_cons text texts) (omega (arith, some, rest))

-- `count` numbers are stored: those of the first `count` fields after the letter, which are decimals
pub record Numbers (line lent stored : List ℕ) (count : ℕ) : Type 0 where
  pub within : count ≤ length (others line)
  pub decimals : all is_decimal (take count (others line)) ≡ true
  pub put : stored ≡ splice lent 0 (map (value_from 0) (take count (others line)))

pub numbers_begin : (line lent : List ℕ) → Numbers line lent lent 0
unfolding all
numbers_begin line lent = record { within = omega arith; decimals = refl; put = sym (splice_nil lent 0) }

module _ {line lent stored : List ℕ} {count : ℕ} (s : Numbers line lent stored count) where
  pub stored_length : length (others line) ≤ length lent → length stored ≡ length lent
  stored_length room = ap length s.put ∙ length_splice lent (map (value_from 0) (take count (others line))) 0 (omega (arith, length-map (take count (others line)) (value_from 0), length-take {A = List ℕ}, s.within))

  -- the next field
  module _ {field : List ℕ} (inside : count < length (others line)) (next : field ≡ get_or (others line) count field) where
    more : take (count + 1) (others line) ≡ take count (others line) ++ (field ∷ [])
    more = rw (add-one, take-suc (others line) count field inside, ← next)

    -- a field that is no decimal
    pub wrong_field : decimal_of field ≡ None → is_line line ≡ false
    wrong_field e = no_decimal line (not_all (others line) count field inside (rw (← next) (not_decimal field e)))

    module _ {value : ℕ} (read : decimal_of field ≡ Some value) where
      is : is_decimal field ≡ true
      is = (decimal_is field read).0

      all_more : all is_decimal (take (count + 1) (others line)) ≡ true
      all_more = rw more (all_snoc is_decimal (take count (others line)) field s.decimals is)

      -- a line so short has no number too many
      pub count_fits : length line ≤ 120 → 59 ≤ length lent → length (first line) ≡ 1 → count < length lent
      count_fits short long one = let wide = decimals_wide (others line) (count + 1) (omega arith) all_more in let whole = line_width line in omega arith

      pub numbers_more : count < length lent → Numbers line lent (set stored count value) (count + 1)
      numbers_more fits = record {
        within = omega arith;
        decimals = all_more;
        put =
            let stored_so_far : List ℕ = map (value_from 0) (take count (others line)) in
            let long : count ≡ length stored_so_far = sym (length-map (take count (others line)) (value_from 0) ∙ rw length-take (omega (arith, s.within))) in
            ap (λ (l : List ℕ). set l count value) s.put
            ∙ put_more lent stored_so_far count value long fits
            ∙ ap (splice lent 0)
            (ap (λ (n : ℕ). stored_so_far ++ (n ∷ [])) (sym (decimal_is field read).1)
            ∙ sym (map-append (value_from 0) (take count (others line)) (field ∷ []))
            ∙ ap (map (value_from 0)) (sym more));
      }

-- all fields are read
pub line_read : {line lent stored : List ℕ} {count first_letter : ℕ} {field : List ℕ} → Numbers line lent stored count → length line ≤ 120 → 59 ≤ length lent → field ≡ first line → length field ≡ 1
    → first_letter ≡ get_or field 0 0 → count ≡ length (others line) → LineIs line lent (Some (first_letter, count)) stored
unfolding numbers others letter
line_read {line} {lent} {stored} {count} s short long same one is end =
    let whole : take count (others line) ≡ others line = take_all count (others line) (omega (arith, end)) in
    read_right line lent _ count stored long (is_line_lem line short (sym (ap length same) ∙ one) (rw whole at s.decimals))
    (is ∙ ap (λ (l : List ℕ). get_or l 0 0) same ∙ first_byte line (omega (arith, one, ap length same)))
    (end ∙ sym (length-map (others line) (value_from 0))) (s.put ∙ ap (λ (l : List (List ℕ)). splice lent 0 (map (value_from 0) l)) whole)
