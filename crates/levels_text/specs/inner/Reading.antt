-- Contracts of reading a field and a line. Assumes nothing.
use Rattle.std.specs.Prelude.{ℕ, ◌+◌, ◌≤◌, ◌<◌, ◌≡◌, refl, true, false, cond, List, Option, Some, None, leb, take, drop}
use Rattle.std.proofs.Common.{sym, ◌∙◌, inl, inr, arith, leb-true, leb-false, length-take}
use Rattle.std.proofs.Math.Path.{ap}
use Rattle.std.proofs.lemmas.Option.{same_Some}
use Rattle.std.proofs.lemmas.Bool.{false≢true}
use Rattle.std.proofs.Math.ListN.{length, length-append}
use Rattle.lists.specs.Lists.{splice}
use Rattle.lists.specs.Laws.Filter.{split, and_right}
use Rattle.levels_text.specs.declared.Line.{Line}
use Rattle.levels_text.specs.declared.kind.Kind.{Kind}
use Rattle.levels_text.specs.Laws.Lines.{no_forms, line_forms}
use Rattle.levels_text.specs.Kinds.{letter_of}
use Rattle.levels_text.specs.Lines.{value_from, is_decimal, is_line, is_form, letter, numbers, of_forms}

-- the number in a field
abbrev pub decimal_of : List ℕ → Option ℕ
decimal_of field = cond (is_decimal field) (Some (value_from 0 field)) None

-- A letter and decimals give the letter and how many numbers there are; any other line gives nothing. If there is no room for the most
-- numbers that a line may have, every line gives nothing.
pub record LineIs (line lent : List ℕ) (r : Option (ℕ × ℕ)) (lent' : List ℕ) : Type 0 where
  pub right : 59 ≤ length lent → is_line line ≡ true → (r ≡ Some (letter line, length (numbers line))) × (lent' ≡ splice lent 0 (numbers line))
  pub wrong : 59 ≤ length lent → is_line line ≡ false → r ≡ None
  pub no_room : length lent < 59 → (r ≡ None) × (lent' ≡ lent)

-- the same of a line of a valid form, which gives the kind with its letter
pub record ParsedIs (line lent : List ℕ) (r : Option Line) (lent' : List ℕ) : Type 0 where
  pub right : 59 ≤ length lent → of_forms line ≡ true
      → (kind : Kind) × (letter_of kind ≡ letter line) × (r ≡ Some (record { kind = kind; count = length (numbers line) })) × (lent' ≡ splice lent 0 (numbers line))
  pub wrong : 59 ≤ length lent → of_forms line ≡ false → r ≡ None
  pub no_room : length lent < 59 → (r ≡ None) × (lent' ≡ lent)

module _ (line lent : List ℕ) where
  pub read_no_room : length lent < 59 → LineIs line lent None lent
  read_no_room short = record { right = λ room e. absurd (omega arith); wrong = λ room e. refl; no_room = λ h. (refl, refl) }

  pub read_wrong : (lent' : List ℕ) → is_line line ≡ false → (length lent < 59 → lent' ≡ lent) → LineIs line lent None lent'
  read_wrong lent' e kept = record {
    right = λ room f. absurd (false≢true (sym e ∙ f));
    wrong = λ room f. refl;
    no_room = λ h. (refl, kept h);
  }

  pub read_right : (first : ℕ) (count : ℕ) (lent' : List ℕ) → 59 ≤ length lent → is_line line ≡ true → first ≡ letter line
      → count ≡ length (numbers line) → lent' ≡ splice lent 0 (numbers line) → LineIs line lent (Some (first, count)) lent'
  read_right first count lent' room e f n l = record {
    right = λ room' e'. (cc, l);
    wrong = λ room' e'. absurd (false≢true (sym e' ∙ e));
    no_room = λ short. absurd (omega arith);
  }

-- consequences for a letter and decimals: there was room, and the letter and the numbers are those of the line
pub record Read (line lent : List ℕ) (first count : ℕ) (lent' : List ℕ) : Type 0 where
  pub room : 59 ≤ length lent
  pub taken : is_line line ≡ true
  pub letter_same : first ≡ letter line
  pub counted : count ≡ length (numbers line)
  pub put : lent' ≡ splice lent 0 (numbers line)

module _ {line lent : List ℕ} {r : Option (ℕ × ℕ)} {lent' : List ℕ} (p : LineIs line lent r lent') where
  pub line_none : r ≡ None → 59 ≤ length lent → is_line line ≡ false
  line_none e room =
      elim (split (is_line line)) [
        | inl t ↦ absurd (let w = (p.right room t).0 in let z : ◌≡◌ {A = ℕ} 0 1 = cc in omega arith)
        | inr f ↦ f
      ]

  pub line_some : {first count : ℕ} → r ≡ Some (first, count) → Read line lent first count lent'
  line_some {first} {count} e =
      elim (split (leb 59 (length lent))) [
        | inr f ↦ absurd (let w = (p.no_room (leb-false 59 (length lent) f)).0 in let z : ◌≡◌ {A = ℕ} 0 1 = cc in omega arith)
        | inl t ↦
            let room = leb-true 59 (length lent) t in
            elim (split (is_line line)) [
              | inr f ↦ absurd (let w = p.wrong room f in let z : ◌≡◌ {A = ℕ} 0 1 = cc in omega arith)
              | inl taken ↦
                  let same : (first, count) ≡ (letter line, length (numbers line)) = same_Some _ _ (sym e ∙ (p.right room taken).0) in
                  record { room = room; taken = taken; letter_same = ap (λ (x : ℕ × ℕ). x.0) same; counted = ap (λ (x : ℕ × ℕ). x.1) same; put = (p.right room taken).1 }
            ]
      ]

  -- ---- a line of a valid form

  pub parsed_no_line : r ≡ None → ParsedIs line lent None lent'
  parsed_no_line e = record {
    right = λ room f. absurd (false≢true (sym (no_forms line (line_none e room)) ∙ f));
    wrong = λ room f. refl;
    no_room = λ short. (refl, (p.no_room short).1);
  }

module _ {line lent lent' : List ℕ} {first count : ℕ} (read : Read line lent first count lent') where
  form : of_forms line ≡ is_form first count
  form = line_forms line read.taken ∙ rw (read.letter_same, read.counted)

  pub parsed_wrong : is_form first count ≡ false → ParsedIs line lent None lent'
  parsed_wrong f = record {
    right = λ room e. absurd (false≢true (sym (form ∙ f) ∙ e));
    wrong = λ room e. refl;
    no_room = λ short. let long = read.room in absurd (omega arith);
  }

  pub parsed_right : (kind : Kind) → letter_of kind ≡ first → is_form first count ≡ true → ParsedIs line lent (Some (record { kind = kind; count = count })) lent'
  parsed_right kind e t = record {
    right = λ room f. (kind, e ∙ read.letter_same, ap (λ (n : ℕ). Some (record { kind = kind; count = n })) read.counted, read.put);
    wrong = λ room f. absurd (false≢true (sym f ∙ (form ∙ t)));
    no_room = λ short. let long = read.room in absurd (omega arith);
  }

-- consequences for such a line: it is of a valid form, the kind has its letter, and its numbers are stored
pub record Parsed (line lent : List ℕ) (l : Line) (lent' : List ℕ) : Type 0 where
  pub taken : of_forms line ≡ true
  pub letter_same : letter_of l.kind ≡ letter line
  pub counted : l.count ≡ length (numbers line)
  pub put : lent' ≡ splice lent 0 (numbers line)

module _ {line lent : List ℕ} {r : Option Line} {lent' : List ℕ} (p : ParsedIs line lent r lent') where
  pub parsed_none : r ≡ None → 59 ≤ length lent → of_forms line ≡ false
  parsed_none e room =
      elim (split (of_forms line)) [
        | inl t ↦ absurd (let w = (p.right room t).2 in let z : ◌≡◌ {A = ℕ} 0 1 = cc in omega arith)
        | inr f ↦ f
      ]

  pub parsed_some : {l : Line} → r ≡ Some l → 59 ≤ length lent → Parsed line lent l lent'
  parsed_some {l} e room =
      elim (split (of_forms line)) [
        | inr f ↦ absurd (let w = p.wrong room f in let z : ◌≡◌ {A = ℕ} 0 1 = cc in omega arith)
        | inl taken ↦
            let right = p.right room taken in
            let line_same : l ≡ record { kind = right.0; count = length (numbers line) } = same_Some _ _ (sym e ∙ right.2) in
            record {
              taken = taken;
              letter_same = ap (λ (x : Line). letter_of x.kind) line_same ∙ right.1;
              counted = ap (λ (x : Line). x.count) line_same;
              put = right.3;
            }
      ]

module _ {line lent lent' : List ℕ} {l : Line} (p : Parsed line lent l lent') where
  pub parsed_fits : l.count ≤ length lent'
  unfolding splice
  parsed_fits =
      let n = ap length p.put in
      let m = length-append (numbers line) (drop (0 + length (numbers line)) lent) in
      omega (arith, p.counted)

  -- the line's form, stated over the stored numbers
  pub parsed_numbers : is_form (letter_of l.kind) (length (take l.count lent')) ≡ true
  unfolding of_forms
  parsed_numbers =
      let n : length (take l.count lent') ≡ l.count = rw length-take (omega (arith, parsed_fits)) in
      rw (n, p.letter_same, p.counted) (and_right (is_line line) (is_form (letter line) (length (numbers line))) p.taken)
