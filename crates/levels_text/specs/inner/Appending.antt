-- Bytes appended to those that a text already has. Assumes nothing.
use Rattle.std.specs.Prelude.{ℕ, ◌+◌, ◌*◌, ◌≤◌, ◌<◌, ◌≡◌, refl, List, [], ◌∷◌, ◌++◌, map, length, take, drop, get_or, set}
use Rattle.std.proofs.Common.{sym, ◌∙◌, append-nil, append_assoc, add-one, arith, length-append, take-append-drop, take-suc, take_all, take-suc-set, drop-set-lt, drop-drop}
use Rattle.io.specs.Digits.{last_digits, IsDigitCount}
use Rattle.lists.specs.Lists.{splice, flatten}
use Rattle.lists.specs.Laws.Parts.{front_splice, drop_splice}
use Rattle.levels_text.specs.Written.{field, text_line}
use Rattle.levels_text.specs.Laws.Decimals.{decimal_digits, fields_more, fields_front, length_written}

-- The text has these bytes after its first `used`, up to `end`. The bytes after them do not change.
pub record Appended (text : List ℕ) (used : ℕ) (bytes text' : List ℕ) (end : ℕ) : Type 0 where
  pub counted : end ≡ used + length bytes
  pub same : take end text' ≡ take used text ++ bytes
  pub behind : drop end text' ≡ drop end text

module _ (text : List ℕ) (used : ℕ) where
  pub appended_none : Appended text used [] text used
  appended_none = record { counted = omega arith; same = sym (append-nil (take used text)); behind = refl }

  pub appended_one : (byte : ℕ) → used < length text → Appended text used (byte ∷ []) (set text used byte) (used + 1)
  appended_one byte inside =
      record {
        counted = refl;
        same = rw (add-one, take-suc-set text used byte inside);
        behind = drop-set-lt (used + 1) text used byte (omega arith);
      }

  -- all bytes at once
  pub appended_splice : (bytes : List ℕ) → used + length bytes ≤ length text → Appended text used bytes (splice text used bytes) (used + length bytes)
  appended_splice bytes fits = record { counted = refl; same = front_splice text bytes used fits; behind = drop_splice text bytes used fits (used + length bytes) (omega arith) }

-- two appends in sequence
pub appended_then : {text text' text'' bytes more : List ℕ} {used end end' : ℕ}
    → Appended text used bytes text' end → Appended text' end more text'' end' → Appended text used (bytes ++ more) text'' end'
appended_then {text} {text'} {text''} {bytes} {more} {used} {end} {end'} a b =
    record {
      counted = omega (arith, a.counted, b.counted, length-append bytes more);
      same = b.same ∙ rw (a.same, append_assoc (take used text) bytes more);
      behind = b.behind ∙ rw (b.counted, ← drop-drop (length more) end text', ← drop-drop (length more) end text, a.behind);
    }

-- if there is room for the bytes, the text is this splice
pub appended_put : {text bytes text' : List ℕ} {used end : ℕ} → Appended text used bytes text' end → text' ≡ splice text used bytes
unfolding splice
appended_put {text} {bytes} {text'} {used} {end} a =
    sym (take-append-drop end text')
    ∙ rw (a.same, a.behind, append_assoc (take used text) bytes (drop end text), a.counted)

-- a comma, then the digits of a number
pub appended_number : {text text' text'' shown : List ℕ} {used end end' n count : ℕ} → n ≤ 4294967295 → IsDigitCount 10 1 n count → shown ≡ last_digits 10 count n
    → Appended text used (44 ∷ []) text' end → Appended text' end shown text'' end' → Appended text used (field n) text'' end'
unfolding field
appended_number {n = n} {count = count} fits f e comma number =
    appended_then comma (rw (e ∙ decimal_digits count n fits f) at number)

-- a letter, numbers, and a newline
pub appended_line : {text text₁ text₂ text₃ : List ℕ} (numbers : List ℕ) {used lettered numbered end letter : ℕ}
    → Appended text used (letter ∷ []) text₁ lettered → Appended text₁ lettered (flatten (map field numbers)) text₂ numbered
    → Appended text₂ numbered (10 ∷ []) text₃ end → Appended text used (text_line letter numbers) text₃ end
unfolding text_line
appended_line numbers first rest last = appended_then (appended_then first rest) last

-- a number before the others
pub appended_numbered : {text text₁ text₂ text₃ text₄ : List ℕ} (number : ℕ) (numbers : List ℕ) {used lettered numbered filled end letter : ℕ}
    → Appended text used (letter ∷ []) text₁ lettered → Appended text₁ lettered (field number) text₂ numbered
    → Appended text₂ numbered (flatten (map field numbers)) text₃ filled → Appended text₃ filled (10 ∷ []) text₄ end
    → Appended text used (text_line letter (number ∷ numbers)) text₄ end
unfolding flatten
appended_numbered number numbers first lead rest last = appended_line (number ∷ numbers) first (appended_then lead rest) last

-- the bytes are at the start of a lent text
pub record Wrote (bytes text : List ℕ) (used : ℕ) : Type 0 where
  pub inside : used ≤ length text
  pub begins : take used text ≡ bytes

pub wrote_nothing : (text : List ℕ) → Wrote [] text 0
wrote_nothing text = record { inside = omega arith; begins = refl }

-- if there was room for them
pub appended_wrote : {text bytes text' : List ℕ} {end : ℕ} → length bytes ≤ length text' → Appended text 0 bytes text' end → Wrote bytes text' end
appended_wrote room a = record { inside = omega (arith, a.counted); begins = a.same }

pub line_wrote : {text text' : List ℕ} (letter : ℕ) (numbers : List ℕ) {end : ℕ} → 11 * length numbers + 2 ≤ length text'
    → Appended text 0 (text_line letter numbers) text' end → Wrote (text_line letter numbers) text' end
line_wrote letter numbers room a = appended_wrote (omega (arith, length_written letter numbers)) a

-- ---- number by number

-- loop invariant: the first i numbers are written
pub record Numbering (text : List ℕ) (used : ℕ) (numbers text' : List ℕ) (end i : ℕ) : Type 0 where
  pub inside : i ≤ length numbers
  pub same_length : length text' ≡ length text
  pub put : Appended text used (flatten (map field (take i numbers))) text' end

module _ (text : List ℕ) (used : ℕ) (numbers : List ℕ) where
  pub numbering_begin : Numbering text used numbers text used 0
  unfolding flatten
  numbering_begin = record { inside = omega arith; same_length = refl; put = appended_none text used }

module _ {text : List ℕ} {used : ℕ} {numbers text' : List ℕ} {end i : ℕ} (v : Numbering text used numbers text' end i) where
  pub numbering_again : {text'' : List ℕ} {end' : ℕ} → i < length numbers → length text'' ≡ length text'
      → Appended text' end (field (get_or numbers i 0)) text'' end' → Numbering text used numbers text'' end' (i + 1)
  numbering_again less lent one =
      record {
        inside = omega arith;
        same_length = lent ∙ v.same_length;
        put = rw (add-one, take-suc numbers i 0 less, fields_more (take i numbers) (get_or numbers i 0)) (appended_then v.put one);
      }

  -- the next number takes no more bytes than are left
  pub numbering_next : i < length numbers → end + length (field (get_or numbers i 0)) ≤ used + length (flatten (map field numbers))
  numbering_next less = omega (arith, v.put.counted, fields_front numbers i less)

  pub numbering_end : length numbers ≤ i → Appended text used (flatten (map field numbers)) text' end
  numbering_end all = rw (take_all i numbers all) at v.put
