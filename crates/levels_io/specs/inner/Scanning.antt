-- When a chunk holds the unread bytes, and contracts of the functions that scan it for a line. Assumes nothing.
use Rattle.std.specs.Prelude.{ℕ, zero, suc, ◌+◌, ◌-◌, ◌≤◌, ◌<◌, min, ◌≡◌, ◌==◌, refl, true, cond, take, drop, eqb, leb, Some, None, position}
use Rattle.std.specs.List.{position_or_len}
use Rattle.std.proofs.lemmas.List.Recursion.{is_position_or_len}
use Rattle.std.proofs.lemmas.Option.{cond_some, none-some}
use Rattle.std.proofs.lemmas.Bool.{false≢true, eqb-false}
use Rattle.std.proofs.Math.Seq.{take-append-add}
use Rattle.lists.specs.Laws.Filter.{split}
use Rattle.lists.specs.Laws.Parts.{front_splice}
use Rattle.std.proofs.Math.Path.{sym, ap}
use Rattle.std.proofs.Common.{◌∙◌, inl, inr, subst, drop-drop, arith, length-append, length-take, take_all, ne_eqb, eqb-true, ltb-true, lt-ltb, leb-true, leb-false}
use Rattle.std.proofs.Math.Bool.{false}
use mathlib.Core.List.{List, [], ◌∷◌, ◌++◌}
use Rattle.std.proofs.Math.ListN.{length}
use Rattle.std.proofs.lemmas.List.{take_at}
use Rattle.lists.specs.Lists.{elem, splice}
use Rattle.levels_io.specs.declared.input.ChunkScan.{ChunkScan}
use Rattle.levels_io.specs.declared.input.Input.{Input}
use Rattle.levels_io.specs.Input.{bytes_read}

-- the unread bytes are within the bytes of the last read, and these are within the chunk
pub record InputIn (chunk : List ℕ) (input : Input) : Type 0 where
  pub ordered : input.next ≤ input.end
  pub counted : input.end ≡ bytes_read input.got
  pub inside : input.end ≤ length chunk

-- bytes are appended to a line, as far as its store has room
pub record Pushed (line : List ℕ) (count : ℕ) (bytes line' : List ℕ) (end : ℕ) : Type 0 where
  pub counted : end ≡ min (length line) (count + length bytes)
  pub same : take end line' ≡ take (length line) (take count line ++ bytes)

-- the bytes before the first newline (10)
unfoldable pub before_newline : List ℕ → List ℕ
before_newline [] = []
before_newline (byte ∷ bytes) = cond (eqb byte 10) [] (byte ∷ before_newline bytes)

-- Those bytes are stored. The bytes taken are those and the newline, if there is one.
pub record Scanned (line : List ℕ) (count : ℕ) (bytes : List ℕ) (from : ℕ) (line' : List ℕ) (r : ChunkScan) : Type 0 where
  pub kept : Pushed line count (before_newline bytes) line' r.length
  pub whole : r.is_whole ≡ elem 10 bytes
  pub next : r.next ≡ from + length (before_newline bytes) + cond (elem 10 bytes) 1 0

-- ---- storing bytes

pub take_in : (m : ℕ) (x y : List ℕ) → take m (take m x ++ y) ≡ take m (x ++ y)
take_in zero x y = refl
take_in (suc m) [] y = refl
take_in (suc m) (a ∷ x) y = ap (λ l. a ∷ l) (take_in m x y)

take_kept : (room : ℕ) (bytes : List ℕ) → take (min (length bytes) room) bytes ≡ take room bytes
take_kept room bytes =
    elim (split (leb (length bytes) room)) [
      | inl y ↦ let all = leb-true (length bytes) room y in let n : min (length bytes) room ≡ length bytes = omega arith in rw (n, take_all (length bytes) bytes (omega arith), take_all room bytes all)
      | inr f ↦ let short = leb-false (length bytes) room f in let n : min (length bytes) room ≡ room = omega arith in rw n
    ]

-- the first of the bytes, as many as there is room for
stored : (line : List ℕ) (count : ℕ) (bytes : List ℕ) → count ≤ length line
    → Pushed line count bytes (splice line count (take (min (length bytes) (length line - count)) bytes)) (count + min (length bytes) (length line - count))
stored line count bytes inside =
    let kept : ℕ = min (length bytes) (length line - count) in
    let width : length (take kept bytes) ≡ kept = rw length-take (omega arith) in
    let long : length (take count line) ≡ count = rw length-take (omega arith) in
    let room : length line ≡ length (take count line) + (length line - count) = omega arith in
    record {
      counted = omega arith;
      same =
          ap (λ (n : ℕ). take (count + n) (splice line count (take kept bytes))) (sym width)
          ∙ front_splice line (take kept bytes) count (omega arith)
          ∙ ap (λ (l : List ℕ). take count line ++ l) (take_kept (length line - count) bytes)
          ∙ sym (take-append-add (take count line) bytes (length line - count))
          ∙ ap (λ (n : ℕ). take n (take count line ++ bytes)) (sym room);
    }

pub stored_part : (line : List ℕ) (count : ℕ) (bytes : List ℕ) {kept : ℕ} → count ≤ length line → kept ≡ min (length bytes) (length line - count)
    → Pushed line count bytes (take count line ++ (take kept bytes ++ drop kept (drop count line))) (count + kept)
unfolding splice
stored_part line count bytes inside e =
    let m : ℕ = min (length bytes) (length line - count) in
    let width : length (take m bytes) ≡ m = rw length-take (omega arith) in
    let whole : splice line count (take m bytes) ≡ take count line ++ (take m bytes ++ drop m (drop count line)) =
    ap (λ (n : ℕ). take count line ++ (take m bytes ++ drop (count + n) line)) width
    ∙ ap (λ (l : List ℕ). take count line ++ (take m bytes ++ l)) (sym (drop-drop m count line)) in
    rw e (subst (λ (l : List ℕ). Pushed line count bytes l (count + m)) whole (stored line count bytes inside))

-- the bytes of a chunk from `at` up to `end`
abbrev pub left : List ℕ → ℕ → ℕ → List ℕ
left chunk at end = take (end - at) (drop at chunk)

pub left_none : (chunk : List ℕ) (at end : ℕ) → end ≤ at → left chunk at end ≡ []
left_none chunk at end none = let z : end - at ≡ 0 = omega arith in rw z

-- ---- a newline, or none

pub newline_first : (bytes : List ℕ) → elem 10 bytes ≡ true → bytes ≡ before_newline bytes ++ (10 ∷ drop (suc (length (before_newline bytes))) bytes)
unfolding before_newline elem
newline_first [] e = absurd (false≢true e)
newline_first (byte ∷ bytes) e =
    elim (split (eqb byte 10)) [
      | inl f ↦ rw f (ap (λ (x : ℕ). x ∷ bytes) (eqb-true byte 10 f))
      | inr f ↦
          let more : elem 10 bytes ≡ true = rw (ne_eqb 10 byte (λ g. eqb-false byte 10 f (sym g))) at e in
          rw f (ap (λ (x : List ℕ). byte ∷ x) (newline_first bytes more))
    ]

pub no_newline_whole : (bytes : List ℕ) → elem 10 bytes ≡ false → before_newline bytes ≡ bytes
unfolding before_newline elem
no_newline_whole [] e = refl
no_newline_whole (byte ∷ bytes) e =
    elim (split (eqb 10 byte)) [
      | inl f ↦ absurd (false≢true (sym (rw f at e)))
      | inr f ↦ rw (ne_eqb byte 10 (λ g. eqb-false 10 byte f (sym g))) (ap (λ (x : List ℕ). byte ∷ x) (no_newline_whole bytes (rw f at e)))
    ]

before_count : (bytes : List ℕ) → length (before_newline bytes) ≡ position_or_len (λ byte. byte == 10) bytes
unfolding before_newline
before_count = is_position_or_len (λ (bytes : List ℕ). length (before_newline bytes)) (λ (byte : ℕ). byte == 10) refl counted
  where
    counted : (byte : ℕ) (bytes : List ℕ) → length (cond (eqb byte 10) [] (byte ∷ before_newline bytes)) ≡ cond (eqb byte 10) 0 (1 + length (before_newline bytes))
    counted byte bytes = elim (split (eqb byte 10)) [ inl e ↦ rw e | inr e ↦ rw e (omega arith) ]

module _ (bytes : List ℕ) where
  -- the bytes up to it
  pub newline_at : {count : ℕ} → position (λ byte. byte == 10) bytes ≡ Some count → (count < length bytes) × (before_newline bytes ≡ take count bytes) × (elem 10 bytes ≡ true)
  newline_at {count} e =
      let f = cond_some _ _ _ e in
      let less : position_or_len (λ byte. byte == 10) bytes < length bytes = ltb-true _ _ f.0 in
      let n : length (before_newline bytes) ≡ count = before_count bytes ∙ f.1 in
      let there : elem 10 bytes ≡ true =
      elim (split (elem 10 bytes)) [ inl y ↦ y | inr none ↦ absurd (omega (arith, less, before_count bytes, ap length (no_newline_whole bytes none))) ] in
      let parts = newline_first bytes there in
      (omega (arith, less, f.1), sym (ap (take count) parts ∙ take_at (before_newline bytes) _ count n), there)

  pub newline_none : position (λ byte. byte == 10) bytes ≡ None → (before_newline bytes ≡ bytes) × (elem 10 bytes ≡ false)
  newline_none e =
      elim (split (elem 10 bytes)) [
        | inr none ↦ (no_newline_whole bytes none, none)
        | inl there ↦
            let parts = newline_first bytes there in
            let less : position_or_len (λ byte. byte == 10) bytes < length bytes =
            omega (arith, ap length parts, length-append (before_newline bytes) (10 ∷ drop (suc (length (before_newline bytes))) bytes), before_count bytes) in
            absurd (none-some _ (sym (rw (lt-ltb _ _ less) at e)))
      ]

-- the bytes of a chunk are scanned up to a newline, or to their end
module _ {line line' : List ℕ} {length' end : ℕ} (bytes : List ℕ) (from : ℕ) where
  pub scanned_newline : {count : ℕ} → position (λ byte. byte == 10) bytes ≡ Some count → Pushed line length' (take count bytes) line' end
      → Scanned line length' bytes from line' (record { length = end; next = from + count + 1; is_whole = true })
  scanned_newline {count} e p =
      let h = newline_at bytes e in
      let n : length (take count bytes) ≡ count = rw length-take (omega (arith, h.0)) in
      record { kept = rw h.1 p; whole = sym h.2; next = rw (h.2, h.1) (omega (arith, n)) }

  pub scanned_all : {to : ℕ} → position (λ byte. byte == 10) bytes ≡ None → to ≡ from + length bytes → Pushed line length' bytes line' end
      → Scanned line length' bytes from line' (record { length = end; next = to; is_whole = false })
  scanned_all e n p = let h = newline_none bytes e in record { kept = rw h.0 p; whole = sym h.1; next = rw (h.1, h.0) (omega (arith, n)) }
