-- The lines of an input, one by one. Assumes nothing.
use Rattle.std.specs.Prelude.{◌<◌, ◌≡◌, ◌∷◌, ◌++◌}
use Rattle.levels_spec.specs.Laws.Prelude.{ℕ, refl, sym, false, List, [], inl, inr, arith, length, eqb, ne_eqb, eqb-false, split, false≢true}
use Rattle.lists.specs.Lists.{elem}
use Rattle.levels_spec.specs.Session.{lines_in}
use Rattle.levels_text.specs.Lines.{prepend_to_first}

-- a byte that is not a newline, and the bytes after it
byte_apart : (byte : ℕ) (bytes : List ℕ) → elem 10 (byte ∷ bytes) ≡ false → (eqb byte 10 ≡ false) × (elem 10 bytes ≡ false)
unfolding elem
byte_apart byte bytes e =
    elim (split (eqb 10 byte)) [
      | inl f ↦ absurd (false≢true (sym (rw f at e)))
      | inr f ↦ (ne_eqb byte 10 (λ g. eqb-false 10 byte f (sym g)), rw f at e)
    ]

-- a line, its newline, and the bytes after it
pub lines_ended : (line more : List ℕ) → elem 10 line ≡ false → lines_in (line ++ (10 ∷ more)) ≡ line ∷ lines_in more
unfolding lines_in prepend_to_first
lines_ended [] more e = refl
lines_ended (byte ∷ line) more e = let b = byte_apart byte line e in rw (b.0, lines_ended line more b.1)

-- the last line, which ends with the input
pub lines_last : (line : List ℕ) → elem 10 line ≡ false → 0 < length line → lines_in line ≡ line ∷ []
unfolding lines_in prepend_to_first
lines_last [] e some = absurd (omega (arith, some))
lines_last (byte ∷ []) e some = rw (byte_apart byte [] e).0
lines_last (byte ∷ next ∷ line) e some =
    let b = byte_apart byte (next ∷ line) e in
    rw (b.0, lines_last (next ∷ line) b.1 (omega arith))
