-- A line that is cut after its first 121 bytes has the same answer as the whole line: both are too long. Assumes nothing.
use Rattle.std.specs.Prelude.{◌<◌, ◌≡◌}
use Rattle.levels_spec.specs.Laws.Prelude.{ℕ, inl, inr, false, List, Option, arith, leb, length, take, length-take, take_all, leb-true, leb-false, split, Lengths, Plain, of_forms, too_long, no_forms}
use Rattle.levels_spec.specs.Response.{line_result}

same_refused : (l : Lengths) (t : Option Plain) (a b : List ℕ) → of_forms a ≡ false → of_forms b ≡ false → line_result l t a ≡ line_result l t b
unfolding line_result
same_refused l t a b e f = rw (e, f)

pub line_truncated : (l : Lengths) (t : Option Plain) (line : List ℕ) → line_result l t (take 121 line) ≡ line_result l t line
line_truncated l t line =
    elim (split (leb (length line) 121)) [
      | inl e ↦ rw (take_all 121 line (leb-true (length line) 121 e))
      | inr e ↦
          let long : 121 < length line = leb-false (length line) 121 e in
          let cut : 120 < length (take 121 line) = rw length-take (omega arith) in
          same_refused l t (take 121 line) line (no_forms (take 121 line) (too_long (take 121 line) cut)) (no_forms line (too_long line (omega arith)))
    ]
