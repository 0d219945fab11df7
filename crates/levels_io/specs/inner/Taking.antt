-- Contracts of a read and of taking a line. After a read, the unread bytes are those before and those that the read returned.
-- Taking a line splits the unread bytes into the line's next bytes, its newline, and the bytes that remain unread. Assumes nothing.
use Rattle.std.specs.Prelude.{ℕ, suc, ◌+◌, ◌-◌, ◌≤◌, ◌<◌, ◌≡◌, refl, Bool, true, false, cond, List, [], ◌∷◌, ◌++◌, ℤ, pos, negsuc, length, take, drop, eqb}
use Rattle.std.proofs.Common.{sym, ap, ◌∙◌, inl, inr, append-nil, arith, length-append, length-take, length-drop, drop-drop, eq-eqb, ne_eqb, eqb-true}
use Rattle.std.proofs.lemmas.Bool.{false≢true, eqb-false}
use Rattle.io.specs.Counts.{clamp_len}
use Rattle.lists.specs.Lists.{elem}
use Rattle.lists.specs.Laws.Filter.{split}
use Rattle.lists.specs.Laws.Parts.{take_drop}
use Rattle.lists.specs.Laws.Rising.{elem_append}
use Rattle.levels_io.specs.declared.input.Input.{Input}
use Rattle.levels_io.specs.declared.input.ChunkScan.{ChunkScan}
use Rattle.levels_io.specs.declared.input.TakenLine.{TakenLine}
use Rattle.levels_io.specs.Input.{bytes_read, unread, AtEnd, LineSoFar}
use Rattle.levels_io.specs.inner.Scanning.{before_newline, newline_first, no_newline_whole, Scanned, take_in, left, left_none, InputIn}

-- what a read of at most n bytes returns: how many it stored, or -1
abbrev pub Moved : ℕ → ℤ → Type 0
Moved most (pos count) = count ≤ most
Moved most (negsuc error) = error ≡ 0

-- One of the remaining reads is made. The bytes before are followed by the first bytes of the chunk after the read, as many as it
-- returned.
pub record Refilled (before : List ℕ) (reads : ℕ) (chunk' : List ℕ) (r : Input) : Type 0 where
  pub one_read : r.reads + 1 ≡ reads
  pub within : InputIn chunk' r
  pub there : unread chunk' r ≡ before ++ take (bytes_read r.got) chunk'

pub record EndTested (input : Input) (r : Bool) : Type 0 where
  pub ended : r ≡ true → AtEnd input
  pub goes_on : r ≡ false → (0 < bytes_read input.got) × (0 < input.reads)

-- no read was made
pub record SameRead (input r : Input) : Type 0 where
  pub end : r.end ≡ input.end
  pub got : r.got ≡ input.got
  pub reads : r.reads ≡ input.reads

-- the bytes of a line are taken up to its newline (10), or all unread bytes are taken
pub record LineTaken (line : List ℕ) (count : ℕ) (chunk : List ℕ) (input : Input) (line' : List ℕ) (r : TakenLine) : Type 0 where
  pub bytes : List ℕ
  pub parts : unread chunk input ≡ bytes ++ cond r.is_whole (10 ∷ unread chunk r.input) []
  pub line_is : (begun : List ℕ) → LineSoFar begun line count → LineSoFar (begun ++ bytes) line' r.length
  pub within : InputIn chunk r.input
  pub moved : r.is_whole ≡ true → input.next < r.input.next
  pub all_taken : r.is_whole ≡ false → r.input.end ≤ r.input.next
  pub same_read : SameRead input r.input
  pub inside : r.length ≤ length line'

-- ---- a read

moved_count : (got : ℤ) (most : ℕ) → Moved most got → clamp_len got most ≡ bytes_read got
moved_count (pos count) most inside = omega (arith, inside)
moved_count (negsuc error) most inside = refl

pub refilled : (chunk : List ℕ) (input : Input) (chunk' : List ℕ) (got : ℤ) {end reads : ℕ} → input.end ≤ input.next → length chunk' ≡ length chunk → Moved (length chunk) got
    → end ≡ clamp_len got (length chunk') → end ≤ length chunk' → reads + 1 ≡ input.reads
    → Refilled (unread chunk input) input.reads chunk' (record { next = 0; end = end; got = got; reads = reads })
refilled chunk input chunk' got {end} {reads} none same moved count inside one =
    let counted : end ≡ bytes_read got = count ∙ rw same (moved_count got (length chunk) moved) in
    let all : end - 0 ≡ bytes_read got = omega (arith, counted) in
    record {
      one_read = one;
      within = record { ordered = omega arith; counted = counted; inside = inside };
      there =
          ap (λ (n : ℕ). take n chunk') all
          ∙ ap (λ (before : List ℕ). before ++ take (bytes_read got) chunk') (sym (left_none chunk input.next input.end none));
    }

pub refilled_first : {chunk' : List ℕ} {r : Input} (chunk : List ℕ) (input : Input) → input.end ≡ 0 → Refilled (unread chunk input) input.reads chunk' r
    → Refilled [] input.reads chunk' r
refilled_first chunk input none f = rw (left_none chunk input.next input.end (omega arith)) at f

pub end_none : (input : Input) → input.end ≡ bytes_read input.got → input.end ≡ 0 → EndTested input (eqb input.end 0)
end_none input counted none =
    rw (eq-eqb input.end 0 none)
    (record { ended = λ e. inl (omega (arith, none, counted)); goes_on = λ e. absurd (false≢true (sym e)) })

pub end_some : (input : Input) → input.end ≡ bytes_read input.got → (input.end ≡ 0 → ⊥) → EndTested input (eqb input.reads 0)
end_some input counted some =
    record {
      ended = λ e. inr (eqb-true input.reads 0 e);
      goes_on = λ e. (omega (arith, some, counted), omega (arith, eqb-false input.reads 0 e));
    }

-- ---- a newline, or none

no_newline_before : (bytes : List ℕ) → elem 10 (before_newline bytes) ≡ false
unfolding before_newline elem
no_newline_before [] = refl
no_newline_before (byte ∷ bytes) =
    elim (split (eqb byte 10)) [
      | inl e ↦ rw e
      | inr e ↦ rw (e, ne_eqb 10 byte (λ f. eqb-false byte 10 e (sym f))) (no_newline_before bytes)
    ]

-- the bytes left after the first `k`
left_drop : (chunk : List ℕ) (at end k : ℕ) → at + k ≤ end → left chunk (at + k) end ≡ drop k (left chunk at end)
left_drop chunk at end k inside =
    let n : k + (end - (at + k)) ≡ end - at = omega arith in
    rw (← drop-drop k at chunk, take_drop k (end - (at + k)) (drop at chunk), n)

length_left : (chunk : List ℕ) (at end : ℕ) → end ≤ length chunk → length (left chunk at end) ≡ end - at
length_left chunk at end inside = rw (length-take, length-drop) (omega arith)

-- ---- a line

module _ {line line' : List ℕ} {count : ℕ} {r : ChunkScan} (chunk : List ℕ) (input : Input) (within : InputIn chunk input) (room : count ≤ length line) (same : length line' ≡ length line)
    (k : Scanned line count (unread chunk input) input.next line' r) where
  -- the bytes of the line that are taken, and the input after them
  abbrev here : List ℕ
  here = before_newline (unread chunk input)

  abbrev rest : Input
  rest = record { next = r.next; end = input.end; got = input.got; reads = input.reads }

  here_begun : (begun : List ℕ) → LineSoFar begun line count → LineSoFar (begun ++ here) line' r.length
  here_begun begun b =
      record {
        no_newline = rw (elem_append 10 begun here, b.no_newline) (no_newline_before (unread chunk input));
        counted = omega (arith, k.kept.counted, b.counted, length-append begun here);
        kept = k.kept.same ∙ rw (b.kept, same, take_in (length line) begun here);
      }

  -- there is no newline among them: all are taken
  here_all : r.is_whole ≡ false → (here ≡ unread chunk input) × (r.next ≡ input.end)
  here_all e =
      let none : elem 10 (unread chunk input) ≡ false = sym k.whole ∙ e in
      let all : here ≡ unread chunk input = no_newline_whole (unread chunk input) none in
      (all, omega (arith, rw (none, all) at k.next, length_left chunk input.next input.end within.inside, within.ordered))

  -- the line ends
  here_line : r.is_whole ≡ true → (unread chunk input ≡ here ++ (10 ∷ unread chunk rest)) × (r.next ≤ input.end) × (input.next < r.next)
  here_line e =
      let there : elem 10 (unread chunk input) ≡ true = sym k.whole ∙ e in
      let n : ℕ = length here in
      let parts = newline_first (unread chunk input) there in
      let fits : suc n ≤ input.end - input.next = omega (arith, ap length parts, length-append here (10 ∷ drop (suc n) (unread chunk input)), length_left chunk input.next input.end within.inside) in
      let next : r.next ≡ input.next + suc n = omega (arith, rw there at k.next) in
      (parts ∙ rw (next, left_drop chunk input.next input.end (suc n) (omega arith)), omega (arith, next, fits), omega (arith, next))

  pub line_taken : LineTaken line count chunk input line' (record { input = rest; length = r.length; is_whole = r.is_whole })
  line_taken =
      elim (split r.is_whole) [
        | inl e ↦
            let p = here_line e in
            record {
              bytes = here;
              parts = rw e p.0;
              line_is = here_begun;
              within = record { ordered = p.1; counted = within.counted; inside = within.inside };
              moved = λ f. p.2;
              all_taken = λ f. absurd (false≢true (sym f ∙ e));
              same_read = record { end = refl; got = refl; reads = refl };
              inside = omega (arith, k.kept.counted, same);
            }
        | inr e ↦
            let p = here_all e in
            record {
              bytes = here;
              parts = rw e (sym p.0 ∙ sym (append-nil here));
              line_is = here_begun;
              within = record { ordered = omega (arith, p.1); counted = within.counted; inside = within.inside };
              moved = λ f. absurd (false≢true (sym e ∙ f));
              all_taken = λ f. omega (arith, p.1);
              same_read = record { end = refl; got = refl; reads = refl };
              inside = omega (arith, k.kept.counted, same);
            }
      ]
