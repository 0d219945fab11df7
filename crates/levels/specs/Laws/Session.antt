-- A whole run of `levels`. If the input is over and every write succeeded, the bytes passed to `write` are `printed` of the bytes
-- that were read. If a write failed, they are a prefix of that. Assumes nothing.
use Rattle.std.specs.Prelude.{◌≡◌, refl, true, false, ℕ, take}
use Rattle.std.proofs.Common.{sym, ◌∙◌}
use Rattle.std.proofs.Math.Path.{ap}
use Rattle.std.proofs.lemmas.Bool.{false≢true}
use mathlib.Core.List.{List, [], ◌∷◌, ◌++◌, append_assoc, append-nil}
use Rattle.lists.specs.Lists.{flatten}
use Rattle.lists.specs.Laws.Rows.{flatten_append}
use Rattle.levels_spec.specs.Response.{line_result}
use Rattle.levels_spec.specs.Session.{program_lengths, lines_in, session, printed}
use Rattle.levels_spec.specs.Laws.Session.{lines_ended, lines_last}
use Rattle.levels_io.specs.declared.output.WriteResult.{WriteResult}
use Rattle.levels.specs.Run.{Program, Step, line_step, read_step, last_step, over_step, Steps, begin, then, Machine, bytes_written, Ending, input_over, write_failed, Ran, input, output}

-- the bytes that a program still prints if these bytes are all that is still read
abbrev remaining_output : Program → List ℕ → List ℕ
remaining_output p bytes = p.buffered ++ session p.table (lines_in (p.begun ++ (p.unread ++ bytes)))

step_output : {p q : Program} {bytes : List ℕ} {reads : List (List ℕ)} → Step p bytes reads q false → (more : List ℕ)
    → bytes ++ remaining_output q more ≡ remaining_output p (flatten reads ++ more)
unfolding flatten session
step_output {p} (line_step bytes rest handed buffered unread no_newline parts) more =
    let text = (line_result program_lengths p.table (p.begun ++ bytes)).text in
    let later = session (line_result program_lengths p.table (p.begun ++ bytes)).table (lines_in (rest ++ more)) in
    let all : p.begun ++ (p.unread ++ more) ≡ (p.begun ++ bytes) ++ (10 ∷ (rest ++ more)) =
    ap (λ (x : List ℕ). p.begun ++ (x ++ more)) unread
    ∙ ap (λ (x : List ℕ). p.begun ++ x) (append_assoc bytes (10 ∷ rest) more)
    ∙ sym (append_assoc p.begun bytes (10 ∷ (rest ++ more))) in
    let lines : lines_in (p.begun ++ (p.unread ++ more)) ≡ (p.begun ++ bytes) ∷ lines_in (rest ++ more) =
    ap lines_in all ∙ lines_ended (p.begun ++ bytes) (rest ++ more) no_newline in
    ap (λ (x : List ℕ). handed ++ x) (append_assoc buffered text later)
    ∙ sym (append_assoc handed buffered (text ++ later))
    ∙ ap (λ (x : List ℕ). x ++ (text ++ later)) (sym parts)
    ∙ ap (λ (x : List (List ℕ)). p.buffered ++ session p.table x) (sym lines)
step_output {p} (read_step new_bytes no_newline) more =
    ap (λ (x : List ℕ). p.buffered ++ session p.table (lines_in x))
    (append_assoc p.begun p.unread (new_bytes ++ more)
    ∙ ap (λ (x : List ℕ). p.begun ++ (p.unread ++ (x ++ more))) (sym (append-nil new_bytes)))

steps_output : {p q : Program} {bytes : List ℕ} {reads : List (List ℕ)} → Steps p bytes reads q → (more : List ℕ) → bytes ++ remaining_output q more ≡ remaining_output p (flatten reads ++ more)
unfolding flatten
steps_output begin more = refl
steps_output {p} (then {handed} {bytes} {reads} {read} {q} {r} steps step) more =
    append_assoc handed bytes (remaining_output r more)
    ∙ ap (λ (x : List ℕ). handed ++ x) (step_output step more)
    ∙ steps_output steps (flatten read ++ more)
    ∙ ap (remaining_output p) (sym (append_assoc (flatten reads) (flatten read) more) ∙ ap (λ (x : List ℕ). x ++ more) (sym (flatten_append reads read)))

-- the last step
over_output : {p q : Program} {bytes : List ℕ} → Step p bytes [] q true → bytes ++ q.buffered ≡ remaining_output p []
unfolding session lines_in
over_output {p} (last_step handed buffered no_newline some parts) =
    let text = (line_result program_lengths p.table (p.begun ++ p.unread)).text in
    let lines : lines_in (p.begun ++ (p.unread ++ [])) ≡ (p.begun ++ p.unread) ∷ [] =
    ap (λ (x : List ℕ). lines_in (p.begun ++ x)) (append-nil p.unread) ∙ lines_last (p.begun ++ p.unread) no_newline some in
    sym (append_assoc handed buffered text)
    ∙ ap (λ (x : List ℕ). x ++ text) (sym parts)
    ∙ ap (λ (x : List ℕ). p.buffered ++ x) (sym (append-nil text))
    ∙ ap (λ (x : List (List ℕ)). p.buffered ++ session p.table x) (sym lines)
over_output {p} (over_step no_line none_left) =
    let lines : lines_in (p.begun ++ (p.unread ++ [])) ≡ [] = rw (no_line, none_left) in
    sym (append-nil p.buffered) ∙ ap (λ (x : List (List ℕ)). p.buffered ++ session p.table x) (sym lines)

module _ {m : Machine} {handed : WriteResult} where
  ends_all : {p : Program} {bytes : List ℕ} → Ending m handed p bytes → handed.is_written ≡ true → bytes ≡ remaining_output p []
  ends_all (input_over {p} {q} {bytes} step holds end all) written =
      ap (λ (x : List ℕ). bytes ++ x) (ap (λ (n : ℕ). take n m.text) all ∙ sym holds.bytes_buffered) ∙ over_output step
  ends_all (write_failed unwritten buffered) written = absurd (false≢true (sym unwritten ∙ written))

  ends_begun : {p : Program} {bytes : List ℕ} → Ending m handed p bytes → (rest : List ℕ) × (bytes ++ rest ≡ remaining_output p [])
  ends_begun (input_over {p} {q} {bytes} step holds end all) = (
    [],
    append-nil (bytes ++ bytes_written handed m)
        ∙ ap (λ (x : List ℕ). bytes ++ x) (ap (λ (n : ℕ). take n m.text) all ∙ sym holds.bytes_buffered)
        ∙ over_output step,
  )
  ends_begun (write_failed {p} unwritten buffered) = (session p.table (lines_in (p.begun ++ (p.unread ++ []))), rw buffered)

  -- the whole run, starting with the first read
  run_output : (r : Ran m handed) → r.bytes ++ remaining_output r.end [] ≡ printed (input r)
  unfolding printed
  run_output r =
      steps_output r.steps []
      ∙ ap (λ (x : List ℕ). printed (r.first ++ x)) (append-nil (flatten r.reads))

  pub run_printed : (r : Ran m handed) → handed.is_written ≡ true → output r ≡ printed (input r)
  run_printed r written = ap (λ (x : List ℕ). r.bytes ++ x) (ends_all r.ending written) ∙ run_output r

  pub run_begins : (r : Ran m handed) → (rest : List ℕ) × (output r ++ rest ≡ printed (input r))
  run_begins r =
      let b = ends_begun r.ending in
      (b.0, append_assoc r.bytes r.last b.0 ∙ ap (λ (x : List ℕ). r.bytes ++ x) b.1 ∙ run_output r)
