-- The contract of a step follows from the contracts of its parts. Assumes nothing.
use Rattle.std.specs.Prelude.{ℕ, ◌+◌, ◌-◌, ◌*◌, ◌≤◌, ◌<◌, ◌≡◌, refl, Bool, true, false, ◌⊎◌, List, [], ◌∷◌, ◌++◌, length, take, eqb}
use Rattle.std.proofs.Common.{sym, ap, ◌∙◌, inl, inr, append-nil, arith, length-append, eq-eqb, ne_eqb}
use Rattle.std.proofs.lemmas.Bool.{false≢true}
use Rattle.std.proofs.Math.Seq.{take-nil}
use Rattle.lists.specs.Lists.{elem}
use Rattle.lists.specs.Laws.Filter.{split}
use Rattle.table.specs.Outcomes.{Stores}
use Rattle.levels_spec.specs.Response.{line_result}
use Rattle.levels_spec.specs.Answers.{Held, lent}
use Rattle.levels_spec.specs.Session.{program_lengths}
use Rattle.levels_spec.specs.Laws.Truncated.{line_truncated}
use Rattle.levels_answer.specs.inner.Reading.{AnswerAppended}
use Rattle.levels_io.specs.declared.input.Input.{Input}
use Rattle.levels_io.specs.declared.input.TakenLine.{TakenLine}
use Rattle.levels_io.specs.Input.{bytes_read, unread, AtEnd, LineSoFar}
use Rattle.levels_io.specs.inner.Scanning.{left_none}
use Rattle.levels_io.specs.inner.Taking.{LineTaken}
use Rattle.levels_io.specs.declared.output.WriteResult.{WriteResult}
use Rattle.levels_io.specs.inner.Flushing.{RoomMade}
use Rattle.levels.specs.declared.LineProgress.{LineProgress}
use Rattle.levels.specs.declared.State.{State}
use Rattle.levels.specs.Run.{Program, program, answered, line_step, read_step, last_step, over_step, Machine, Holds}
use Rattle.levels.specs.inner.Turns.{Within, StepMade, Turned}
use Rattle.levels.specs.inner.Advancing.{ReadOn, Ready, Over, Advanced, found, more, ended, nothing_left}

-- Termination measure: the most bytes that may still be taken. Each step but the last decreases it.
abbrev pub input_left : Input → ℕ
input_left input = input.reads * 4097 + (input.end - input.next)

pub record Shorter (before after : Input) (over : Bool) : Type 0 where
  pub shorter : over ≡ false → input_left after < input_left before

-- the lengths of the program's stores
pub lent_program : (s : Stores) → length s.rows ≡ 8192 → length s.keys ≡ 2048 → length s.sorts ≡ 2048 → length s.pending ≡ 2048
    → lent s ≡ program_lengths
lent_program s rows keys sorts pending = rw (rows, keys, sorts, pending)

pub begun_none : (line : List ℕ) → LineSoFar [] line 0
unfolding elem
begun_none line = record { no_newline = refl; counted = omega arith; kept = sym (take-nil (length line)) }

-- ---- the parts of a step

no_bytes : (bytes : List ℕ) → length bytes ≡ 0 → bytes ≡ []
no_bytes [] e = refl
no_bytes (byte ∷ bytes) e = absurd (omega (arith, e))

-- all buffered bytes are written, or none
buffered_parts : (text : List ℕ) (used count : ℕ) → (count ≡ used) ⊎ (count ≡ 0) → take used text ≡ take count text ++ take (used - count) text
buffered_parts text used count (inl all) =
    let none : used - count ≡ 0 = omega (arith, all) in rw (none, append-nil (take count text), all)
buffered_parts text used count (inr none) = let all : used - count ≡ used = omega (arith, none) in rw (all, none)

room_parts : (text room : ℕ) {used : ℕ} {handed : WriteResult} → RoomMade text used room handed → (handed.count ≡ used) ⊎ (handed.count ≡ 0)
room_parts text room (inl all) = inl all
room_parts text room (inr none) = inr none.0

room_failed : (text room : ℕ) {used : ℕ} {handed : WriteResult} → RoomMade text used room handed → handed.is_written ≡ false → handed.count ≡ used
room_failed text room (inl all) e = all
room_failed text room (inr none) e = absurd (false≢true (sym e ∙ none.1))

pub room_left : {text used room : ℕ} {handed : WriteResult} → used ≤ text → RoomMade text used room handed → room ≤ text → (used - handed.count) + room ≤ text
room_left inside (inl all) wide = omega (arith, all)
room_left inside (inr none) wide = omega (arith, none.0, none.2)

not_at_end : (input : Input) → (0 < bytes_read input.got) × (0 < input.reads) → AtEnd input → ⊥
not_at_end input goes (inl none) = omega (arith, goes.0, none)
not_at_end input goes (inr none) = omega (arith, goes.1, none)

parts_used : {used count : ℕ} → (count ≡ used) ⊎ (count ≡ 0) → count ≤ used
parts_used (inl all) = omega (arith, all)
parts_used (inr none) = omega (arith, none)

abbrev state_of : Stores → Input → ℕ → ℕ → State
state_of s input count used = record { header = s.header; input = input; length = count; used = used }

module _ (s : Stores) (line₀ : List ℕ) (count : ℕ) (chunk : List ℕ) (input : Input) (text : List ℕ) (used : ℕ) (line' chunk' : List ℕ) (r : LineProgress) where
  -- the machine before a step, and after a step that answers no line
  abbrev before : Machine
  before = record { stores = s; state = state_of s input count used; line = line₀; chunk = chunk; text = text }

  abbrev silent : Machine
  silent =
      record { stores = s; state = state_of s r.input r.length (used - r.handed.count); line = line'; chunk = chunk'; text = text }

  abbrev Taking : TakenLine → Type 0
  Taking taken = LineTaken line₀ count chunk input line' taken

  -- no read was made
  same_left : {taken : TakenLine} → Taking taken → r.input ≡ taken.input → r.input.reads ≡ input.reads
  same_left k same = ap (λ (i : Input). i.reads) same ∙ k.same_read.reads

  same_reads : {taken : TakenLine} → Taking taken → r.input ≡ taken.input → eqb r.input.reads input.reads ≡ true
  same_reads k same = eq-eqb r.input.reads input.reads (same_left k same)

  -- ---- a write failed
  failed_stepped : (taken : TakenLine) → Within before → Taking taken → r.input ≡ taken.input → r.length ≡ taken.length → chunk' ≡ chunk → r.handed.is_written ≡ false
      → r.handed.count ≡ used → r.is_over ≡ true → Turned before r.handed silent r.is_over
  failed_stepped taken within k same kept still unwritten all is_over =
      record {
        within = record { input_in = rw (still, same) k.within; line_in = omega (arith, kept, k.inside); text_in = omega (arith, within.text_in) };
        stepped =
            record {
              reads_left = rw (same_reads k same) (omega (arith, same_left k same));
              none_past_end = λ end. same_left k same;
              made = λ e. absurd (false≢true (sym unwritten ∙ e));
              at_end = λ e. absurd (false≢true (sym unwritten ∙ e));
              failed = λ e. (is_over, all, same_left k same, refl);
            };
      }

  -- ---- a read

  module _ (taken : TakenLine) (k : Taking taken) (none : taken.is_whole ≡ false) where
    all_bytes : (p : Program) → Holds p before → p.unread ≡ k.bytes
    all_bytes p h = h.bytes_unread ∙ rw none at k.parts ∙ append-nil k.bytes

    no_newline : (p : Program) → Holds p before → elem 10 (p.begun ++ p.unread) ≡ false
    no_newline p h = rw (all_bytes p h) (k.line_is p.begun h.line_begun).no_newline

    module _ (y : ReadOn chunk taken.input taken.length used chunk' r) (written : r.handed.is_written ≡ true) where
      one_read : r.input.reads + 1 ≡ input.reads
      one_read = (y.reads written).1.one_read ∙ k.same_read.reads

      fewer_reads : eqb r.input.reads input.reads ≡ false
      fewer_reads = ne_eqb r.input.reads input.reads (λ e. omega (arith, e, one_read))

      read_made : (p : Program) → Holds p before → StepMade p before r.handed silent false
      read_made p h =
          let bytes = take (bytes_read r.input.got) chunk' in
          let no_more : used - r.handed.count ≡ 0 = omega (arith, y.all_handed) in (
            program p.table (p.begun ++ p.unread) bytes [],
            rw (fewer_reads, y.all_handed, ← h.bytes_buffered) (read_step bytes (no_newline p h)),
            record {
              table_held = h.table_held;
              line_begun = rw (all_bytes p h, y.same_length) (k.line_is p.begun h.line_begun);
              bytes_unread = sym (rw (left_none chunk taken.input.next taken.input.end (k.all_taken none)) at (y.reads written).1.there);
              bytes_buffered = rw no_more;
            },
          )

      read_stepped : (0 < bytes_read taken.input.got) × (0 < taken.input.reads) → Turned before r.handed silent false
      read_stepped goes =
          record {
            within = record { input_in = (y.reads written).1.within; line_in = omega (arith, y.same_length, k.inside); text_in = omega (arith, y.all_handed) };
            stepped =
                record {
                  reads_left = rw fewer_reads (omega (arith, one_read));
                  none_past_end = λ end. absurd (not_at_end input (rw (← k.same_read.got, ← k.same_read.reads) goes) end);
                  made = λ e. read_made;
                  at_end = λ e f. absurd (false≢true f);
                  failed = λ e. absurd (false≢true (sym e ∙ written));
                };
          }

    -- ---- the input is over, with no line begun
    module _ (wide : 0 < length line') (end : AtEnd taken.input) (empty : taken.length ≡ 0) (y : Over taken.input r) (still : chunk' ≡ chunk) where
      nothing_begun : (p : Program) → Holds p before → length (p.begun ++ p.unread) ≡ 0
      nothing_begun p h =
          let counted = (k.line_is p.begun h.line_begun).counted in
          rw (all_bytes p h) (omega (arith, counted, empty, wide))

      over_made : (p : Program) → Holds p before → StepMade p before r.handed silent true
      over_made p h =
          let lengths = length-append p.begun p.unread in
          let begun : p.begun ≡ [] = no_bytes p.begun (omega (arith, lengths, nothing_begun p h)) in
          let unread-none : p.unread ≡ [] = no_bytes p.unread (omega (arith, lengths, nothing_begun p h)) in
          let as-used : used - r.handed.count ≡ used = omega (arith, y.none_handed) in (
            p,
            rw (same_reads k y.same_input, y.none_handed) (over_step begun unread-none),
            record {
              table_held = h.table_held;
              line_begun = rw (begun, y.no_length) (begun_none line');
              bytes_unread = unread-none ∙ sym (rw (still, y.same_input) (left_none chunk taken.input.next taken.input.end (k.all_taken none)));
              bytes_buffered = h.bytes_buffered ∙ rw as-used;
            },
          )

      over_stepped : Within before → Turned before r.handed silent true
      over_stepped within =
          record {
            within = record { input_in = rw (still, y.same_input) k.within; line_in = omega (arith, y.no_length); text_in = omega (arith, within.text_in) };
            stepped =
                record {
                  reads_left = rw (same_reads k y.same_input) (omega (arith, same_left k y.same_input));
                  none_past_end = λ past. same_left k y.same_input;
                  made = λ e. over_made;
                  at_end = λ e f. rw y.same_input end;
                  failed = λ e. absurd (false≢true (sym e ∙ y.written));
                };
          }

  -- ---- no line is answered
  no_line_stepped : 0 < length line' → Within before → Advanced line₀ count chunk input text used line' chunk' r → r.is_line ≡ false → Turned before r.handed silent r.is_over
  no_line_stepped wide within (found taken k whole y still) e =
      elim (split r.handed.is_written) [
        | inl w ↦ absurd (false≢true (sym e ∙ (y.answers w).0))
        | inr w ↦ failed_stepped taken within k y.same_input y.same_length still w (room_failed (length text) 103492 y.room w) (y.fails w).1
      ]
  no_line_stepped wide within (more taken k none goes y) e =
      elim (split r.handed.is_written) [
        | inl w ↦ rw (y.reads w).0 (read_stepped taken k none y w goes)
        | inr w ↦ failed_stepped taken within k (y.fails w).1 y.same_length (y.fails w).2 w y.all_handed (y.fails w).0
      ]
  no_line_stepped wide within (ended taken k none end some y still) e =
      elim (split r.handed.is_written) [
        | inl w ↦ absurd (false≢true (sym e ∙ (y.answers w).0))
        | inr w ↦ failed_stepped taken within k y.same_input y.same_length still w (room_failed (length text) 103492 y.room w) (y.fails w).1
      ]
  no_line_stepped wide within (nothing_left taken k none end empty y still) e = rw y.is_over (over_stepped taken k none wide end empty y still within)

  pub stepped_silent : {left : ℕ} → left ≡ used - r.handed.count → 0 < length line' → Within before → Advanced line₀ count chunk input text used line' chunk' r → r.is_line ≡ false
      → Turned before r.handed (record { stores = s; state = state_of s r.input r.length left; line = line'; chunk = chunk'; text = text }) r.is_over
  stepped_silent left wide within a e = rw left (no_line_stepped wide within a e)

  -- ---- a line is answered
  module _ {s' : Stores} {text' : List ℕ} {used' : ℕ} (wide : length line' ≡ 121) (Lent-is : lent s ≡ program_lengths)
      {left : ℕ} (left_is : left ≡ used - r.handed.count) (a : AnswerAppended (take r.length line') s s' text left text' used') where
    abbrev after_line : Machine
    after_line = record { stores = s'; state = state_of s' r.input 0 used'; line = line'; chunk = chunk'; text = text' }

    -- At most 121 bytes of a line are stored. This changes no answer.
    answered_holds : (p : Program) (bytes rest : List ℕ) → Held p.table s → take r.length line' ≡ take 121 bytes → rest ≡ unread chunk' r.input
        → Holds (answered p bytes rest (take (used - r.handed.count) text)) after_line
    answered_holds p bytes rest held cut there =
        let same : line_result (lent s) p.table (take r.length line') ≡ line_result program_lengths p.table bytes = rw (cut, line_truncated (lent s) p.table bytes, Lent-is) in
        record {
          table_held = rw same at (a.held p.table held);
          line_begun = begun_none line';
          bytes_unread = there;
          bytes_buffered = sym (rw (same, left_is) at (a.text_is p.table held));
        }

    module _ (taken : TakenLine) (k : Taking taken) {over : Bool} (y : Ready (length text) taken.input taken.length used over r) (still : chunk' ≡ chunk) where
      line_cut : (p : Program) → Holds p before → take r.length line' ≡ take 121 (p.begun ++ k.bytes)
      line_cut p h = rw (y.same_length, ← wide) (k.line_is p.begun h.line_begun).kept

      parts : (p : Program) → Holds p before → p.buffered ≡ take r.handed.count text ++ take (used - r.handed.count) text
      parts p h = h.bytes_buffered ∙ buffered_parts text used r.handed.count (room_parts (length text) 103492 y.room)

      line_stepped : r.handed.is_written ≡ true → ((p : Program) → Holds p before → StepMade p before r.handed after_line over) → (over ≡ true → AtEnd taken.input)
          → Turned before r.handed after_line over
      line_stepped written made end =
          record {
            within = record { input_in = rw (still, y.same_input) k.within; line_in = omega arith; text_in = a.inside };
            stepped =
                record {
                  reads_left = rw (same_reads k y.same_input) (omega (arith, same_left k y.same_input));
                  none_past_end = λ past. same_left k y.same_input;
                  made = λ e. made;
                  at_end = λ e f. rw y.same_input (end f);
                  failed = λ e. absurd (false≢true (sym e ∙ written));
                };
          }

    line_made : (taken : TakenLine) (k : Taking taken) → taken.is_whole ≡ true → Ready (length text) taken.input taken.length used false r → chunk' ≡ chunk
        → (p : Program) → Holds p before → StepMade p before r.handed after_line false
    line_made taken k whole y still p h =
        let rest = unread chunk taken.input in (
          answered p (p.begun ++ k.bytes) rest (take (used - r.handed.count) text),
          rw (same_reads k y.same_input)
              (line_step k.bytes rest (take r.handed.count text) (take (used - r.handed.count) text) (h.bytes_unread ∙ rw whole at k.parts) (k.line_is p.begun h.line_begun).no_newline (parts taken k y still p h)),
          answered_holds p (p.begun ++ k.bytes) rest h.table_held (line_cut taken k y still p h) (rw (still, y.same_input)),
        )

    last_made : (taken : TakenLine) (k : Taking taken) → taken.is_whole ≡ false → 0 < taken.length → Ready (length text) taken.input taken.length used true r → chunk' ≡ chunk
        → (p : Program) → Holds p before → StepMade p before r.handed after_line true
    last_made taken k none some y still p h =
        let counted = (k.line_is p.begun h.line_begun).counted in
        let more-than-none : 0 < length (p.begun ++ p.unread) = rw (all_bytes taken k none p h) (omega (arith, counted, some)) in (
          answered p (p.begun ++ p.unread) [] (take (used - r.handed.count) text),
          rw (same_reads k y.same_input)
              (last_step (take r.handed.count text) (take (used - r.handed.count) text) (no_newline taken k none p h) more-than-none (parts taken k y still p h)),
          answered_holds p (p.begun ++ p.unread) [] h.table_held (rw (all_bytes taken k none p h) (line_cut taken k y still p h)) (sym (rw (still, y.same_input) (left_none chunk taken.input.next taken.input.end (k.all_taken none)))),
        )

    pub stepped_line : Advanced line₀ count chunk input text used line' chunk' r → r.is_line ≡ true → Turned before r.handed after_line r.is_over
    stepped_line (found taken k whole y still) e =
        elim (split r.handed.is_written) [
          | inl w ↦ rw (y.answers w).1 (line_stepped taken k y still w (line_made taken k whole y still) (λ f. absurd (false≢true f)))
          | inr w ↦ absurd (false≢true (sym (y.fails w).0 ∙ e))
        ]
    stepped_line (more taken k none goes y) e = absurd (false≢true (sym y.no_line ∙ e))
    stepped_line (ended taken k none end some y still) e =
        elim (split r.handed.is_written) [
          | inl w ↦ rw (y.answers w).1 (line_stepped taken k y still w (last_made taken k none some y still) (λ f. end))
          | inr w ↦ absurd (false≢true (sym (y.fails w).0 ∙ e))
        ]
    stepped_line (nothing_left taken k none end empty y still) e = absurd (false≢true (sym y.no_line ∙ e))

-- ---- bounds

module _ {line₀ : List ℕ} {count : ℕ} {chunk : List ℕ} {input : Input} {text : List ℕ} {used : ℕ} {line' chunk' : List ℕ} {r : LineProgress} where
  -- no more bytes are written than are buffered
  pub handed_used : Advanced line₀ count chunk input text used line' chunk' r → r.handed.count ≤ used
  handed_used (found taken k whole y still) = parts_used (room_parts (length text) 103492 y.room)
  handed_used (more taken k none goes y) = omega (arith, y.all_handed)
  handed_used (ended taken k none end some y still) = parts_used (room_parts (length text) 103492 y.room)
  handed_used (nothing_left taken k none end empty y still) = omega (arith, y.none_handed)

  -- there is room for the answer, and the line's bytes are in its store
  pub room_for_line : used ≤ length text → 103492 ≤ length text → Advanced line₀ count chunk input text used line' chunk' r → r.is_line ≡ true
      → (r.length ≤ length line') × ((used - r.handed.count) + 103492 ≤ length text)
  room_for_line inside wide (found taken k whole y still) e = (omega (arith, y.same_length, k.inside), room_left inside y.room wide)
  room_for_line inside wide (more taken k none goes y) e = absurd (false≢true (sym y.no_line ∙ e))
  room_for_line inside wide (ended taken k none end some y still) e = (omega (arith, y.same_length, k.inside), room_left inside y.room wide)
  room_for_line inside wide (nothing_left taken k none end empty y still) e = absurd (false≢true (sym y.no_line ∙ e))

  -- each step consumes a line or a read
  pub step_shorter : (r.is_line ≡ false → length chunk' ≡ 4096) → Advanced line₀ count chunk input text used line' chunk' r → Shorter input r.input r.is_over
  step_shorter wide (found taken k whole y still) =
      record {
        shorter = λ e. rw y.same_input (omega (arith, k.moved whole, k.within.ordered, k.same_read.end, k.same_read.reads));
      }
  step_shorter wide (more taken k none goes y) =
      record {
        shorter = λ e.
            elim (split r.handed.is_written) [
              | inl w ↦ omega (arith, (y.reads w).1.one_read, (y.reads w).1.within.inside, wide y.no_line, k.same_read.reads)
              | inr w ↦ absurd (false≢true (sym e ∙ (y.fails w).0))
            ];
      }
  step_shorter wide (ended taken k none end some y still) =
      record {
        shorter = λ e.
            elim (split r.handed.is_written) [
              | inl w ↦ absurd (false≢true (sym e ∙ (y.answers w).1))
              | inr w ↦ absurd (false≢true (sym e ∙ (y.fails w).1))
            ];
      }
  step_shorter wide (nothing_left taken k none end empty y still) = record { shorter = λ e. absurd (false≢true (sym e ∙ y.is_over)) }
