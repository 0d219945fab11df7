-- The program `levels` as it runs: a sequence of steps, each with the bytes that it passes to `write` and the bytes that it reads.
-- The bytes read are defined by the return value of `read` and by the chunk after it; the bytes written, by the return value of the
-- write function. `Stepped` ties the bytes of one step to the chunk after its read and to the text before its write. `Ran` joins
-- steps, but a contract cannot name the reads and writes of a whole run: that its `reads` and `bytes` are those of its steps is seen
-- in the loop of `run` (src/main.rt). Assumes nothing.
use Rattle.std.specs.Prelude.{ℕ, suc, ◌+◌, ◌<◌, ◌≡◌, Bool, true, false, cond, List, [], ◌∷◌, ◌++◌, length, take, eqb}
use Rattle.std.proofs.Math.Option.{Option, none}
use Rattle.lists.specs.Lists.{elem, flatten}
use Rattle.plain_table.specs.Plain.{Plain}
use Rattle.table.specs.Outcomes.{Stores, stores}
use Rattle.levels_spec.specs.Response.{line_result}
use Rattle.levels_spec.specs.Answers.{Held}
use Rattle.levels_spec.specs.Session.{program_lengths}
use Rattle.levels_io.specs.Input.{bytes_read, unread, AtEnd, LineSoFar}
use Rattle.levels_io.specs.declared.output.WriteResult.{WriteResult}
use Rattle.levels.specs.declared.State.{State}

-- The state of the program between two steps: its table; the bytes of a line whose newline is not found yet; the bytes after them
-- that were read and are not taken yet; and the answers that are not passed to `write` yet.
pub record Program : Type 0 where
  pub table : Option Plain
  pub begun : List ℕ
  pub unread : List ℕ
  pub buffered : List ℕ

abbrev pub program : Option Plain → List ℕ → List ℕ → List ℕ → Program
program table begun unread buffered = record { table = table; begun = begun; unread = unread; buffered = buffered }

-- The program after a line is answered: `unread` bytes remain, and the answer follows the bytes that remain buffered.
abbrev pub answered : Program → List ℕ → List ℕ → List ℕ → Program
answered p line unread buffered =
    program (line_result program_lengths p.table line).table [] unread (buffered ++ (line_result program_lengths p.table line).text)

-- One step: the bytes that it passes to `write`, the bytes of each of its reads (one or none), and whether the input is over.
pub data Step : Program → List ℕ → List (List ℕ) → Program → Bool → Type 0 where
  -- The line ends (10) among the unread bytes, and is answered. Some of the buffered bytes
  -- may be written first (the code does so if the answer has no room).
  line_step : {p : Program} (bytes rest handed buffered : List ℕ) → p.unread ≡ bytes ++ (10 ∷ rest) → elem 10 (p.begun ++ bytes) ≡ false
      → p.buffered ≡ handed ++ buffered → Step p handed [] (answered p (p.begun ++ bytes) rest buffered) false
  -- The line does not end: all buffered bytes are written, then one read is made.
  read_step : {p : Program} (read : List ℕ) → elem 10 (p.begun ++ p.unread) ≡ false
      → Step p p.buffered (read ∷ []) (program p.table (p.begun ++ p.unread) read []) false
  -- The line does not end, and the input is over: the bytes so far are the last line, if there are any.
  last_step : {p : Program} (handed buffered : List ℕ) → elem 10 (p.begun ++ p.unread) ≡ false → 0 < length (p.begun ++ p.unread)
      → p.buffered ≡ handed ++ buffered → Step p handed [] (answered p (p.begun ++ p.unread) [] buffered) true
  -- No byte of a line is left, and the input is over.
  over_step : {p : Program} → p.begun ≡ [] → p.unread ≡ [] → Step p [] [] p true

-- a sequence of steps, none of which ends the input
pub data Steps (p : Program) : List ℕ → List (List ℕ) → Program → Type 0 where
  begin : Steps p [] [] p
  then : {handed bytes : List ℕ} {reads read : List (List ℕ)} {q r : Program} → Steps p handed reads q → Step q bytes read r false
      → Steps p (handed ++ bytes) (reads ++ read) r

-- ---- the code's state between two steps, with the stores

-- `line` has the line so far. The first `state.used` bytes of `text` are buffered. The header is in the state and in the stores;
-- `machine` makes both equal.
pub record Machine : Type 0 where
  pub stores : Stores
  pub state : State
  pub line : List ℕ
  pub chunk : List ℕ
  pub text : List ℕ

abbrev pub machine : State → List ℕ → List ℕ → List ℕ → List ℕ → List ℕ → List ℕ → List ℕ → Machine
machine state line chunk rows keys sorts pending text =
    record { stores = stores state.header rows keys sorts pending; state = state; line = line; chunk = chunk; text = text }

pub record Holds (p : Program) (m : Machine) : Type 0 where
  pub table_held : Held p.table m.stores
  pub line_begun : LineSoFar p.begun m.line m.state.length
  pub bytes_unread : p.unread ≡ unread m.chunk m.state.input
  pub bytes_buffered : p.buffered ≡ take m.state.used m.text

-- the bytes that were passed to `write`, and those that were read, if a read was made
abbrev pub bytes_written : WriteResult → Machine → List ℕ
bytes_written handed m = take handed.count m.text

abbrev pub new_bytes : Machine → Machine → List (List ℕ)
new_bytes m m' =
    cond (eqb m'.state.input.reads m.state.input.reads) [] (take (bytes_read m'.state.input.got) m'.chunk ∷ [])

-- One step of the code.
pub record Stepped (m : Machine) (handed : WriteResult) (m' : Machine) (over : Bool) : Type 0 where
  pub reads_left : length (new_bytes m m') + m'.state.input.reads ≡ m.state.input.reads
  -- no read is made after the end of the input
  pub none_past_end : AtEnd m.state.input → m'.state.input.reads ≡ m.state.input.reads
  -- a step from every program that the machine represents
  pub made : handed.is_written ≡ true → (p : Program) → Holds p m → (after : Program) × Step p (bytes_written handed m) (new_bytes m m') after over × Holds after m'
  pub at_end : handed.is_written ≡ true → over ≡ true → AtEnd m'.state.input
  -- A write of all buffered bytes failed: this is the last step, and it makes no read.
  pub failed : handed.is_written ≡ false → (over ≡ true) × (handed.count ≡ m.state.used) × (m'.state.input.reads ≡ m.state.input.reads) × (m'.text ≡ m.text)

-- The only two ways a run ends, with the bytes that are written last: the input is over, and all buffered bytes are written; or a
-- write of them failed.
pub data Ending (m : Machine) (handed : WriteResult) : Program → List ℕ → Type 0 where
  input_over : {p q : Program} {bytes : List ℕ} → Step p bytes [] q true → Holds q m → AtEnd m.state.input → handed.count ≡ m.state.used
      → Ending m handed p (bytes ++ bytes_written handed m)
  write_failed : {p : Program} → handed.is_written ≡ false → bytes_written handed m ≡ p.buffered → Ending m handed p (bytes_written handed m)

-- A run that starts without a table. Bytes of a first read and of later reads, bytes written before the last ones, and steps exist that
-- end in the code's state. That these are the bytes that the code read and wrote is not stated here; see the head.
pub record Ran (m : Machine) (handed : WriteResult) : Type 0 where
  pub first : List ℕ
  pub reads : List (List ℕ)
  pub bytes : List ℕ
  pub end : Program
  pub steps : Steps (program none [] first []) bytes reads end
  pub last : List ℕ
  pub ending : Ending m handed end last
  pub reads_made : suc (length reads) + m.state.input.reads ≡ 18446744073709551615

-- all bytes that were read, and all bytes that were passed to `write`
abbrev pub input : {m : Machine} {handed : WriteResult} → Ran m handed → List ℕ
input r = r.first ++ flatten r.reads

abbrev pub output : {m : Machine} {handed : WriteResult} → Ran m handed → List ℕ
output r = r.bytes ++ r.last
