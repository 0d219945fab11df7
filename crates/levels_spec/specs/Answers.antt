-- The contract of answering a line on lent stores: the bytes of the answer are at the start of a lent text, and the header and
-- stores hold the table after the line. Assumes nothing.
use Rattle.std.specs.Prelude.{ℕ, ◌≤◌, ◌≡◌, true, List, length, take, replicate}
use Rattle.std.proofs.Math.Option.{Option, none, some}
use Rattle.plain_table.specs.Plain.{Plain}
use Rattle.plain_table.specs.Refusing.{Lengths}
use Rattle.table.specs.Refusing.{outside}
use Rattle.table.specs.Outcomes.{Stores, compaction_words, lengths_lent, Represents}
use Rattle.levels_spec.specs.Response.{line_result}

-- The table that a header and stores hold. Before the first accepted O there is none, and check 1 refuses the header.
pub data Held : Option Plain → Stores → Type 0 where
  no_table : {s : Stores} → outside s.header ≡ true → Held none s
  table : {p : Plain} {s : Stores} → Represents p s → Held (some p) s

-- the lengths of the stores; the compaction words are those for 1,024 rows
abbrev pub lent : Stores → Lengths
lent s = lengths_lent s (compaction_words (replicate 16 0) (replicate 16 0))

-- A line is answered: for every table that the stores hold before, the first `used` bytes of the text and the table that the stores hold
-- afterwards are those that `line_result` defines.
pub record Answering (line : List ℕ) (s s' : Stores) (text : List ℕ) (used : ℕ) : Type 0 where
  pub inside : used ≤ length text
  pub answers : (t : Option Plain) → Held t s
      → (take used text ≡ (line_result (lent s) t line).text) × Held (line_result (lent s) t line).table s'
