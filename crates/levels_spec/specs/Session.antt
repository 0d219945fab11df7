-- What `levels` prints for a whole input (document 01, "The program `levels`"): its lines in order, starting without a table. Bytes
-- are numbers, in ASCII. Assumes nothing.
use Rattle.std.specs.Prelude.{ℕ, cond, List, [], ◌∷◌, ◌++◌, eqb}
use Rattle.std.proofs.Math.Option.{Option, none}
use Rattle.levels_text.specs.Lines.{prepend_to_first}
use Rattle.plain_table.specs.Refusing.{Lengths}
use Rattle.plain_table.specs.Plain.{Plain}
use Rattle.levels_spec.specs.Response.{line_result}

-- "Its capacity is at most 1,024, over a row store of 8,192 cells and 2,048 pending words": the other stores fit as many rows
abbrev pub program_lengths : Lengths
program_lengths = record { rows = 8192; keys = 2048; sorts = 2048; pending = 2048; live_words = 16; base_words = 16 }

-- the lines of an input: the bytes before each newline (10), and the bytes after the last newline, if there are any
unfoldable pub lines_in : List ℕ → List (List ℕ)
lines_in [] = []
lines_in (byte ∷ bytes) = cond (eqb byte 10) ([] ∷ lines_in bytes) (prepend_to_first byte (lines_in bytes))

-- the text that lines print, in order, from a given table on
unfoldable pub session : Option Plain → List (List ℕ) → List ℕ
session t [] = []
session t (line ∷ lines) = (line_result program_lengths t line).text ++ session (line_result program_lengths t line).table lines

-- the text that an input prints
unfoldable pub printed : List ℕ → List ℕ
printed input = session none (lines_in input)
