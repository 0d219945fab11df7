-- An opening's numbers, staged records, how many words each takes, the inserts among them, and when a compaction is due. These
-- definitions do not depend on how rows are stored. Assumes nothing.
use Rattle.std.specs.Prelude.{ℕ, ◌+◌, ◌/◌, max, Bool, not, ◌&&◌, List, [], ◌∷◌, take, get_or, leb, ltb, eqb}
use Rattle.lists.specs.Lists.{same}
use Rattle.cells.specs.Cells.{is_dead}

-- an opening's numbers
pub record Opening : Type 0 where
  pub columns : ℕ
  pub keys : ℕ
  pub sort : ℕ
  pub rule : ℕ
  pub capacity : ℕ

-- the opening that five words encode
abbrev pub opening_in : List ℕ → Opening
opening_in words =
    record { columns = get_or words 0 0; keys = get_or words 1 0; sort = get_or words 2 0; rule = get_or words 3 0; capacity = get_or words 4 0 }

-- "their bounds": 1 to 8 columns, 1 to that many keys, a sort column, rules 0 to 3, a capacity of 1 to 65,536
unfoldable pub openable : Opening → Bool
openable o =
    leb 1 o.columns && leb o.columns 8 && leb 1 o.keys && leb o.keys o.columns && ltb o.sort o.columns
    && leb o.rule 3 && leb 1 o.capacity && leb o.capacity 65536

-- a staged record: an insert, a removal by key, a removal by row
pub data Staged : Type 0 where
  insert : List ℕ → Staged
  remove_key : List ℕ → Staged
  remove_row : ℕ → List ℕ → Staged

-- "columns plus 2, keys plus 2, keys plus 3"
unfoldable pub words_of : Opening → Staged → ℕ
words_of o (insert cells) = o.columns + 2
words_of o (remove_key key) = o.keys + 2
words_of o (remove_row row key) = o.keys + 3

unfoldable pub words_all : Opening → List Staged → ℕ
words_all o [] = 0
words_all o (r ∷ rs) = words_of o r + words_all o rs

-- the inserts among staged records, in staging order
unfoldable pub inserts : List Staged → List (List ℕ)
inserts [] = []
inserts (insert cells ∷ rs) = cells ∷ inserts rs
inserts (remove_key key ∷ rs) = inserts rs
inserts (remove_row row key ∷ rs) = inserts rs

-- the first cells are equal to this key
unfoldable pub has_key : ℕ → List ℕ → List ℕ → Bool
has_key keys key cells = same (take keys cells) key

-- "An insert with a dead first cell is skipped"
unfoldable pub skipped : List ℕ → Bool
skipped cells = is_dead (get_or cells 0 0)

-- "if dead rows outnumber the larger of 16 and half the row count (rounded down)", and not at the last generation
unfoldable pub compaction_due : ℕ → ℕ → ℕ → Bool
compaction_due dead rows generation = ltb (max 16 (rows / 2)) dead && not (eqb generation 4294967295)
