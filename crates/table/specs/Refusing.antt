-- The refusals of each operation, "on any numbers at all": one list of checks each, over the header and the lengths of the lent
-- stores. Each function returns the first number that applies, 0 if none. Assumes nothing.
use Rattle.std.specs.Prelude.{ℕ, ◌*◌, Bool, not, ◌&&◌, ◌||◌, List, [], ◌∷◌, ◌++◌, leb, ltb, eqb}
use Rattle.refusals.specs.Refusals.{Check, check, first_refusal}
use Rattle.constraints.specs.declared.Constraint.{Constraint}
use Rattle.constraints.specs.Constraints.{known}
use Rattle.plain_table.specs.Staged.{openable, Staged}
use Rattle.plain_table.specs.Refusing.{Lengths, stage_checks, merge_checks, compact_checks, clear_checks}
use Rattle.table.specs.declared.Header.{Header}
use Rattle.table.specs.Numbers.{opening_of}

-- test 1: "header numbers outside their bounds (dead rows or sort entries above the row count, row count above capacity,
-- keys 0 or above columns, sort column not a column, rule above 3, ..)"
unfoldable pub outside : Header → Bool
outside h = not (openable (opening_of h) && leb h.rows h.capacity && leb h.dead h.rows && leb h.entries h.rows)

-- ".. pending words used above the pending store", if that store is lent
unfoldable pub pending_outside : Header → ℕ → Bool
pending_outside h pending = outside h || ltb pending h.pending

-- test 2: "a lent store shorter than needed"
unfoldable pub rows_short : Header → ℕ → Bool
rows_short h rows = ltb rows (h.capacity * h.columns)

unfoldable pub pairs_short : Header → ℕ → Bool
pairs_short h store = ltb store (2 * h.capacity)

-- The calls that change a table use the checks of the plain table, with this test 1.

unfoldable pub stage_refusal : Header → ℕ → Staged → ℕ
stage_refusal h pending r = stage_checks (pending_outside h pending) (opening_of h) h.rows h.pending pending r

unfoldable pub merge_refusal : Header → Lengths → ℕ
merge_refusal h l = merge_checks (pending_outside h l.pending) (opening_of h) l

unfoldable pub compact_refusal : Header → Lengths → ℕ
compact_refusal h l = compact_checks (outside h) (opening_of h) h.generation l

unfoldable pub clear_refusal : Header → ℕ → ℕ
clear_refusal h keys = clear_checks (outside h) (opening_of h) h.generation h.rows keys

-- *Key lookup*: 1, 2, 3
unfoldable pub lookup_checks : Header → ℕ → ℕ → ℕ → List Check
lookup_checks h rows keys cells =
    check (outside h) 1 ∷ check (rows_short h rows || pairs_short h keys) 2 ∷ check (not (eqb cells h.keys)) 3 ∷ []

unfoldable pub lookup_refusal : Header → ℕ → ℕ → ℕ → ℕ
lookup_refusal h rows keys cells = first_refusal (lookup_checks h rows keys cells)

-- *one cell*: the same, and 6
unfoldable pub cell_refusal : Header → ℕ → ℕ → ℕ → ℕ → ℕ
cell_refusal h rows keys cells column = first_refusal (lookup_checks h rows keys cells ++ (check (leb h.columns column) 6 ∷ []))

-- *Fast range*: 1, 2, 6
unfoldable pub fast_refusal : Header → ℕ → Constraint → ℕ
fast_refusal h sorts c =
    first_refusal (check (outside h) 1 ∷ check (pairs_short h sorts) 2 ∷ check (not (known h.columns c)) 6 ∷ [])

-- *Version*: 1
unfoldable pub version_refusal : Header → ℕ
version_refusal h = first_refusal (check (outside h) 1 ∷ [])

-- *Rows since*: 1, 5 "above the row count"
unfoldable pub since_refusal : Header → ℕ → ℕ
since_refusal h row = first_refusal (check (outside h) 1 ∷ check (ltb h.rows row) 5 ∷ [])

-- *the rows since a noted version*: 1, 18 "another generation or a noted count above the row count"
unfoldable pub noted_refusal : Header → ℕ → ℕ → ℕ
noted_refusal h generation count =
    first_refusal (check (outside h) 1 ∷ check (not (eqb generation h.generation) || ltb h.rows count) 18 ∷ [])

-- the soundness check: 1, 2
unfoldable pub sound_refusal : Header → ℕ → ℕ → ℕ → ℕ → ℕ
sound_refusal h rows keys sorts pending =
    first_refusal (check (pending_outside h pending) 1 ∷ check (rows_short h rows || pairs_short h keys || pairs_short h sorts) 2 ∷ [])
