-- Conditions (document 01, "Conditions"): which are known, and which a row meets. Assumes nothing.
use Rattle.std.specs.Prelude.{ℕ, Bool, cond, not, ◌&&◌, ◌||◌, List, get_or, leb, ltb, eqb}
use Rattle.lists.specs.Lists.{all}
use Rattle.cells.specs.Cells.{is_dead}
use Rattle.constraints.specs.declared.Constraint.{Constraint}

-- A condition is known if its kind is at most 5 and its column exists; for kind 0 its value must be a column too. The paper's 6 is for
-- the others: "kind above 5 or a column that does not exist"
unfoldable pub known : ℕ → Constraint → Bool
known columns c =
    leb c.kind 5 && ltb c.column columns && (not (eqb c.kind 0) || ltb c.value columns)

-- "Kinds 1 to 5 compare a column with a value: equal, less, greater, at most, at least, unsigned". The last case is kind 5: `met`
-- handles kind 0, and other kinds are not known
unfoldable pub compares : ℕ → ℕ → ℕ → Bool
compares kind cell value =
    cond (eqb kind 1) (eqb cell value)
    (cond (eqb kind 2) (ltb cell value)
    (cond (eqb kind 3) (ltb value cell) (cond (eqb kind 4) (leb cell value) (leb value cell))))

-- a row meets a condition. "Kind 0: two columns equal"
unfoldable pub met : List ℕ → Constraint → Bool
met row c =
    cond (eqb c.kind 0)
    (eqb (get_or row c.column 0) (get_or row c.value 0))
    (compares c.kind (get_or row c.column 0) c.value)

-- a row is live if its first cell is not the dead mark
unfoldable pub is_live : List ℕ → Bool
is_live row = not (is_dead (get_or row 0 0))

-- "The empty list is met by every live row; a dead row meets none"
unfoldable pub meets : List ℕ → List Constraint → Bool
meets row conditions = is_live row && all (met row) conditions
