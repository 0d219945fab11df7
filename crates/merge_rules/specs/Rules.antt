-- Merge rules (document 01, "Merge rules", and document 02, change 4): the row that a rule makes from an old and a new row of the
-- same key. Assumes nothing.
use Rattle.std.specs.Prelude.{ℕ, suc, ◌-◌, Bool, false, cond, not, ◌&&◌, ◌||◌, List, [], ◌∷◌, leb, ltb, eqb, ℤ, pos, negsuc}
use Rattle.std.proofs.Math.Option.{Option, none, some}
use Rattle.std.specs.Int.Signed.{lt_z}

-- "a cell outside keys and sort column"
unfoldable pub ruled_column : ℕ → ℕ → ℕ → Bool
ruled_column keys sort column = leb keys column && not (eqb column sort)

-- "recorded in two's complement, so that 4294967295 means minus one": the number, from minus 2147483648 to 2147483647, that a cell
-- encodes. `pos n` is n, and `negsuc n` is minus (n + 1)
unfoldable pub signed : ℕ → ℤ
signed cell = cond (ltb cell 2147483648) (pos cell) (negsuc (4294967295 - cell))

-- "compare cells as signed numbers": "the smaller and the larger" of two cells
unfoldable pub smaller : ℕ → ℕ → ℕ
smaller a b = cond (lt_z (signed b) (signed a)) b a

unfoldable pub larger : ℕ → ℕ → ℕ
larger a b = cond (lt_z (signed a) (signed b)) b a

-- the cell that the rule takes: 0 the old, 1 the new, 2 the smaller, 3 the larger
unfoldable pub taken : ℕ → ℕ → ℕ → ℕ
taken rule old new =
    cond (eqb rule 1) new (cond (eqb rule 2) (smaller old new) (cond (eqb rule 3) (larger old new) old))

-- "Key cells stay; the sort cell is the new row's"
unfoldable pub made_cell : ℕ → ℕ → ℕ → ℕ → ℕ → ℕ → ℕ
made_cell rule keys sort column old new =
    cond (ruled_column keys sort column) (taken rule old new) (cond (eqb column sort) new old)

-- the resulting row, from this column on
unfoldable pub made_from : ℕ → ℕ → ℕ → ℕ → List ℕ → List ℕ → List ℕ
made_from rule keys sort column [] new = []
made_from rule keys sort column (a ∷ old) [] = []
made_from rule keys sort column (a ∷ old) (b ∷ new) =
    made_cell rule keys sort column a b ∷ made_from rule keys sort (suc column) old new

-- from this column on, a cell outside keys and sort column changes
unfoldable pub changes_from : ℕ → ℕ → ℕ → ℕ → List ℕ → List ℕ → Bool
changes_from rule keys sort column [] new = false
changes_from rule keys sort column (a ∷ old) [] = false
changes_from rule keys sort column (a ∷ old) (b ∷ new) =
    (ruled_column keys sort column && not (eqb (taken rule a b) a)) || changes_from rule keys sort (suc column) old new

-- the resulting row, or none: "the old row is kept"
unfoldable pub ruled : ℕ → ℕ → ℕ → List ℕ → List ℕ → Option (List ℕ)
ruled rule keys sort old new =
    cond (changes_from rule keys sort 0 old new) (some (made_from rule keys sort 0 old new)) none

-- "For rules 0 and 1 the surviving row is handed back as that part of the row store or of the pending store": here its cells;
-- `surviving_row` (src/lib.rt) returns the part of the row store or of the pending store that has them. "Rule 0 keeps the old row.
-- Rule 1 takes the new row if a cell outside keys and sort column differs, else keeps the old"
unfoldable pub survivor : ℕ → ℕ → ℕ → List ℕ → List ℕ → List ℕ
survivor rule keys sort old new = cond (changes_from rule keys sort 0 old new) new old
