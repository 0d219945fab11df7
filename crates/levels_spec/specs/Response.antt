-- What `levels` prints (document 01, "The program `levels`"): the text that a line prints and the table after it, as a function of
-- the line and the table before it. Defined over the plain table; bytes are numbers, in ASCII. Assumes nothing.
use Rattle.std.specs.Prelude.{ℕ, Bool, true, false, cond, List, [], ◌∷◌, length, drop, get_or, ltb, eqb}
use Rattle.std.proofs.Math.Option.{Option, none, some, Option-elim}
use Rattle.offsets.specs.Subsets.{Subset, range, list}
use Rattle.constraints.specs.declared.Constraint.{Constraint}
use Rattle.constraints.specs.Constraints.{known}
use Rattle.constraints.specs.Encoding.{condition_in}
use Rattle.plain_table.specs.Staged.{Opening, insert, remove_key, remove_row, opening_in}
use Rattle.plain_table.specs.Refusing.{Lengths, open_refusal}
use Rattle.plain_table.specs.Plain.{Plain, opened, added, merged}
use Rattle.plain_table.specs.Calls.{Call, staging, merging, compacting, clearing, refusal, after}
use Rattle.table.specs.Stores.{entries}
use Rattle.table.specs.Outcomes.{fast_among}
use Rattle.levels_text.specs.Lines.{letter, numbers, of_forms}
use Rattle.levels_text.specs.Written.{text_line}
use Rattle.listing_spec.specs.Listings.{listing_text}
use Rattle.listing_write.specs.Writing.{table_listing}

-- the text that a line prints, and the table after it; there is no table before the first accepted O
pub record LineResult : Type 0 where
  pub text : List ℕ
  pub table : Option Plain

abbrev pub printing : List ℕ → Option Plain → LineResult
printing text table = record { text = text; table = table }

-- "A refusal prints X,number" (X is 88); a line that is not refused prints its text
unfoldable pub replied : ℕ → List ℕ → List ℕ
replied number text = cond (eqb number 0) text (text_line 88 (number ∷ []))

-- "11 is .. a capacity above 1,024", checked before the refusals of the opening itself
unfoldable pub open_number : Lengths → Opening → ℕ
open_number l o = cond (ltb 1024 o.capacity) 11 (open_refusal o l)

-- O: an accepted opening prints nothing; a refused one leaves the old table
unfoldable pub opens : Lengths → Option Plain → Opening → ℕ → LineResult
opens l t o generation = printing (replied (open_number l o) []) (cond (eqb (open_number l o) 0) (some (opened o generation)) t)

-- I, R, K, M, C and G: a call, and the text that it prints unless it is refused
unfoldable pub calls : Lengths → Plain → Call → List ℕ → LineResult
calls l p c text = printing (replied (refusal p l c) text) (some (after p l c))

-- F, V, L and U: the number of the refusal, and the text that is printed unless it is refused; the table does not change
unfoldable pub queries : Plain → ℕ → List ℕ → LineResult
queries p number text = printing (replied number text) (some p)

-- "M prints M,status,added,place, stopped or not" (M is 77)
unfoldable pub merge_text : Plain → List ℕ
merge_text p = text_line 77 ((merged p).status ∷ cond (added p) 1 0 ∷ (merged p).place ∷ [])

-- the fast range of a plain table
unfoldable pub fast_subset_of : Plain → Constraint → Option Subset
fast_subset_of p c = fast_among p.opening.sort (entries p) (length p.rows) c

-- "F,0,2 (start, end; or F,none)" (F is 70); the answer is never a list
unfoldable pub range_text : Option Subset → List ℕ
range_text none = 70 ∷ 44 ∷ 110 ∷ 111 ∷ 110 ∷ 101 ∷ 10 ∷ []
range_text (some (range start end)) = text_line 70 (start ∷ end ∷ [])
range_text (some (list ids)) = []

-- the table's listing: in the old form "T,4,2,3,1,0 (columns, keys, sort, rule, generation)", then "D,7,1,163,12 (each live row,
-- rising)"; or "the new form, which `levels` prints for a line U" (document 02, change 11)
unfoldable pub list_text : Bool → Plain → List ℕ
list_text numbered p = listing_text numbered (table_listing numbered p.opening p.generation p.rows)

-- A line on a table, by its letter: "I,cells" (73), "R,key cells" (82), "K,row,key cells" (75), M (77), "C clear" (67), "G compact"
-- (71), "F,kind,a,b" (70), which is refused with 6 if its kind or column is not known, V (86), which prints "V,0,3 (generation, row
-- count)", U (85), else L.
unfoldable pub served : Lengths → Plain → ℕ → List ℕ → LineResult
served l p letter ns =
    cond (eqb letter 73) (calls l p (staging (insert ns)) [])
    (cond (eqb letter 82) (calls l p (staging (remove_key ns)) [])
    (cond (eqb letter 75) (calls l p (staging (remove_row (get_or ns 0 0) (drop 1 ns))) [])
    (cond (eqb letter 77) (calls l p merging (merge_text p))
    (cond (eqb letter 67) (calls l p clearing [])
    (cond (eqb letter 71) (calls l p compacting [])
    (cond (eqb letter 70) (queries p (cond (known p.opening.columns (condition_in ns 0)) 0 6) (range_text (fast_subset_of p (condition_in ns 0))))
    (cond (eqb letter 86) (queries p 0 (text_line 86 (p.generation ∷ length p.rows ∷ [])))
    (cond (eqb letter 85) (queries p 0 (list_text true p)) (queries p 0 (list_text false p))))))))))

-- a line of a valid form, by its letter and numbers; "O,columns,keys,sort,rule,capacity,generation" is 79; "before O every table line
-- prints X,1"
unfoldable pub result : Lengths → Option Plain → ℕ → List ℕ → LineResult
result l t letter ns =
    cond (eqb letter 79) (opens l t (opening_in ns) (get_or ns 5 0)) (Option-elim t (printing (replied 1 []) none) (λ p. served l p letter ns))

-- any line, given as bytes: "11 is a line not of these forms"
unfoldable pub line_result : Lengths → Option Plain → List ℕ → LineResult
line_result l t line = cond (of_forms line) (result l t (letter line) (numbers line)) (printing (replied 11 []) t)
