-- `test_probes::copy_survivor` meets its contract. Assumes nothing.
use Rattle.test_probes.proofs.Prelude.{ℕ, ◌+◌, ◌≤◌, ◌≡◌, sym, ◌∙◌, List, arith, length, take, drop, length-take, length-drop, survivor, survivor_length}
use Rattle.test_probes.proofs.copy_survivor.Goals as goal

-- either row is as wide
width_is : (rule keys sort width : ℕ) (rows : List ℕ) (old : ℕ) (pending : List ℕ) (new : ℕ) → old + width ≤ length rows → new + width ≤ length pending
    → length (survivor rule keys sort (take width (drop old rows)) (take width (drop new pending))) ≡ width
width_is rule keys sort width rows old pending new h k =
    let o : length (take width (drop old rows)) ≡ width = simp (length-take, length-drop) (omega arith) in
    let n : length (take width (drop new pending)) ≡ width = simp (length-take, length-drop) (omega arith) in
    survivor_length rule keys sort _ _ (o ∙ sym n) ∙ o

pub write_row-requires : goal.write_row-requires
write_row-requires c =
    let a = c.args in
    let l = width_is a.rule a.keys a.sort a.width a.rows.now a.old a.pending.now a.new c.requires.0 c.requires.1 in
    let w = c.requires.2 in
    rw c.surviving_row-row.ensures (omega arith)

pub returns : goal.returns
returns c = rw (← c.surviving_row-row.ensures) c.write_row.ensures
