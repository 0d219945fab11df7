-- `key_index::is_hit` meets its contract. Assumes nothing.
use Rattle.key_index.proofs.Prelude.{ℕ, ◌-◌, ◌*◌, ◌%◌, ◌^◌, ◌≤◌, refl, sym, ap, ◌∙◌, List, arith, take, drop, same, key_row}
use Rattle.key_index.proofs.WordSteps.{Named, named, hit_bits, hit_nameless, hit_cells}
use Rattle.key_index.proofs.is_hit.Goals.{Else-not-names_row, Start}
use Rattle.key_index.proofs.is_hit.Goals as goal

few : (s : Start) → s.args.t.rows ≤ 65536
few s = omega (arith, s.requires.0)

-- the row that the word names
row : (c : Else-not-names_row) → let a = c.args in Named a.t a.rows.now a.word
row c = named _ _ _ c.requires.0 (sym c.names_row.ensures ∙ c.if-not-names_row.false)

pub returns-then-word-hash : goal.returns-then-word-hash
returns-then-word-hash c = hit_bits _ _ _ _ _ _ (few (goal.at.returns-then-word-hash c).Start) c.if-word-hash.true

pub returns-then-not-names_row : goal.returns-then-not-names_row
returns-then-not-names_row c = hit_nameless _ _ _ _ _ _ (few (goal.at.returns-then-not-names_row c).Start) (sym c.names_row.ensures ∙ c.if-not-names_row.true)

pub overflow_sub-row : goal.overflow_sub-row
overflow_sub-row c = omega (arith, row c)

pub same_key-requires : goal.same_key-requires
same_key-requires c = let p = c.requires in omega (arith, row (goal.at.same_key-requires c).Else-not-names_row, p.0.most_keys, p.1)

pub returns : goal.returns
returns c =
    let a = c.args in
    let n = row (goal.at.returns c).Else-not-names_row in
    let i = a.word % 2 ^ 17 - 1 in
    hit_cells a.t a.rows.now a.key.now a.hash a.word i (few (goal.at.returns c).Start) c.if-word-hash.false n.some refl n.row _
    (rw c.row_start-at.ensures at c.same_key.ensures
    ∙ ap (λ (k : ℕ). same (take k (drop (i * a.t.columns) a.rows.now)) a.key.now) c.requires.1
    ∙ ap (λ (k : List ℕ). same k a.key.now) (sym (key_row a.t.columns i a.t.keys a.rows.now c.requires.0.most_keys)))
