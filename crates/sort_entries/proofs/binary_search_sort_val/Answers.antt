-- `sort_entries::binary_search_sort_val` meets its contract. Assumes nothing.
use Rattle.sort_entries.proofs.Prelude.{arith}
use Rattle.sort_entries.proofs.LawsSearch.{search_found, search_absent}
use Rattle.sort_entries.proofs.binary_search_sort_val.Goals as goal

pub binary_search_cells-at-requires : goal.binary_search_cells-at-requires
binary_search_cells-at-requires c = (record { inside = λ i h. omega (arith, c.requires.words) }, omega arith)

pub returns-then-sorts-word : goal.returns-then-sorts-word
returns-then-sorts-word c =
    search_found _ _ _ _ _ c.binary_search_cells-at.ensures _ _ c.row_from-first.ensures c.row_from-next.ensures c.if-at-entries.true c.if-sorts-word.true

pub returns-else-sorts-word : goal.returns-else-sorts-word
returns-else-sorts-word c = search_absent _ _ _ _ _ c.binary_search_cells-at.ensures _ c.row_from-first.ensures (λ _. c.if-sorts-word.false)

pub returns-else-at-entries : goal.returns-else-at-entries
returns-else-at-entries c = search_absent _ _ _ _ _ c.binary_search_cells-at.ensures _ c.row_from-first.ensures (λ h. let k = c.if-at-entries.false in absurd (omega arith))
