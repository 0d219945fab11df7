-- `table::refusing::is_stores_short` meets its contract. Assumes nothing.
use Rattle.table.proofs.Prelude.{sym, ◌∙◌}
use Rattle.table.proofs.RefusingSteps.{stores_rows, stores_keys, stores_sorts}
use Rattle.table.proofs.refusing.is_stores_short.Goals as goal

pub returns-then-is_rows_short : goal.returns-then-is_rows_short
returns-then-is_rows_short c = stores_rows _ _ (sym c.is_rows_short.ensures ∙ c.if-is_rows_short.true)

pub returns-then-is_pairs_short : goal.returns-then-is_pairs_short
returns-then-is_pairs_short c = stores_keys _ _ (sym c.is_rows_short.ensures ∙ c.if-is_rows_short.false) (sym c.is_pairs_short.ensures ∙ c.if-is_pairs_short.true)

pub returns : goal.returns
returns c = c.is_pairs_short-2.ensures ∙ stores_sorts _ _ (sym c.is_rows_short.ensures ∙ c.if-is_rows_short.false) (sym c.is_pairs_short.ensures ∙ c.if-is_pairs_short.false)
