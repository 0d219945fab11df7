-- `table::refusing::check_lookup` meets its contract. Assumes nothing.
use Rattle.table.proofs.Prelude.{sym, ◌∙◌}
use Rattle.table.proofs.RefusingSteps.{lookup_outside, lookup_rows, lookup_keys, lookup_width, lookup_none}
use Rattle.table.proofs.refusing.check_lookup.Goals as goal

pub returns-then-is_outside : goal.returns-then-is_outside
returns-then-is_outside c = lookup_outside _ _ _ _ (sym c.is_outside.ensures ∙ c.if-is_outside.true)

pub is_rows_short-requires : goal.is_rows_short-requires
is_rows_short-requires c = (sym c.is_outside.ensures ∙ c.if-is_outside.false)

pub returns-then-is_rows_short : goal.returns-then-is_rows_short
returns-then-is_rows_short c = lookup_rows _ _ _ _ (sym c.is_outside.ensures ∙ c.if-is_outside.false) (sym c.is_rows_short.ensures ∙ c.if-is_rows_short.true)

pub is_pairs_short-requires : goal.is_pairs_short-requires
is_pairs_short-requires c = (sym c.is_outside.ensures ∙ c.if-is_outside.false)

pub returns-then-is_pairs_short : goal.returns-then-is_pairs_short
returns-then-is_pairs_short c = lookup_keys _ _ _ _ (sym c.is_outside.ensures ∙ c.if-is_outside.false) (sym c.is_rows_short.ensures ∙ c.if-is_rows_short.false) (sym c.is_pairs_short.ensures ∙ c.if-is_pairs_short.true)

pub returns-then-cells-h : goal.returns-then-cells-h
returns-then-cells-h c =
    lookup_width _ _ _ _ (sym c.is_outside.ensures ∙ c.if-is_outside.false) (sym c.is_rows_short.ensures ∙ c.if-is_rows_short.false) (sym c.is_pairs_short.ensures ∙ c.if-is_pairs_short.false) c.if-cells-h.true

pub returns : goal.returns
returns c =
    lookup_none _ _ _ _ (sym c.is_outside.ensures ∙ c.if-is_outside.false) (sym c.is_rows_short.ensures ∙ c.if-is_rows_short.false) (sym c.is_pairs_short.ensures ∙ c.if-is_pairs_short.false) c.if-cells-h.false
