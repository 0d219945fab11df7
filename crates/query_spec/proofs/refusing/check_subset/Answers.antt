-- `query_spec::refusing::check_subset` meets its contract. Assumes nothing.
use Rattle.query_spec.proofs.Prelude.{sym, ◌∙◌}
use Rattle.query_spec.proofs.RefusingSteps.{refused_outside, refused_rows, refused_form, refused_past, refused_not}
use Rattle.query_spec.proofs.refusing.check_subset.Goals as goal

pub returns-then-is_outside : goal.returns-then-is_outside
returns-then-is_outside c = refused_outside _ _ _ (sym c.is_outside.ensures ∙ c.if-is_outside.true)

pub is_rows_short-requires : goal.is_rows_short-requires
is_rows_short-requires c = sym c.is_outside.ensures ∙ c.if-is_outside.false

pub returns-then-is_rows_short : goal.returns-then-is_rows_short
returns-then-is_rows_short c = refused_rows _ _ _ (sym c.is_outside.ensures ∙ c.if-is_outside.false) (sym c.is_rows_short.ensures ∙ c.if-is_rows_short.true)

pub returns-then-not-is_well_formed : goal.returns-then-not-is_well_formed
returns-then-not-is_well_formed c = refused_form _ _ _ (sym c.is_outside.ensures ∙ c.if-is_outside.false) (sym c.is_rows_short.ensures ∙ c.if-is_rows_short.false) (sym c.is_well_formed.ensures ∙ c.if-not-is_well_formed.true)

pub returns-then-is_past_rows : goal.returns-then-is_past_rows
returns-then-is_past_rows c =
    refused_past _ _ _ (sym c.is_outside.ensures ∙ c.if-is_outside.false) (sym c.is_rows_short.ensures ∙ c.if-is_rows_short.false) (sym c.is_well_formed.ensures ∙ c.if-not-is_well_formed.false) (sym c.is_past_rows.ensures ∙ c.if-is_past_rows.true)

pub returns : goal.returns
returns c =
    refused_not _ _ _ (sym c.is_outside.ensures ∙ c.if-is_outside.false) (sym c.is_rows_short.ensures ∙ c.if-is_rows_short.false) (sym c.is_well_formed.ensures ∙ c.if-not-is_well_formed.false) (sym c.is_past_rows.ensures ∙ c.if-is_past_rows.false)
