-- `listing_parse::scan_text` meets its contract. Assumes nothing.
use Rattle.listing_parse.proofs.Prelude.{refl, sym, ◌∙◌, arith, rules}
use Rattle.listing_parse.proofs.Heads.{surveyed_none, surveyed_unended, surveyed}
use Rattle.listing_parse.proofs.scan_text.Goals as goal

pub returns-then-not-ends_line : goal.returns-then-not-ends_line
returns-then-not-ends_line c = surveyed_unended _ _ (sym c.ends_line.ensures ∙ c.if-not-ends_line.true) c.no_listing.ensures

pub head_at-start-requires : goal.head_at-start-requires
head_at-start-requires c = record { text_value = sym c.ends_line.ensures ∙ c.if-not-ends_line.false; in_bounds = search rules }

pub returns-then-start-eq0 : goal.returns-then-start-eq0
returns-then-start-eq0 c = surveyed_none _ _ c.head_at-start.ensures c.if-start-eq0.true c.no_listing-then-start-eq0.ensures

pub overflow_cast-columns : goal.overflow_cast-columns
overflow_cast-columns c = omega (arith, (c.head_at-start.ensures.found (search rules)).narrow.1)

pub count_rows-rows-requires : goal.count_rows-rows-requires
count_rows-rows-requires c = let f = c.head_at-start.ensures.found (search rules) in record { le_columns = f.narrow; start_in_bounds = f.inside; text_value = sym c.ends_line.ensures ∙ c.if-not-ends_line.false; in_bounds = search rules }

pub overflow_cast-result : goal.overflow_cast-result
overflow_cast-result c = omega (arith, c.count_rows-rows.ensures.bounded)

pub returns : goal.returns
returns c = surveyed _ _ _ (c.head_at-start.ensures.found (search rules)) (search rules) refl refl refl refl refl c.count_in-count.ensures c.count_rows-rows.ensures refl
