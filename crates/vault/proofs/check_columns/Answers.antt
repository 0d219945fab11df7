-- `vault::check_columns` meets its contract. Assumes nothing.
use Rattle.vault.proofs.Prelude.{too_narrow, too_wide, broken, too_short, none}
use Rattle.vault.proofs.check_columns.Goals as goal

pub returns-then-width-lt1 : goal.returns-then-width-lt1
returns-then-width-lt1 c = too_narrow _ _ _ c.if-width-lt1.true

pub returns-then-width-gt-MOST_COLUMNS : goal.returns-then-width-gt-MOST_COLUMNS
returns-then-width-gt-MOST_COLUMNS c = too_wide _ _ _ c.if-width-lt1.false c.if-width-gt-MOST_COLUMNS.true

pub returns-then-rest-ne0 : goal.returns-then-rest-ne0
returns-then-rest-ne0 c = broken _ _ _ c.if-width-lt1.false c.if-width-gt-MOST_COLUMNS.false c.if-rest-ne0.true

pub returns-then-output-cells : goal.returns-then-output-cells
returns-then-output-cells c = too_short _ _ _ c.if-width-lt1.false c.if-width-gt-MOST_COLUMNS.false c.if-rest-ne0.false c.if-output-cells.true

pub returns : goal.returns
returns c = none _ _ _ c.if-width-lt1.false c.if-width-gt-MOST_COLUMNS.false c.if-rest-ne0.false c.if-output-cells.false
