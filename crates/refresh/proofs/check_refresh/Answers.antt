-- `refresh::check_refresh` meets its contract. Assumes nothing.
use Rattle.refresh.proofs.Prelude.{◌≡◌, sym, ◌∙◌, true, false, ltb, length, lt-ltb, le-ltb, all, or_no_left, index_short, opening_of}
use Rattle.refusals.specs.Refusals.{first_refusal}
use Rattle.table.specs.Refusing.{outside, pending_outside, rows_short}
use Rattle.refresh.specs.inner.Testing.{early_refusal}
use Rattle.refresh.proofs.check_refresh.Goals.{Else-columns-gt-MOST_COLUMNS, Else-is_index_short, Else-is_pending_outside, Else-is_rows_short, Else-not-are_columns_there}
use Rattle.refresh.proofs.check_refresh.Goals as goal

-- the tests passed, one by one
inside : (c : Else-is_pending_outside) → let a = c.args in pending_outside a.h a.pending ≡ false
inside c = sym c.is_pending_outside.ensures ∙ c.if-is_pending_outside.false

rows_long : (c : Else-is_rows_short) → let a = c.args in rows_short a.h a.rows ≡ false
rows_long c = sym c.is_rows_short.ensures ∙ c.if-is_rows_short.false

columns_few : (c : Else-columns-gt-MOST_COLUMNS) → ltb 8 (length c.args.columns.now) ≡ false
columns_few c = le-ltb _ _ c.if-columns-gt-MOST_COLUMNS.false

columns_there : (c : Else-not-are_columns_there) → let a = c.args in all (λ column. ltb column a.h.columns) a.columns.now ≡ true
columns_there c = sym c.are_columns_there.ensures ∙ c.if-not-are_columns_there.false

index_long : (c : Else-is_index_short) → let a = c.args in index_short (opening_of a.h) a.columns.now a.index ≡ false
index_long c = sym c.is_index_short.ensures ∙ c.if-is_index_short.false

within : (c : Else-is_pending_outside) → outside c.args.h ≡ false
unfolding pending_outside
within c = or_no_left (outside c.args.h) _ (inside c)

pub returns-then-is_pending_outside : goal.returns-then-is_pending_outside
unfolding early_refusal first_refusal
returns-then-is_pending_outside c = rw (sym c.is_pending_outside.ensures ∙ c.if-is_pending_outside.true)

pub is_rows_short-requires : goal.is_rows_short-requires
is_rows_short-requires c = within c

pub returns-then-is_rows_short : goal.returns-then-is_rows_short
unfolding early_refusal first_refusal
returns-then-is_rows_short c = rw (inside (goal.at.returns-then-is_rows_short c).Else-is_pending_outside, sym c.is_rows_short.ensures ∙ c.if-is_rows_short.true)

pub returns-then-columns-gt-MOST_COLUMNS : goal.returns-then-columns-gt-MOST_COLUMNS
unfolding early_refusal first_refusal
returns-then-columns-gt-MOST_COLUMNS c = rw (inside (goal.at.returns-then-columns-gt-MOST_COLUMNS c).Else-is_pending_outside, rows_long (goal.at.returns-then-columns-gt-MOST_COLUMNS c).Else-is_rows_short, lt-ltb _ _ c.if-columns-gt-MOST_COLUMNS.true)

pub returns-then-not-are_columns_there : goal.returns-then-not-are_columns_there
unfolding early_refusal first_refusal
returns-then-not-are_columns_there c = rw (inside (goal.at.returns-then-not-are_columns_there c).Else-is_pending_outside, rows_long (goal.at.returns-then-not-are_columns_there c).Else-is_rows_short, columns_few (goal.at.returns-then-not-are_columns_there c).Else-columns-gt-MOST_COLUMNS, sym c.are_columns_there.ensures ∙ c.if-not-are_columns_there.true)

pub is_index_short-requires : goal.is_index_short-requires
is_index_short-requires c = (within (goal.at.is_index_short-requires c).Else-is_pending_outside, c.if-columns-gt-MOST_COLUMNS.false)

pub returns-then-is_index_short : goal.returns-then-is_index_short
unfolding early_refusal first_refusal
returns-then-is_index_short c = rw (inside (goal.at.returns-then-is_index_short c).Else-is_pending_outside, rows_long (goal.at.returns-then-is_index_short c).Else-is_rows_short, columns_few (goal.at.returns-then-is_index_short c).Else-columns-gt-MOST_COLUMNS, columns_there (goal.at.returns-then-is_index_short c).Else-not-are_columns_there, sym c.is_index_short.ensures ∙ c.if-is_index_short.true)

pub returns-then-is_old : goal.returns-then-is_old
unfolding early_refusal first_refusal
returns-then-is_old c =
    rw (inside (goal.at.returns-then-is_old c).Else-is_pending_outside, rows_long (goal.at.returns-then-is_old c).Else-is_rows_short, columns_few (goal.at.returns-then-is_old c).Else-columns-gt-MOST_COLUMNS, columns_there (goal.at.returns-then-is_old c).Else-not-are_columns_there, index_long (goal.at.returns-then-is_old c).Else-is_index_short, sym c.is_old.ensures ∙ c.if-is_old.true)

pub returns : goal.returns
unfolding early_refusal first_refusal
returns c =
    rw (inside (goal.at.returns c).Else-is_pending_outside, rows_long (goal.at.returns c).Else-is_rows_short, columns_few (goal.at.returns c).Else-columns-gt-MOST_COLUMNS, columns_there (goal.at.returns c).Else-not-are_columns_there, index_long (goal.at.returns c).Else-is_index_short, sym c.is_old.ensures ∙ c.if-is_old.false)
