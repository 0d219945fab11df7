-- `image_write::check_write` meets its contract. Assumes nothing.
use Rattle.image_write.proofs.Prelude.{◌≡◌, sym, ◌∙◌, false, pending_outside, rows_short, pairs_short, pending_outside_no, write_outside, write_rows, write_sorts, write_long, write_short, write_none}
use Rattle.image_write.proofs.check_write.Goals.{Else-is_pairs_short, Else-is_pending_outside, Else-is_rows_short}
use Rattle.image_write.proofs.check_write.Goals as goal

-- what holds once the header is not refused
inside : (c : Else-is_pending_outside) → pending_outside c.args.h c.args.pending ≡ false
inside c = sym c.is_pending_outside.ensures ∙ c.if-is_pending_outside.false

-- and once the row store is not
rows_long : (c : Else-is_rows_short) → rows_short c.args.h c.args.rows ≡ false
rows_long c = sym c.is_rows_short.ensures ∙ c.if-is_rows_short.false

-- and once the sort entries are not
sorts_long : (c : Else-is_pairs_short) → pairs_short c.args.h c.args.sorts ≡ false
sorts_long c = sym c.is_pairs_short.ensures ∙ c.if-is_pairs_short.false

pub returns-then-is_pending_outside : goal.returns-then-is_pending_outside
returns-then-is_pending_outside c = write_outside _ _ _ _ _ _ (sym c.is_pending_outside.ensures ∙ c.if-is_pending_outside.true)

pub is_rows_short-requires : goal.is_rows_short-requires
is_rows_short-requires c = pending_outside_no _ _ (inside c)

pub returns-then-is_rows_short : goal.returns-then-is_rows_short
returns-then-is_rows_short c = write_rows _ _ _ _ _ _ (inside (goal.at.returns-then-is_rows_short c).Else-is_pending_outside) (sym c.is_rows_short.ensures ∙ c.if-is_rows_short.true)

pub is_pairs_short-requires : goal.is_pairs_short-requires
is_pairs_short-requires c = pending_outside_no _ _ (inside (goal.at.is_pairs_short-requires c).Else-is_pending_outside)

pub returns-then-is_pairs_short : goal.returns-then-is_pairs_short
returns-then-is_pairs_short c = write_sorts _ _ _ _ _ _ (inside (goal.at.returns-then-is_pairs_short c).Else-is_pending_outside) (rows_long (goal.at.returns-then-is_pairs_short c).Else-is_rows_short) (sym c.is_pairs_short.ensures ∙ c.if-is_pairs_short.true)

pub returns-then-text-gt-MOST_BYTES : goal.returns-then-text-gt-MOST_BYTES
returns-then-text-gt-MOST_BYTES c =
    write_long _ _ _ _ _ _ (inside (goal.at.returns-then-text-gt-MOST_BYTES c).Else-is_pending_outside) (rows_long (goal.at.returns-then-text-gt-MOST_BYTES c).Else-is_rows_short) (sorts_long (goal.at.returns-then-text-gt-MOST_BYTES c).Else-is_pairs_short) c.if-text-gt-MOST_BYTES.true

pub image_length-requires : goal.image_length-requires
image_length-requires c = (pending_outside_no _ _ (inside (goal.at.image_length-requires c).Else-is_pending_outside), c.if-text-gt-MOST_BYTES.false)

pub returns-then-output-image_length : goal.returns-then-output-image_length
returns-then-output-image_length c =
    write_short _ _ _ _ _ _ (inside (goal.at.returns-then-output-image_length c).Else-is_pending_outside) (rows_long (goal.at.returns-then-output-image_length c).Else-is_rows_short) (sorts_long (goal.at.returns-then-output-image_length c).Else-is_pairs_short) c.if-text-gt-MOST_BYTES.false (rw c.image_length.ensures at c.if-output-image_length.true)

pub returns : goal.returns
returns c =
    write_none _ _ _ _ _ _ (inside (goal.at.returns c).Else-is_pending_outside) (rows_long (goal.at.returns c).Else-is_rows_short) (sorts_long (goal.at.returns c).Else-is_pairs_short) c.if-text-gt-MOST_BYTES.false (rw c.image_length.ensures at c.if-output-image_length.false)
