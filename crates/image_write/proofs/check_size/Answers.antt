-- `image_write::check_size` meets its contract. Assumes nothing.
use Rattle.image_write.proofs.Prelude.{sym, ◌∙◌, size_outside, size_long, size_none}
use Rattle.image_write.proofs.check_size.Goals as goal

pub returns-then-is_outside : goal.returns-then-is_outside
returns-then-is_outside c = size_outside _ _ (sym c.is_outside.ensures ∙ c.if-is_outside.true)

pub returns-then-text-gt-MOST_BYTES : goal.returns-then-text-gt-MOST_BYTES
returns-then-text-gt-MOST_BYTES c = size_long _ _ (sym c.is_outside.ensures ∙ c.if-is_outside.false) c.if-text-gt-MOST_BYTES.true

pub returns : goal.returns
returns c = size_none _ _ (sym c.is_outside.ensures ∙ c.if-is_outside.false) c.if-text-gt-MOST_BYTES.false
