-- `image_read::check_load` meets its contract. Assumes nothing.
use Rattle.image_read.proofs.Prelude.{◌≡◌, sym, ◌∙◌, false, lengths_of}
use Rattle.plain_table.specs.Refusing.{stores_short}
use Rattle.table.specs.Numbers.{opening_of}
use Rattle.image_read.proofs.LoadingSteps.{load_outside, load_stores, load_pending, load_none}
use Rattle.image_read.proofs.check_load.Goals.{Else-is_stores_short}
use Rattle.image_read.proofs.check_load.Goals as goal

-- what holds once the stores are not refused
long : (c : Else-is_stores_short) → let a = c.args in stores_short (opening_of a.h) (lengths_of a.l) ≡ false
long c = sym c.is_stores_short.ensures ∙ c.if-is_stores_short.false

pub returns-then-is_outside : goal.returns-then-is_outside
returns-then-is_outside c = load_outside _ _ (sym c.is_outside.ensures ∙ c.if-is_outside.true)

pub is_stores_short-requires : goal.is_stores_short-requires
is_stores_short-requires c = sym c.is_outside.ensures ∙ c.if-is_outside.false

pub returns-then-is_stores_short : goal.returns-then-is_stores_short
returns-then-is_stores_short c = load_stores _ _ (sym c.is_outside.ensures ∙ c.if-is_outside.false) (sym c.is_stores_short.ensures ∙ c.if-is_stores_short.true)

pub returns-then-l-h : goal.returns-then-l-h
returns-then-l-h c = load_pending _ _ (sym c.is_outside.ensures ∙ c.if-is_outside.false) (long (goal.at.returns-then-l-h c).Else-is_stores_short) c.if-l-h.true

pub returns : goal.returns
returns c = load_none _ _ (sym c.is_outside.ensures ∙ c.if-is_outside.false) (long (goal.at.returns c).Else-is_stores_short) c.if-l-h.false
