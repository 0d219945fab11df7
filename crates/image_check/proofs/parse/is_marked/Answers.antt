-- `image_check::parse::is_marked` meets its contract. Assumes nothing.
use Rattle.image_check.proofs.ParsingSteps.{other_magic, other_format, some_flag, no_flag}
use Rattle.image_check.proofs.parse.is_marked.Goals as goal

pub returns-then-words-ne-MAGIC : goal.returns-then-words-ne-MAGIC
returns-then-words-ne-MAGIC c = other_magic _ c.if-words-ne-MAGIC.true

pub returns-then-words-ne-FORMAT : goal.returns-then-words-ne-FORMAT
returns-then-words-ne-FORMAT c = other_format _ c.if-words-ne-FORMAT.true

pub returns-then-words-ne0 : goal.returns-then-words-ne0
returns-then-words-ne0 c = some_flag _ c.if-words-ne-MAGIC.false c.if-words-ne-FORMAT.false c.if-words-ne0.true

pub returns : goal.returns
returns c = no_flag _ c.if-words-ne-MAGIC.false c.if-words-ne-FORMAT.false c.if-words-ne0.false
