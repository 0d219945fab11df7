-- `merge_rules::ruled_column` meets its contract. Assumes nothing.
use Rattle.merge_rules.proofs.Prelude.{sym, ◌∙◌, ruled_key, ruled_past, lt-leb}
use Rattle.merge_rules.proofs.ruled_column.Goals as goal

pub returns-then-column-keys : goal.returns-then-column-keys
returns-then-column-keys c = sym (ruled_past _ _ _ c.if-column-keys.true)

pub returns-else-column-keys : goal.returns-else-column-keys
returns-else-column-keys c = lt-leb _ _ c.if-column-keys.false ∙ sym (ruled_key _ _ _ c.if-column-keys.false)
