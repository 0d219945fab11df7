-- `table_compact::compact_rows` meets its contract. Assumes nothing.
use Rattle.table_compact.proofs.Prelude.{arith, refl}
use Rattle.table_compact.proofs.CompactionSteps.{closable, can_lead, compact_end}
use Rattle.table_compact.proofs.compact_rows.Goals as goal

pub close_up-kept-requires : goal.close_up-kept-requires
close_up-kept-requires c = closable c.requires.0

pub overflow_add-n : goal.overflow_add-n
overflow_add-n c = omega (arith, c.requires.1)

pub update_keys-requires : goal.update_keys-requires
update_keys-requires c =
    can_lead c.requires.0 c.close_up-kept.ensures c.close_up-kept.auto.rows refl c.close_up-kept.auto.live c.close_up-kept.auto.base

pub returns : goal.returns
returns c =
    compact_end c.requires.0 c.requires.1 c.close_up-kept.ensures c.update_keys.ensures c.update_keys.auto.keys
