-- `table_compact::update_keys` meets its contract. Assumes nothing.
use Rattle.table_compact.proofs.CompactionSteps.{lead_fits, lead_ranked, led_rebuilt, led_renumbered}
use Rattle.table_compact.proofs.update_keys.Goals as goal

pub rebuild-requires : goal.rebuild-requires
rebuild-requires c = lead_fits _ c.index_shape-after.ensures c.requires.2

pub returns-then-after-t : goal.returns-then-after-t
returns-then-after-t c =
    let a = c.args in led_rebuilt a.h a.n _ c.index_shape-t.ensures _ c.index_shape-after.ensures c.if-after-t.true c.rebuild.ensures

pub renumber-requires : goal.renumber-requires
renumber-requires c = lead_ranked _ c.index_shape-t.ensures c.requires.0 c.requires.1

pub returns : goal.returns
returns c =
    let a = c.args in led_renumbered a.h a.n _ c.index_shape-t.ensures _ c.index_shape-after.ensures c.if-after-t.false c.renumber.ensures
