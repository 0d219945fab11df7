-- `table_check::stores_sound` meets its contract. Assumes nothing.
use Rattle.table_check.proofs.Prelude.{sound_fits, sound_cells, sound_held, sound_pending}
use Rattle.table_check.proofs.CheckingSteps.{stores_rows, stores_index, stores_decided}
use Rattle.table_check.proofs.stores_sound.Goals as goal

pub rows_sound-requires : goal.rows_sound-requires
rows_sound-requires c =
    record {
      cells = sound_cells c.args.h c.args.rows.now c.args.keys.now c.args.sorts.now c.args.pending.now c.requires;
      entries_fit = sound_held c.args.h c.args.rows.now c.args.keys.now c.args.sorts.now c.args.pending.now c.requires;
    }

pub returns-then-not-rows_sound : goal.returns-then-not-rows_sound
returns-then-not-rows_sound c = stores_rows _ _ _ _ _ (c.rows_sound.ensures.no c.if-not-rows_sound.true)

pub key_store_sound-requires : goal.key_store_sound-requires
key_store_sound-requires c =
    rw c.index_shape-t.ensures (sound_fits c.args.h c.args.rows.now c.args.keys.now c.args.sorts.now c.args.pending.now c.requires)

pub returns-then-not-key_store_sound : goal.returns-then-not-key_store_sound
returns-then-not-key_store_sound c = stores_index _ _ _ _ _ _ c.index_shape-t.ensures (c.key_store_sound.ensures.no c.if-not-key_store_sound.true)

pub pending_whole-requires : goal.pending_whole-requires
pending_whole-requires c =
    sound_pending c.args.h c.args.rows.now c.args.keys.now c.args.sorts.now c.args.pending.now c.requires

pub returns : goal.returns
returns c =
    stores_decided _ _ _ _ _ _ c.index_shape-t.ensures c.requires (c.rows_sound.ensures.yes c.if-not-rows_sound.false)
    (c.key_store_sound.ensures.yes c.if-not-key_store_sound.false) _ c.pending_whole.ensures
