-- `image_read::load` meets its contract. Assumes nothing.
use mathlib.Core.Path.{sym}
use Rattle.std.proofs.lemmas.Result.{err_from_is_err_and}
use Rattle.image_read.proofs.LoadingSteps.{loading_refused, parts_fit, keys_fit, keys_built, loading_done}
use Rattle.image_read.proofs.Prelude.{body}
use Rattle.image_read.proofs.load.Goals as goal

pub returns-in_err-check_load : goal.returns-in_err-check_load
returns-in_err-check_load c =
    let a = c.args in
    let p = err_from_is_err_and c.from_residual.result c.from_residual.ensures.1 in
    rw (p.1, p.2) (loading_refused _ a.l a.capacity (body a.rows.now a.keys.now a.sorts.now) a.pending.now _ c.with_capacity-n.ensures _ c.in_err-check_load.ensures)

pub write_parts-requires : goal.write_parts-requires
write_parts-requires c =
    let a = c.args in
    parts_fit _ a.l a.capacity (body a.rows.now a.keys.now a.sorts.now) a.pending.now _ c.with_capacity-n.ensures (sym c.in_ok-check_load.ensures) c.requires.0

pub write_keys-requires : goal.write_keys-requires
write_keys-requires c =
    let a = c.args in (
      keys_fit _ a.l a.capacity (body a.rows.now a.keys.now a.sorts.now) a.pending.now _ c.with_capacity-n.ensures (sym c.in_ok-check_load.ensures) c.requires.0
          _ _ _ c.write_parts.ensures _ c.index_shape.ensures,
      keys_built _ a.l a.capacity (body a.rows.now a.keys.now a.sorts.now) a.pending.now _ c.with_capacity-n.ensures (sym c.in_ok-check_load.ensures) c.requires.0
          _ _ _ c.write_parts.ensures _ c.requires.1 c.requires.2 _ c.index_shape.ensures,
    )

pub returns : goal.returns
returns c =
    let a = c.args in
    loading_done _ a.l a.capacity (body a.rows.now a.keys.now a.sorts.now) a.pending.now _ c.with_capacity-n.ensures (sym c.in_ok-check_load.ensures) c.requires.0
    _ _ _ c.write_parts.ensures _ c.index_shape.ensures _ c.write_keys.ensures c.write_keys.auto.keys
