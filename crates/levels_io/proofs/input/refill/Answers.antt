-- `levels_io::input::refill` meets its contract. Assumes nothing.
use mir.Facts.{to_z-of_z}
use Rattle.levels_io.proofs.Prelude.{arith, refilled, rules}
use Rattle.levels_io.proofs.input.refill.Goals as goal

pub returns : goal.returns
returns c =
    refilled c.args.chunk.now c.args.input _ _ c.requires.end_le_next (search rules) (rw (to_z-of_z (record { sfits = c.read-got.type_inv })) c.read-got.ensures) c.count.ensures.value c.count.ensures.in_bounds.0 (omega (arith, c.requires.reads_nonzero))
