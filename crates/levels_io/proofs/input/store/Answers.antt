-- `levels_io::input::store` meets its contract. Assumes nothing.
use Rattle.std.specs.Prelude.{◌+◌, ◌-◌, ◌≡◌}
use Rattle.levels_io.proofs.Prelude.{arith, stored_part}
use Rattle.levels_io.proofs.input.store.Goals as goal

pub returns : goal.returns
returns c =
    let width : c.args.length + c.min-kept.result - c.args.length ≡ c.min-kept.result = omega arith in
    rw (width, c.copy_from_slice.ensures.after) (stored_part _ _ _ c.requires c.min-kept.ensures)
