-- `key_index::home_slot` meets its contract. Assumes nothing.
use Rattle.key_index.proofs.Prelude.{◌≤◌, refl, mul-le-mul, arith, rules, spread_below}
use Rattle.key_index.specs.inner.Ring.{spread}
use Rattle.key_index.proofs.home_slot.Goals as goal

pub overflow_mul-result : goal.overflow_mul-result
overflow_mul-result c =
    let h : c.args.hash ≤ 4294967295 = search rules in
    let k : c.args.slots ≤ 4294967295 = search rules in
    record { fits = omega (arith, mul-le-mul h k) }

pub overflow_cast-result-3 : goal.overflow_cast-result-3
unfolding spread
overflow_cast-result-3 c = omega (arith, spread_below c.args.slots c.args.hash c.requires c.ranges.hash.fits)

pub returns : goal.returns
unfolding spread
returns c = record { value = refl; upper_bound = spread_below c.args.slots c.args.hash c.requires c.ranges.hash.fits }
