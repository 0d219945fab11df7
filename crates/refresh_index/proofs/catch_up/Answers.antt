-- `refresh_index::catch_up` meets its contract. Assumes nothing.
use Rattle.refresh_index.proofs.Prelude.{◌≡◌, sym, ◌∙◌, true, arith, length, usable}
use Rattle.refresh_index.proofs.Sizes.{Small, small, fillable_same}
use Rattle.refresh_index.proofs.Catches.{goes_on, caught_on, fresh_room, caught_restarted}
use Rattle.refresh_index.proofs.catch_up.Goals.{Start, Then-goes_on}
use Rattle.refresh_index.proofs.catch_up.Goals as goal

sizes : (s : Start) → Small s.args.h (length s.args.columns.now)
sizes s = small _ _ s.requires.0.inside s.requires.0.columns_few

going : (c : Then-goes_on) → let a = c.args in usable a.h a.columns.now a.index.now ≡ true
going c = sym c.requires.1 ∙ c.if-goes_on.true

pub fill-requires : goal.fill-requires
fill-requires c = goes_on _ _ _ _ (going (goal.at.fill-requires c).Then-goes_on) c.requires.0

pub returns-then-goes_on : goal.returns-then-goes_on
returns-then-goes_on c = caught_on _ _ _ _ (going (goal.at.returns-then-goes_on c).Then-goes_on) _ c.fill.auto.index c.fill.ensures

pub overflow_mul-buckets : goal.overflow_mul-buckets
overflow_mul-buckets c = omega (arith, sizes (goal.at.overflow_mul-buckets c).Start)

pub overflow_mul-buckets-2 : goal.overflow_mul-buckets-2
overflow_mul-buckets-2 c = omega (arith, sizes (goal.at.overflow_mul-buckets-2 c).Start)

pub empty_buckets-requires : goal.empty_buckets-requires
empty_buckets-requires c = let l = c.requires.0 in omega (arith, sizes (goal.at.empty_buckets-requires c).Start, c.heads_at.ensures, l.index_long)

pub fill-requires-2 : goal.fill-requires-2
fill-requires-2 c = (fillable_same (fresh_room _ _ _ _ c.requires.0) _ c.empty_buckets.auto.index, omega arith)

pub returns : goal.returns
returns c =
    caught_restarted _ _ _ _ c.requires.0 (sym c.requires.1 ∙ c.if-goes_on.false) _ _ (c.fill-2.auto.index ∙ c.empty_buckets.auto.index)
    (rw c.heads_at.ensures at c.empty_buckets.ensures) c.fill-2.ensures
