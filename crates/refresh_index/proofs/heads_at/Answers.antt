-- `refresh_index::heads_at` meets its contract. Assumes nothing.
use Rattle.refresh_index.proofs.Prelude.{arith}
use Rattle.refresh_index.proofs.Sizes.{Small, small}
use Rattle.refresh_index.proofs.heads_at.Goals.{Start}
use Rattle.refresh_index.proofs.heads_at.Goals as goal

sizes : (s : Start) → Small s.args.h s.args.count
sizes s = small _ _ s.requires.0 s.requires.1

pub overflow_mul-result : goal.overflow_mul-result
overflow_mul-result c = omega (arith, sizes (goal.at.overflow_mul-result c).Start)

pub overflow_add-result : goal.overflow_add-result
overflow_add-result c = omega (arith, sizes (goal.at.overflow_add-result c).Start)
