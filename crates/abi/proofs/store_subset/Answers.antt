-- `abi::store_subset` meets its contract. Assumes nothing.
use Rattle.std.specs.Prelude.{Ok}
use mathlib.Core.Path.{ap, ◌∙◌}
use Rattle.abi.proofs.Prelude.{refl, stored_as}
use Rattle.abi.specs.Encoding.{subset_head_view, encode_subset, returned}
use Rattle.refusals.specs.Refusals.{if_accepted}
use Rattle.abi.proofs.store_subset.Goals as goal

pub returns-in-Err : goal.returns-in-Err
unfolding subset_head_view encode_subset returned if_accepted
returns-in-Err c = stored_as c.in-Err.is c.into.ensures refl

pub returns-in-Ok-Range : goal.returns-in-Ok-Range
unfolding subset_head_view encode_subset returned if_accepted
returns-in-Ok-Range c = stored_as (c.in-Ok-Range.is ∙ ap Ok (rw c.in-Ok-Range.is at c.in-Ok-Range.field-0-is)) refl refl

pub returns-in-Ok-List : goal.returns-in-Ok-List
unfolding subset_head_view encode_subset returned if_accepted
returns-in-Ok-List c = stored_as (c.in-Ok-List.is ∙ ap Ok (rw c.in-Ok-List.is at c.in-Ok-List.field-0-is)) refl refl
