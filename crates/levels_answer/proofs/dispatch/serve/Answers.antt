-- `levels_answer::dispatch::serve` meets its contract. Assumes nothing.
use Rattle.levels_answer.proofs.Prelude.{ap, arith, form_by_row, form_open, form_range}
use Rattle.levels_text.specs.Kinds.{letter_of}
use Rattle.levels_answer.proofs.dispatch.serve.Goals as goal

pub open_table-requires : goal.open_table-requires
open_table-requires c = form_open _ _ (ap letter_of c.in-Open.is) c.requires

pub remove_row-requires : goal.remove_row-requires
remove_row-requires c = omega (arith, form_by_row _ _ (ap letter_of c.in-RemoveRow.is) c.requires)

pub query_range-requires : goal.query_range-requires
query_range-requires c = form_range _ _ (ap letter_of c.in-Range.is) c.requires
