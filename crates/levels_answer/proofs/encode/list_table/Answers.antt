-- `levels_answer::encode::list_table` meets its contract. Assumes nothing.
use Rattle.levels_answer.proofs.Prelude.{listed_nothing, listed_all}
use Rattle.levels_answer.proofs.encode.list_table.Goals as goal

pub returns-in-Err : goal.returns-in-Err
returns-in-Err c = listed_nothing c.write_listing.auto.output c.write_listing.ensures c.in-Err.is

pub returns-in-Ok : goal.returns-in-Ok
returns-in-Ok c = listed_all c.write_listing.auto.output c.write_listing.ensures c.in-Ok.is
