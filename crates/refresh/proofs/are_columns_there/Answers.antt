-- `refresh::are_columns_there` meets its contract. Assumes nothing.
use Rattle.std.proofs.lemmas.Iterator.{YieldsList-from_slice, cases_from_all}
use borrow.Author.Tests.{tests}
use Rattle.refresh.proofs.Prelude.{◌<◌, ◌≤◌, rules}
use Rattle.refresh.proofs.TestSteps.{columns_decided}
use Rattle.refresh.proofs.are_columns_there.Goals as goal

pub returns : goal.returns
returns c =
    let a = c.args in
    columns_decided a.h.columns a.columns.now c.all.result
    (cases_from_all _ _ _ (λ x. x < a.h.columns) (λ x. a.h.columns ≤ x) c.all.ensures.ran (YieldsList-from_slice a.columns.now c.iter.ensures.rest) (λ x q k. search (rules, tests)) (λ x q k. search (rules, tests)))
