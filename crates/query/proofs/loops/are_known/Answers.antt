-- `query::loops::are_known` meets its contract. Assumes nothing.
use Rattle.std.proofs.Common.{rules}
use borrow.Author.Tests.{tests}
use Rattle.constraints.specs.Constraints.{known}
use Rattle.query.proofs.loops.are_known.Goals as goal

pub returns : goal.returns
returns c = c.all_pass.ensures (known c.args.columns) (λ x b k. search (rules, tests))
