-- `query::loops::all_pass` meets its contract. Assumes nothing.
use Rattle.std.proofs.Common.{rules, ◌∙◌}
use borrow.Author.Tests.{tests}
use Rattle.std.proofs.lemmas.Iterator.{YieldsList-from_slice}
use Rattle.std.proofs.lemmas.Iterator.Search.{all_from_yields_List}
use Rattle.query.proofs.Every.{every}
use Rattle.query.proofs.loops.all_pass.Goals as goal

pub returns : goal.returns
returns g c passes decides =
    all_from_yields_List passes _ _ c.all.result c.all.ensures.ran (YieldsList-from_slice c.args.conditions.now c.iter.ensures.rest) (λ x b q k. search (rules, tests, decides))
    ∙ every passes c.args.conditions.now
