-- `query::loops::is_match` meets its contract. Assumes nothing.
use Rattle.std.proofs.Common.{rules, sym, ◌∙◌}
use Rattle.std.specs.Prelude.{◌≡◌, true, false}
use borrow.Author.Tests.{tests}
use Rattle.lists.specs.Lists.{row_at}
use Rattle.constraints.specs.Constraints.{met, meets, is_live}
use Rattle.query_spec.specs.Queries.{matches}
use Rattle.query.proofs.loops.is_match.Goals as goal

pub returns-then-is_live_at : goal.returns-then-is_live_at
unfolding matches meets
returns-then-is_live_at c =
    let a = c.args in
    let live : is_live (row_at a.h.columns a.id a.rows.now) ≡ true = sym c.is_live_at.ensures ∙ c.if-is_live_at.true in
    rw live (c.all_pass.ensures (met (row_at a.h.columns a.id a.rows.now)) (λ x b k. search (rules, tests)))

pub returns-else-is_live_at : goal.returns-else-is_live_at
unfolding matches meets
returns-else-is_live_at c =
    let a = c.args in
    let dead : is_live (row_at a.h.columns a.id a.rows.now) ≡ false = sym c.is_live_at.ensures ∙ c.if-is_live_at.false in
    rw dead c.if-is_live_at.false
