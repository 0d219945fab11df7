-- `query_scan::close_refine` meets its contract. Assumes nothing.
use Rattle.offsets.specs.Laws.Subsets.{range_is, list_is}
use Rattle.query_scan.proofs.Prelude.{sym, ◌∙◌}
use Rattle.query_scan.proofs.AnswerSteps.{closed_whole, closed_part, closed_list}
use Rattle.query_scan.proofs.close_refine.Goals as goal

pub returns-then-s-saturating_sub : goal.returns-then-s-saturating_sub
returns-then-s-saturating_sub c =
    rw (c.in-Range.is, range_is) (closed_whole _ _ _ _ (c.if-s-saturating_sub.true ∙ c.saturating_sub.ensures))

pub returns-else-s-saturating_sub : goal.returns-else-s-saturating_sub
returns-else-s-saturating_sub c =
    rw (c.in-Range.is, range_is)
    (closed_part _ _ _ _ _ _ (λ e. c.if-s-saturating_sub.false (e ∙ sym c.saturating_sub.ensures)) c.write_found.ensures)

pub returns-in-List : goal.returns-in-List
returns-in-List c = rw (c.in-List.is, list_is) (closed_list _ _ _ _ _ c.write_found-in-List.ensures)
