-- `query_scan::close_page` meets its contract. Assumes nothing.
use Rattle.query_scan.proofs.PageSteps.{page_written}
use Rattle.query_scan.proofs.close_page.Goals as goal

pub returns : goal.returns
returns c = page_written _ _ _ _ _ _ c.next_place-next.ensures c.write_found-written.ensures
