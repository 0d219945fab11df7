-- `refresh_scan::mark_part` meets its contract. Assumes nothing.
use Rattle.refresh_scan.proofs.Links.{linked_begin}
use Rattle.refresh_scan.proofs.mark_part.Goals as goal

pub link_values-requires : goal.link_values-requires
link_values-requires c = linked_begin _ c.requires.1
