-- `abi_read::mouldgrey_intersect` meets its contract. Assumes nothing.
use Rattle.std.proofs.Common.{◌∙◌}
use Rattle.abi_read.proofs.Prelude.{sym, answers}
use Rattle.abi_read.proofs.mouldgrey_intersect.Goals as goal

pub returns : goal.returns
returns c =
    let a = sym (c.from.ensures ∙ c.decode_subset-a.ensures.subset) in
    let b = sym (c.from-2.ensures ∙ c.decode_subset-b.ensures.subset) in
    rw (a, b) (answers c.intersect-answer.ensures c.store_subset.ensures)
