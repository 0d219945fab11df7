-- `abi_replay::mouldgrey_run_queries` meets its contract. Assumes nothing.
use mathlib.Core.Path.{sym}
use Rattle.abi.specs.Laws.Encoding.{answers}
use Rattle.abi_replay.proofs.mouldgrey_run_queries.Goals as goal

pub returns : goal.returns
returns c =
    rw (sym c.decode_header-h.ensures, sym c.decode_subset-start.ensures.subset, sym c.decode_subset-start.ensures.ids)
    (answers c.run_queries-run.ensures c.store_run.ensures)
