-- `abi_table::mouldgrey_merge` meets its contract. Assumes nothing.
use borrow.Author.Rules.{rules}
use Rattle.abi_table.proofs.Prelude.{sym, stored_answer, stored_mapped}
use Rattle.abi_table.proofs.mouldgrey_merge.Goals as goal

pub returns : goal.returns
returns c =
    let headed = stored_mapped (λ m. m.header) (λ m h given. search rules) _ _ c.map.ensures.cases (stored_answer _ c.store.ensures.refused c.store.ensures.accepted) in
    let stored = stored_answer _ c.store-2.ensures.refused c.store-2.ensures.accepted in
    rw (sym c.decode_header-h.ensures) record { answers = record { answer = c.merge-answer.result; contract_met = (c.merge-answer.ensures, headed.stores); stores = stored } }
