-- `abi_refresh::mouldgrey_refresh_rows_for_values` meets its contract. Assumes nothing.
use borrow.Author.Rules.{rules}
use Rattle.abi.specs.Laws.Encoding.{stored_answer, stored_mapped}
use mathlib.Core.Path.{sym}
use Rattle.abi_refresh.proofs.mouldgrey_refresh_rows_for_values.Goals as goal

pub returns : goal.returns
returns c =
    let headed = stored_mapped (λ a. a.header) (λ a h given. search rules) _ _ c.map.ensures.cases (stored_answer _ c.store.ensures.refused c.store.ensures.accepted) in
    let staged = stored_mapped (λ a. a.staged) (λ a b given. search rules) _ _ c.map-2.ensures.cases (stored_answer _ c.store-2.ensures.refused c.store-2.ensures.accepted) in
    rw (sym c.decode_header-h.ensures) record { answers = record { answer = c.refresh_rows_for_values-answer.result; contract_met = (c.refresh_rows_for_values-answer.ensures, headed.stores); stores = staged } }
