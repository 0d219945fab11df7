-- Every outcome of a call that meets the contract of its entry point is a call of a history, for any lent stores, any arguments and
-- any answer. So histories leave out no outcome that a contract allows. Of the constructors of `Called`, `stages`, `merges`, `compacts`
-- and `clears` require the contract alone. Refreshes have two, for sound and for unsound index stores; that one of the two always
-- applies needs that soundness is decided (`refresh_spec` law `index_decided`). Assumes nothing.
use Rattle.refresh_spec.specs.declared.Refreshed.{Refreshed}
use Rattle.refusals.specs.declared.Refusal.{Refusal}
use Rattle.std.specs.Prelude.{ℕ, List, Result}
use Rattle.plain_table.specs.Refreshing.{Refresh}
use Rattle.plain_table.specs.Calls.{LentCall}
use Rattle.table.specs.Outcomes.{Stores}
use Rattle.refresh_spec.specs.Refreshes.{Refreshing}
use Rattle.history.specs.Histories.{refreshed_stores, Called}

-- a refresh over any index store, sound or not
abbrev pub EveryRefreshIsACall : Type 0
EveryRefreshIsACall =
    (s : Stores) (r : Refresh) (index : List ℕ) (answer : Result Refreshed Refusal) (pending' index' : List ℕ)
    → Refreshing s.header s.rows s.pending index r answer pending' index' → (c : LentCall) × Called s c (refreshed_stores s answer pending')
