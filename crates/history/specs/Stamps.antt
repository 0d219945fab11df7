-- Change 7, "Our archive must not run backwards": the stamps after any history. Assumes nothing.
use Rattle.std.specs.Prelude.{ℕ, ◌≤◌, ◌<◌, ◌≡◌, List, [], length, get_or}
use Rattle.plain_table.specs.Staged.{Opening}
use Rattle.plain_table.specs.Plain.{opened}
use Rattle.plain_table.specs.Calls.{LentCall}
use Rattle.plain_table.specs.Appending.{stamps_since, greatest}
use Rattle.table.specs.Numbers.{largest_view}
use Rattle.table.specs.Outcomes.{Stores}
use Rattle.history.specs.Histories.{History}

-- the sort values that a history has appended "since opening or the last clear that emptied rows", in order
abbrev pub stamps : Opening → ℕ → List LentCall → List ℕ
stamps o generation calls = stamps_since [] (opened o generation) calls

pub record StampsKept (o : Opening) (generation : ℕ) (calls : List LentCall) (s : Stores) : Type 0 where
  -- "The header shall keep the largest" of them, "and whether there is one"
  pub largest_kept : largest_view s.header.largest ≡ greatest (stamps o generation calls)
  -- and they never fall
  pub never_fall : (i j : ℕ) → i ≤ j → j < length (stamps o generation calls)
      → get_or (stamps o generation calls) i 0 ≤ get_or (stamps o generation calls) j 0

abbrev pub OldStampsStayOut : Type 0
OldStampsStayOut = (o : Opening) (generation : ℕ) (calls : List LentCall) (s : Stores) → History o generation calls s → StampsKept o generation calls s
