-- Requests, and the calls of a history that they correspond to. Each is lent the whole stores. Refreshes are also lent one whole
-- index store, as the previous refresh left it. Assumes nothing.
use Rattle.refresh_spec.specs.declared.Refreshed.{Refreshed}
use Rattle.refusals.specs.declared.Refusal.{Refusal}
use Rattle.std.specs.Prelude.{ℕ, List, [], ◌∷◌, length, Result}
use Rattle.refusals.specs.Refusals.{if_accepted, answer_view}
use Rattle.plain_table.specs.Refusing.{Lengths}
use Rattle.plain_table.specs.Refreshing.{Refresh}
use Rattle.plain_table.specs.Calls.{Call, refreshing, feeding, LentCall}
use Rattle.table.specs.Outcomes.{Stores}
use Rattle.refresh_spec.specs.Index.{IndexSound}
use Rattle.refresh_spec.specs.Refreshes.{records_found, Refreshing}
use Rattle.history.specs.Histories.{refreshed_stores, Called}

-- A refresh is a request of its own: which call of the plain table it corresponds to depends on the index store.
pub data Request : Type 0 where
  make : Call → Request
  refresh : Refresh → Request

-- a call with these lengths; only a merge and a compaction are lent compaction words
abbrev pub lent_to : Lengths → Call → LentCall
lent_to l c = record { call = c; lengths = l }

-- One request: the call of a history that it corresponds to, and the stores and the index store after it. `made` leaves the stores
-- open; `next` below requires of every request that its call leads to them (`Called`).
pub data Served (s : Stores) (index : List ℕ) : Request → Call → Stores → List ℕ → Type 0 where
  made : (c : Call) (t : Stores) → Served s index (make c) c t index
  -- "the plain table stages these records of its own rows"
  refreshed : (r : Refresh) (answer : Result Refreshed Refusal) (pending' index' : List ℕ) → Refreshing s.header s.rows s.pending index r answer pending' index'
      → IndexSound s.header s.rows r.columns index
      → Served s index (refresh r) (refreshing r (length index)) (refreshed_stores s answer pending') index'
  -- "Over such an unsound index store, and nowhere else, it is fed the records that the call staged"
  refreshed_unsound : (r : Refresh) (answer : Result Refreshed Refusal) (pending' index' : List ℕ) (m : Refreshing s.header s.rows s.pending index r answer pending' index')
      → (IndexSound s.header s.rows r.columns index → ⊥)
      → Served s index (refresh r) (feeding (if_accepted (answer_view answer) (λ a. records_found s.header s.rows r m.found) [])) (refreshed_stores s answer pending') index'

-- the requests one after another, in order, on stores and compaction words of these lengths
pub data ServedAll (l : Lengths) : Stores → List ℕ → List Request → List Call → Stores → List ℕ → Type 0 where
  end : (s : Stores) (index : List ℕ) → ServedAll l s index [] [] s index
  next : {s t u : Stores} {index index' index'' : List ℕ} {q : Request} {qs : List Request} {c : Call} {cs : List Call}
      → Served s index q c t index' → Called s (lent_to l c) t → ServedAll l t index' qs cs u index'' → ServedAll l s index (q ∷ qs) (c ∷ cs) u index''
