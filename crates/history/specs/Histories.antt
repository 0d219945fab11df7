-- Histories (the order, term 3): "every list of stagings, merges, compactions and clears, stopped and refused ones included, from
-- an accepted opening on, each on the header and the .. stores as the last left them", and (change 2) refreshes, each lent any
-- index store beside them (`Refreshes` defines which are sound). Nothing is known of a call but the contract of its entry point.
-- Assumes nothing.
use Rattle.refresh_spec.specs.declared.Refreshed.{Refreshed}
use Rattle.table.specs.declared.Merge.{Merge}
use Rattle.table.specs.declared.Header.{Header}
use Rattle.refusals.specs.declared.Refusal.{Refusal}
use Rattle.std.specs.Prelude.{ℕ, List, [], ◌∷◌, ◌++◌, length, Result, Ok}
use Rattle.refusals.specs.Refusals.{if_accepted}
use Rattle.plain_table.specs.Staged.{Opening, Staged}
use Rattle.plain_table.specs.Refreshing.{Refresh}
use Rattle.plain_table.specs.Calls.{Call, staging, merging, compacting, clearing, refreshing, feeding, LentCall}
use Rattle.refusals.specs.Refusals.{answer_view}
use Rattle.refresh_spec.specs.Index.{IndexSound}
use Rattle.refresh_spec.specs.Refreshes.{records_found, Refreshing}
use Rattle.table.specs.Outcomes.{Stores, stores, Body, body, body_of, joined, CompactionWords, Opened, Staging, Merging, Compacting, Clearing, lengths_lent}

-- A call that is lent these stores and compaction words. The checks of a call that is not lent compaction words do not read their
-- lengths; `w` may then be any.
abbrev pub lent_call : Call → Stores → CompactionWords → LentCall
lent_call c s w = record { call = c; lengths = lengths_lent s w }

-- the stores after a refresh
abbrev pub refreshed_stores : Stores → Result Refreshed Refusal → List ℕ → Stores
refreshed_stores s answer pending' = joined (if_accepted (answer_view answer) (λ a. a.header) s.header) (body_of s) pending'

-- One call, by the contract of its entry point: the lent stores before and after it, and their lengths. A store that it is not lent
-- is unchanged.
pub data Called (s : Stores) : LentCall → Stores → Type 0 where
  stages : (w : CompactionWords) (r : Staged) (answer : Result Header Refusal) (pending' : List ℕ) → Staging s.header s.pending r answer pending'
      → Called s (lent_call (staging r) s w) (joined (if_accepted (answer_view answer) (λ h. h) s.header) (body_of s) pending')
  merges : (w : CompactionWords) (answer : Result Merge Refusal) (b' : Body) (w' : CompactionWords) → Merging s w answer b' w'
      → Called s (lent_call merging s w) (joined (if_accepted (answer_view answer) (λ m. m.header) s.header) b' s.pending)
  compacts : (w : CompactionWords) (answer : Result Header Refusal) (b' : Body) (w' : CompactionWords) → Compacting s.header (body_of s) w answer b' w'
      → Called s (lent_call compacting s w) (joined (if_accepted (answer_view answer) (λ h. h) s.header) b' s.pending)
  clears : (w : CompactionWords) (answer : Result Header Refusal) (keys' : List ℕ) → Clearing s.header s.keys answer keys'
      → Called s (lent_call clearing s w) (joined (if_accepted (answer_view answer) (λ h. h) s.header) (body s.rows keys' s.sorts) s.pending)
  -- over a sound index store "the plain table stages these records of its own rows"
  refreshes : (w : CompactionWords) (r : Refresh) (index : List ℕ) (answer : Result Refreshed Refusal) (pending' index' : List ℕ) → Refreshing s.header s.rows s.pending index r answer pending' index'
      → IndexSound s.header s.rows r.columns index
      → Called s (lent_call (refreshing r (length index)) s w) (refreshed_stores s answer pending')
  -- "Over such an unsound index store, and nowhere else, it is fed the records that the call staged"
  refreshes_unsound : (w : CompactionWords) (r : Refresh) (index : List ℕ) (answer : Result Refreshed Refusal) (pending' index' : List ℕ) (m : Refreshing s.header s.rows s.pending index r answer pending' index')
      → (IndexSound s.header s.rows r.columns index → ⊥)
      → Called s (lent_call (feeding (if_accepted (answer_view answer) (λ a. records_found s.header s.rows r m.found) [])) s w) (refreshed_stores s answer pending')

-- stores with more cells behind each
abbrev pub behind : Stores → Body → List ℕ → Stores
behind s rest pending = stores s.header (s.rows ++ rest.rows) (s.keys ++ rest.keys) (s.sorts ++ rest.sorts) (s.pending ++ pending)

-- A step lends its call a first part of each store. The part may differ from call to call: a call may be refused because its part of
-- a store is too short, and the next be lent a longer one. The cells behind that part are unchanged.
pub data Step : Stores → LentCall → Stores → Type 0 where
  called : {s t : Stores} {c : LentCall} (rest : Body) (pending : List ℕ) → Called s c t → Step (behind s rest pending) c (behind t rest pending)

-- calls in order
pub data Steps : Stores → List LentCall → Stores → Type 0 where
  end : (s : Stores) → Steps s [] s
  next : {s t u : Stores} {c : LentCall} {cs : List LentCall} → Step s c t → Steps t cs u → Steps s (c ∷ cs) u

-- the calls after an accepted opening, which is lent a first part of each store too
pub record History (o : Opening) (generation : ℕ) (calls : List LentCall) (s : Stores) : Type 0 where
  pub start : Stores
  pub keys_before : List ℕ
  pub opened : Opened o generation (body start.rows keys_before start.sorts) start.pending (Ok start.header) start.keys
  pub rest : Body
  pub pending : List ℕ
  pub steps : Steps (behind start rest pending) calls s
