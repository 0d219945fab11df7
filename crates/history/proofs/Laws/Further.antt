-- Calls that are lent the whole stores, and histories that continue: calls after calls, and calls after a history. Assumes nothing.
use Rattle.std.specs.Prelude.{Ok}
use Rattle.history.proofs.Laws.Prelude.{ℕ, ◌≡◌, List, [], ◌++◌, append-nil, Opening, LentCall, Stores, stores, body, Opened, Called, behind, Step, called, Steps, end, next, History}

-- no cells are behind the lent part
pub behind_nothing : (s : Stores) → behind s (body [] [] []) [] ≡ s
behind_nothing s =
    λ i. stores s.header (append-nil s.rows i) (append-nil s.keys i) (append-nil s.sorts i) (append-nil s.pending i)

pub whole_step : {s t : Stores} {c : LentCall} → Called s c t → Step s c t
whole_step {s} {t} {c} call = go (behind_nothing s) (behind_nothing t)
  where
    go : {a b : Stores} → behind s (body [] [] []) [] ≡ a → behind t (body [] [] []) [] ≡ b → Step a c b
    go e f = rw (← e, ← f) (called (body [] [] []) [] call)

pub steps_then : {s t u : Stores} {cs ds : List LentCall} → Steps s cs t → Steps t ds u → Steps s (cs ++ ds) u
steps_then (end s) more = more
steps_then (next step steps) more = next step (steps_then steps more)

pub history_then : {o : Opening} {generation : ℕ} {calls more : List LentCall} {s t : Stores} → History o generation calls s → Steps s more t → History o generation (calls ++ more) t
history_then h steps =
    record { start = h.start; keys_before = h.keys_before; opened = h.opened; rest = h.rest; pending = h.pending; steps = steps_then h.steps steps }

-- an opening that is lent the whole stores, and the calls after it
pub history_whole : {o : Opening} {generation : ℕ} {calls : List LentCall} {start s : Stores} (keys_before : List ℕ)
    → Opened o generation (body start.rows keys_before start.sorts) start.pending (Ok start.header) start.keys
    → Steps start calls s → History o generation calls s
history_whole {start = start} keys_before opened steps =
    record { start = start; keys_before = keys_before; opened = opened; rest = body [] [] []; pending = []; steps = rw (behind_nothing start) steps }
