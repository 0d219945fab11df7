-- Contract of `replay`: an opening and, if that is accepted, a list of requests one after another, each lent the whole stores. They
-- are a history, so the claim of the order's term 3 holds for them (law `replay_claimed`). From the contracts of the calls it also
-- follows which slots and index words are never written (laws `replay_slots`, `replay_index_past`, `replay_index_kept`). Assumes
-- nothing.
use Rattle.refusals.specs.declared.Refusal.{Refusal}
use Rattle.std.specs.Prelude.{ℕ, ◌+◌, ◌-◌, ◌<◌, ◌≡◌, List, [], ◌∷◌, map, Result, Ok}
use Rattle.refusals.specs.Refusals.{accepted, reply, outcome}
use Rattle.plain_table.specs.Staged.{Opening}
use Rattle.plain_table.specs.Plain.{Plain, opened}
use Rattle.plain_table.specs.Calls.{Call, LentCall, after}
use Rattle.plain_table.specs.Appending.{merge_or_clear}
use Rattle.table.specs.declared.Header.{Header}
use Rattle.refusals.specs.Refusals.{answer_view}
use Rattle.table.specs.Outcomes.{Stores, Body, stores, joined, CompactionWords, lengths_lent, WordsPast, open_refusal_on, Opened}
use Rattle.replay.specs.Requests.{Request, lent_to, ServedAll}

-- how many compactions these calls make on a plain table, in merges and by compaction calls: each raises the generation by 1. A
-- clear may raise it too, but is not counted
unfoldable pub compactions : Plain → List LentCall → ℕ
compactions p [] = 0
compactions p (c ∷ cs) =
    let q = after p c.lengths c.call in
    merge_or_clear c.call (q.generation - p.generation) 0 (q.generation - p.generation) + compactions q cs

module _ (o : Opening) (generation : ℕ) (requests : List Request) (b : Body) (pending : List ℕ) (w : CompactionWords) (index : List ℕ) where
  -- an accepted opening on these stores and then the requests, with the calls of a history that they correspond to
  pub record MadeFrom (s : Stores) (w' : CompactionWords) (index' : List ℕ) : Type 0 where
    pub header : Header
    pub keys : List ℕ
    pub opening : Opened o generation b pending (Ok header) keys
    pub calls : List Call
    pub served : ServedAll (lengths_lent (joined header b pending) w) (stores header b.rows keys b.sorts pending) index requests calls s index'
    -- Compaction words past those needed are never written, and none is if nothing is compacted. After a compaction the compaction words
    -- needed are unspecified.
    pub words_past : WordsPast o.capacity w w'
    pub words_kept : compactions (opened o generation) (map (lent_to (lengths_lent (joined header b pending) w)) calls) ≡ 0 → w' ≡ w

  pub record Replayed (answer : Result Header Refusal) (b' : Body) (pending' : List ℕ) (w' : CompactionWords) (index' : List ℕ) : Type 0 where
    -- if the opening is refused, no request is executed and nothing changes; otherwise all are executed
    pub refusal : outcome (answer_view answer) ≡ reply (open_refusal_on o b pending) tt
    pub unchanged : 0 < open_refusal_on o b pending → (b' ≡ b) × (pending' ≡ pending) × (w' ≡ w) × (index' ≡ index)
    pub calls_made : (h : Header) → answer_view answer ≡ accepted h → MadeFrom (joined h b' pending') w' index'
