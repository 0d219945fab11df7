-- Contract of all inserts of a merge. Assumes nothing.
use Rattle.std.specs.Prelude.{ℕ, ◌+◌, ◌*◌, ◌≤◌, ◌<◌, ◌≡◌, List, ◌∷◌, get_or, Option, None, Some, Result, Ok, Err}
use Rattle.plain_table.specs.Staged.{Staged, inserts}
use Rattle.plain_table.specs.Plain.{insert_all, inserted, Plain}
use Rattle.table.specs.declared.Header.{Header}
use Rattle.merge_insert.specs.declared.Applied.{Applied}
use Rattle.merge_insert.specs.declared.MergeProgress.{MergeProgress}
use Rattle.merge_insert.specs.declared.StoppedAt.{StoppedAt}
use Rattle.merge_insert.specs.declared.append.Stop.{Stop}
use Rattle.merge_insert.specs.inner.Appending.{stop_number}
use Rattle.table.specs.Numbers.{opening_of}
use Rattle.table.specs.Outcomes.{Stores, stores, Represents, SamePast}
use Rattle.merge_pending.specs.inner.Becoming.{Becomes, Recounted, Ready, Waiting, Remaining}

-- the number of the stop, and its place; both 0 if the merge did not stop
abbrev pub stop_status : Option StoppedAt → ℕ
stop_status None = 0
stop_status (Some at) = stop_number at.stop

abbrev pub stop_place : Option StoppedAt → ℕ
stop_place None = 0
stop_place (Some at) = at.place

-- all inserts
pub record InsertedTable (p : Plain) (s s' : Stores) (m : MergeProgress) : Type 0 where
  pub steps : Becomes p (insert_all (inserts p.staged) 0 p).table s s'
  pub status : stop_status m.stopped ≡ (insert_all (inserts p.staged) 0 p).status
  pub place : stop_place m.stopped ≡ (insert_all (inserts p.staged) 0 p).place

pub record Insertions (h : Header) (rows keys sorts pending : List ℕ) (m : MergeProgress) (rows' keys' sorts' : List ℕ) : Type 0 where
  pub past : SamePast (2 * h.capacity) keys keys'
  pub header : Recounted h m.header
  pub table : (p : Plain) → Represents p (stores h rows keys sorts pending)
      → InsertedTable p (stores h rows keys sorts pending) (stores m.header rows' keys' sorts' pending) m

-- of the pending records, those from a place on include all inserts
pub record FirstInsert (h : Header) (pending : List ℕ) (at : ℕ) : Type 0 where
  pub inside : at ≤ h.pending
  pub left : (records : List Staged) → Waiting (opening_of h) pending h.pending 0 records → Remaining h pending 0 at records

-- numbers within their bounds, and the record at a place is complete if it is an insert
pub record InsertNext (m : Applied) (rows keys sorts pending : List ℕ) (at : ℕ) : Type 0 where
  pub ready : Ready m.header rows keys sorts pending
  pub inside : at < m.header.pending
  pub whole : get_or pending at 0 ≡ 0 → at + (m.header.columns + 2) ≤ m.header.pending
  pub place_fits : m.count ≤ at

-- the insert at a place does not stop the merge: the result of the inserts from there on is that of the inserts after it
pub record InsertGoes (m r : Applied) (one : Staged) (rest : List Staged) (p : Plain) (s s' : Stores) : Type 0 where
  pub next : Plain
  pub steps : Becomes p next s s'
  pub goes_on : insert_all (inserts (one ∷ rest)) m.count p ≡ insert_all (inserts rest) r.count next

-- it stops the merge, and changes nothing
pub record InsertStops (m : Applied) (n : ℕ) (one : Staged) (rest : List Staged) (p : Plain) (s s' : Stores) : Type 0 where
  pub steps : Becomes p p s s'
  pub stops : insert_all (inserts (one ∷ rest)) m.count p ≡ inserted p n m.count

pub record GoneOn (m : Applied) (rows keys sorts pending : List ℕ) (at : ℕ) (r : Applied) (rows' keys' sorts' : List ℕ) : Type 0 where
  pub past : SamePast (2 * m.header.capacity) keys keys'
  pub header : Recounted m.header r.header
  pub place_fits : r.count ≤ m.count + 1
  pub table : (one : Staged) (rest : List Staged) → Waiting (opening_of m.header) pending m.header.pending at (one ∷ rest)
      → (p : Plain) → Represents p (stores m.header rows keys sorts pending)
      → InsertGoes m r one rest p (stores m.header rows keys sorts pending) (stores r.header rows' keys' sorts' pending)

pub record StoppedNext (m : Applied) (rows keys sorts pending : List ℕ) (at n : ℕ) (rows' keys' sorts' : List ℕ) : Type 0 where
  pub past : SamePast (2 * m.header.capacity) keys keys'
  pub table : (one : Staged) (rest : List Staged) → Waiting (opening_of m.header) pending m.header.pending at (one ∷ rest)
      → (p : Plain) → Represents p (stores m.header rows keys sorts pending)
      → InsertStops m n one rest p (stores m.header rows keys sorts pending) (stores m.header rows' keys' sorts' pending)

abbrev pub InsertedNext : Applied → List ℕ → List ℕ → List ℕ → List ℕ → ℕ → Result Applied Stop → List ℕ → List ℕ → List ℕ → Type 0
InsertedNext m rows keys sorts pending at (Ok r) rows' keys' sorts' = GoneOn m rows keys sorts pending at r rows' keys' sorts'
InsertedNext m rows keys sorts pending at (Err stop) rows' keys' sorts' = StoppedNext m rows keys sorts pending at (stop_number stop) rows' keys' sorts'
