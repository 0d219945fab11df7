-- Contract of one insert of a merge. Assumes nothing.
use Rattle.std.specs.Prelude.{ℕ, ◌*◌, ◌<◌, ◌≡◌, List, None, Some, Ok, Err}
use Rattle.refusals.specs.Refusals.{refused, accepted}
use Rattle.plain_table.specs.Staged.{insert}
use Rattle.plain_table.specs.Plain.{Plain, insertion}
use Rattle.table.specs.declared.Header.{Header}
use Rattle.table.specs.Outcomes.{Stores, stores, Represents, SamePast}
use Rattle.merge_pending.specs.inner.Becoming.{Becomes, Recounted, hash_of}
use Rattle.merge_insert.specs.inner.Appending.{Insertion, stop_number}

-- the answer of an insert, in terms of the plain table's insertion
abbrev pub InsertAgrees : Plain → List ℕ → Stores → List ℕ → List ℕ → List ℕ → Insertion → Type 0
InsertAgrees p cells s rows' keys' sorts' (Ok None) = insertion cells p ≡ accepted p
InsertAgrees p cells s rows' keys' sorts' (Ok (Some h')) =
    (p' : Plain) × (insertion cells p ≡ accepted p') × Becomes p p' s (stores h' rows' keys' sorts' s.pending)
InsertAgrees p cells s rows' keys' sorts' (Err stop) = (insertion cells p ≡ refused (stop_number stop)) × (0 < stop_number stop)

-- one insert, with the hash of its key
pub record Inserting (h : Header) (rows keys sorts cells : List ℕ) (hash : ℕ) (r : Insertion) (rows' keys' sorts' : List ℕ) : Type 0 where
  pub past : SamePast (2 * h.capacity) keys keys'
  pub header : (h' : Header) → r ≡ Ok (Some h') → Recounted h h'
  pub unchanged : ((h' : Header) → r ≡ Ok (Some h') → ⊥) → (rows' ≡ rows) × (keys' ≡ keys) × (sorts' ≡ sorts)
  pub table : hash ≡ hash_of h.keys (insert cells) → (pending : List ℕ) (p : Plain) → Represents p (stores h rows keys sorts pending)
      → InsertAgrees p cells (stores h rows keys sorts pending) rows' keys' sorts' r
