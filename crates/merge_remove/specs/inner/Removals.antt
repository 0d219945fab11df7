-- Contracts of the removals of a merge: one removal, the removal at a place of the pending store, all removals of a kind.
-- Assumes nothing.
use Rattle.std.specs.Prelude.{ℕ, ◌+◌, ◌*◌, ◌≤◌, ◌<◌, ◌≡◌, Bool, false, cond, not, List, [], ◌∷◌, length, drop, get_or, set, eqb}
use Rattle.lists.specs.Lists.{row_at}
use Rattle.constraints.specs.Constraints.{is_live}
use Rattle.key_index.specs.declared.IndexShape.{IndexShape}
use Rattle.key_index.specs.Slots.{LiveAt, key_at, slots, word, KeysSound}
use Rattle.key_index.specs.inner.Index.{Fits}
use Rattle.plain_table.specs.Staged.{Staged, insert, remove_key, remove_row}
use Rattle.plain_table.specs.Plain.{Plain, without_key, without_row}
use Rattle.table.specs.declared.Header.{Header}
use Rattle.table.specs.Numbers.{opening_of}
use Rattle.table.specs.inner.FullIndexShape.{full_index_shape_of}
use Rattle.table.specs.Outcomes.{stores, Represents, SamePast}
use Rattle.merge_pending.specs.inner.Becoming.{Becomes, with_dead, kind_of, Waiting, hash_of}

-- the table after a removal
unfoldable pub removed : Staged → Plain → Plain
removed (insert cells) p = p
removed (remove_key key) p = without_key p (remove_key key)
removed (remove_row row key) p = without_row p (remove_row row key)

-- the table after the removals of one kind, in staging order
unfoldable pub removed_all : ℕ → List Staged → Plain → Plain
removed_all kind [] p = p
removed_all kind (r ∷ rs) p = removed_all kind rs (cond (eqb (kind_of r) kind) (removed r p) p)

-- the number of rows that died, by the answer
unfoldable pub died : Bool → ℕ
died r = cond r 1 0

-- a row is deleted from the key store and marked dead; the answer is whether it was live
pub record Kills (t : IndexShape) (rows keys : List ℕ) (row slot : ℕ) (r : Bool) (rows' keys' : List ℕ) : Type 0 where
  pub marks : rows' ≡ set rows (row * t.columns) 4294967295
  pub was_live : r ≡ is_live (row_at t.columns row rows)
  pub past : drop (slots t) keys' ≡ drop (slots t) keys
  pub keys_sound : KeysSound t rows keys → LiveAt t rows row → get_or keys slot 0 ≡ word (key_at t rows row) row → KeysSound t rows' keys'

-- the removal of a kind with a row number and a key; a removal by key ignores the number
unfoldable pub removal_of : ℕ → ℕ → List ℕ → Staged
removal_of kind row key = cond (eqb kind 1) (remove_key key) (remove_row row key)

-- the removal spares the live row of its key, because it names another row
unfoldable pub spared : ℕ → ℕ → ℕ → Bool
spared kind row found = cond (eqb kind 1) false (not (eqb found row))

-- one removal, with the hash of its key, from a table with any number of dead rows
pub record Removal (h : Header) (rows keys : List ℕ) (removal : Staged) (hash : ℕ) (r : Bool) (rows' keys' : List ℕ) : Type 0 where
  pub past : SamePast (2 * h.capacity) keys keys'
  pub table : hash ≡ hash_of h.keys removal → (dead : ℕ) (sorts pending : List ℕ) (p : Plain)
      → Represents p (stores (with_dead h dead) rows keys sorts pending)
      → Becomes p (removed removal p) (stores (with_dead h dead) rows keys sorts pending) (stores (with_dead h (dead + died r)) rows' keys' sorts pending)

-- a complete removal, of the kind in its first word, is at a place of the pending store
pub record RemovalAt (h : Header) (pending : List ℕ) (at : ℕ) : Type 0 where
  pub some_kind : 1 ≤ get_or pending at 0
  pub most_kind : get_or pending at 0 ≤ 2
  pub whole : at + (h.keys + 1 + get_or pending at 0) ≤ length pending

-- the removal at a place
pub record Removed (h : Header) (rows keys pending : List ℕ) (at : ℕ) (r : Bool) (rows' keys' : List ℕ) : Type 0 where
  pub past : SamePast (2 * h.capacity) keys keys'
  pub table : (removal : Staged) (rest : List Staged) → Waiting (opening_of h) pending h.pending at (removal ∷ rest) → (kind_of removal ≡ 0 → ⊥)
      → (dead : ℕ) (sorts : List ℕ) (p : Plain) → Represents p (stores (with_dead h dead) rows keys sorts pending)
      → Becomes p (removed removal p) (stores (with_dead h dead) rows keys sorts pending) (stores (with_dead h (dead + died r)) rows' keys' sorts pending)

-- numbers within their bounds, and stores long enough for the removals of a kind
pub record Removable (h : Header) (rows keys pending : List ℕ) (kind : ℕ) : Type 0 where
  pub fits : Fits (full_index_shape_of h) rows keys
  pub pending_fits : h.pending ≤ length pending
  pub dead_few : 3 * h.dead + h.pending ≤ 12884901885
  pub some_kind : 1 ≤ kind
  pub most_kind : kind ≤ 2

-- all removals of a kind
pub record Removals (h : Header) (rows keys pending : List ℕ) (kind : ℕ) (h' : Header) (rows' keys' : List ℕ) : Type 0 where
  pub header : h' ≡ with_dead h h'.dead
  pub dead_few : 3 * h'.dead ≤ 3 * h.dead + h.pending
  pub past : SamePast (2 * h.capacity) keys keys'
  pub table : (sorts : List ℕ) (p : Plain) → Represents p (stores h rows keys sorts pending)
      → Becomes p (removed_all kind p.staged p) (stores h rows keys sorts pending) (stores h' rows' keys' sorts pending)

-- the record at a place is complete if it is a removal of this kind
pub record RemovalNext (h : Header) (rows keys pending : List ℕ) (at kind : ℕ) : Type 0 where
  pub fits : Fits (full_index_shape_of h) rows keys
  pub inside : at < length pending
  pub whole : get_or pending at 0 ≡ kind → RemovalAt h pending at
  pub some_kind : 1 ≤ kind

-- the removal is applied, and r rows died
pub record RemovedNext (h : Header) (rows keys pending : List ℕ) (at kind r : ℕ) (rows' keys' : List ℕ) : Type 0 where
  pub past : SamePast (2 * h.capacity) keys keys'
  pub few : r ≤ 1
  pub table : (removal : Staged) (rest : List Staged) → Waiting (opening_of h) pending h.pending at (removal ∷ rest)
      → (dead : ℕ) (sorts : List ℕ) (p : Plain) → Represents p (stores (with_dead h dead) rows keys sorts pending)
      → Becomes p (cond (eqb (kind_of removal) kind) (removed removal p) p)
      (stores (with_dead h dead) rows keys sorts pending)
      (stores (with_dead h (dead + r)) rows' keys' sorts pending)
