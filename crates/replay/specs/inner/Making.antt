-- Requests executed one after another on lent stores: each is a step of a history. Assumes nothing.
use Rattle.std.specs.Prelude.{ℕ, ◌≡◌, List, map}
use Rattle.plain_table.specs.Refusing.{Lengths}
use Rattle.plain_table.specs.Plain.{Plain}
use Rattle.plain_table.specs.Calls.{Call}
use Rattle.table.specs.declared.Header.{Header}
use Rattle.table.specs.Outcomes.{Stores, stores, lengths, Represents, CompactionWords, compaction_words, WordsPast}
use Rattle.replay.specs.Requests.{Request, lent_to, ServedAll}
use Rattle.replay.specs.Replays.{compactions}

-- requests on stores and compaction words of these lengths, and on an index store
pub record Made (requests : List Request) (l : Lengths) (s : Stores) (w : CompactionWords) (index : List ℕ) (s' : Stores) (w' : CompactionWords) (index' : List ℕ) : Type 0 where
  pub calls : List Call
  pub served : ServedAll l s index requests calls s' index'
  -- on a table: the compaction words that are never written, and all of them if nothing is compacted
  pub words_past : (p : Plain) → Represents p s → WordsPast p.opening.capacity w w'
  pub words_kept : (p : Plain) → Represents p s → compactions p (map (lent_to l) calls) ≡ 0 → w' ≡ w

-- requests on the pending store alone, whatever the other stores hold
pub record MadeOnPending (requests : List Request) (h : Header) (pending : List ℕ) (h' : Header) (pending' : List ℕ) : Type 0 where
  pub made : (rows keys sorts live base index : List ℕ)
      → Made requests (lengths rows keys sorts pending live base) (stores h rows keys sorts pending) (compaction_words live base) index (stores h' rows keys sorts pending') (compaction_words live base) index

-- requests on the pending store and the index store, with these rows
pub record MadeOnIndex (requests : List Request) (h : Header) (rows pending index : List ℕ) (h' : Header) (pending' index' : List ℕ) : Type 0 where
  pub made : (keys sorts live base : List ℕ)
      → Made requests (lengths rows keys sorts pending live base) (stores h rows keys sorts pending) (compaction_words live base) index (stores h' rows keys sorts pending') (compaction_words live base) index'
