-- Contracts of the functions that are exported for comparison and measurement. Assumes nothing.
use Rattle.std.specs.Prelude.{ℕ, ◌+◌, ◌*◌, ◌≤◌, ◌≡◌, refl, Bool, true, false, List, length, take, drop}
use Rattle.std.proofs.Common.{true≢false}
use Rattle.std.proofs.lemmas.Bool.{false≢true}
use Rattle.lists.specs.Lists.{splice}
use Rattle.key_index.specs.declared.IndexShape.{IndexShape}
use Rattle.merge_rules.specs.Rules.{made_from, survivor}

-- a row is made in a lent one; nothing is done if it does not fit
pub record MadeInto (rule keys sort : ℕ) (old new out : List ℕ) (r : Bool) (out' : List ℕ) : Type 0 where
  pub done : r ≡ true → (length old ≡ length new) × (out' ≡ splice out 0 (made_from rule keys sort 0 old new))
  pub nothing : r ≡ false → ((length old ≡ length new) × (length old ≤ length out) → ⊥) × (out' ≡ out)

-- a surviving row is copied to the output; nothing is done under a rule other than 0 and 1, if a row is not within its store, or if
-- it does not fit
pub record Survives (rule keys sort width : ℕ) (rows : List ℕ) (old : ℕ) (pending : List ℕ) (new : ℕ) (out : List ℕ) (r : Bool) (out' : List ℕ) : Type 0 where
  pub done : r ≡ true → (rule ≤ 1) × (out' ≡ splice out 0 (survivor rule keys sort (take width (drop old rows)) (take width (drop new pending))))
  pub nothing : r ≡ false → ((rule ≤ 1) × (old + width ≤ length rows) × (new + width ≤ length pending) × (width ≤ length out) → ⊥) × (out' ≡ out)

module _ (rule keys sort : ℕ) (old new out : List ℕ) where
  pub made_nothing : ((length old ≡ length new) × (length old ≤ length out) → ⊥) → MadeInto rule keys sort old new out false out
  made_nothing n = record { done = λ e. absurd (false≢true e); nothing = λ e. (n, refl) }

  pub made_done : (out' : List ℕ) → length old ≡ length new → out' ≡ splice out 0 (made_from rule keys sort 0 old new)
      → MadeInto rule keys sort old new out true out'
  made_done out' l w = record { done = λ e. (l, w); nothing = λ e. absurd (true≢false e) }

module _ (rule keys sort width : ℕ) (rows : List ℕ) (old : ℕ) (pending : List ℕ) (new : ℕ) (out : List ℕ) where
  pub survives_nothing : ((rule ≤ 1) × (old + width ≤ length rows) × (new + width ≤ length pending) × (width ≤ length out) → ⊥)
      → Survives rule keys sort width rows old pending new out false out
  survives_nothing n = record { done = λ e. absurd (false≢true e); nothing = λ e. (n, refl) }

  pub survives_done : (out' : List ℕ) → rule ≤ 1
      → out' ≡ splice out 0 (survivor rule keys sort (take width (drop old rows)) (take width (drop new pending)))
      → Survives rule keys sort width rows old pending new out true out'
  survives_done out' q w = record { done = λ e. (q, w); nothing = λ e. absurd (true≢false e) }

-- a table's numbers are within their bounds, and these lengths of its row and key store are sufficient
pub record Sized (t : IndexShape) (rows store : ℕ) : Type 0 where
  pub some_columns : 1 ≤ t.columns
  pub most_columns : t.columns ≤ 8
  pub some_keys : 1 ≤ t.keys
  pub most_keys : t.keys ≤ t.columns
  pub some_slots : 1 ≤ t.room
  pub most_slots : t.room ≤ 65536
  pub count : t.rows ≤ t.room
  pub cells : t.room * t.columns ≤ rows
  pub slots : 2 * t.room ≤ store
