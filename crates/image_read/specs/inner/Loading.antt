-- Contracts of the functions that load an image's table and write its text. Assumes nothing.
use Rattle.refusals.specs.declared.Refusal.{Refusal}
use Rattle.std.specs.Prelude.{ℕ, ◌+◌, ◌*◌, ◌/◌, ◌≤◌, ◌<◌, ◌≡◌, ◌||◌, List, [], ◌∷◌, ltb, length, Result}
use Rattle.lists.specs.Lists.{splice}
use Rattle.refusals.specs.Refusals.{check, first_refusal, reply, outcome}
use Rattle.key_index.specs.declared.IndexShape.{IndexShape}
use Rattle.key_index.specs.Slots.{size_class_for, KeysSound}
use Rattle.plain_table.specs.Refusing.{Lengths, stores_short}
use Rattle.table.specs.declared.Header.{Header}
use Rattle.refusals.specs.Refusals.{answer_view}
use Rattle.table.specs.Numbers.{opening_of}
use Rattle.table.specs.Refusing.{outside}
use Rattle.table.specs.Outcomes.{Body, lengths}
use Rattle.image_spec.specs.Outcomes.{with_capacity, Loaded}
use Rattle.image_check.specs.declared.parse.Layout.{Layout}
use Rattle.image_check.specs.inner.Parsed.{part, image_in, IsAt}

-- ---- the table

-- 1 for a capacity outside its bounds or below the row count, 2 for a store shorter than needed
unfoldable pub load_refusal : Header → Lengths → ℕ
load_refusal h l = first_refusal (check (outside h) 1 ∷ check (stores_short (opening_of h) l || ltb l.pending h.pending) 2 ∷ [])

abbrev pub stores_refusal : Layout → ℕ → Body → List ℕ → ℕ
stores_refusal l capacity b pending =
    load_refusal (with_capacity l.header capacity) (lengths b.rows b.keys b.sorts pending [] [])

-- the parts of an image fit into stores of these lengths
pub record PartsFit (words : List ℕ) (l : Layout) (rows sorts pending : ℕ) : Type 0 where
  pub there : IsAt words l
  pub rows_fit : l.header.rows * l.header.columns ≤ rows
  pub sorts_fit : 2 * l.header.entries ≤ sorts
  pub pending_fit : l.header.pending ≤ pending

-- they are at the starts of the stores
pub record PartsWritten (words : List ℕ) (l : Layout) (rows sorts pending rows' sorts' pending' : List ℕ) : Type 0 where
  pub rows_after : rows' ≡ splice rows 0 (part words l.rows l.sorts)
  pub sorts_after : sorts' ≡ splice sorts 0 (part words l.sorts l.pending)
  pub pending_after : pending' ≡ splice pending 0 (part words l.pending l.end)

-- the slots that a table of this capacity uses lead to exactly the live rows
pub record Built (t : IndexShape) (capacity : ℕ) (rows slots : List ℕ) : Type 0 where
  pub long : 131072 ≤ length slots
  pub sound : KeysSound (record { columns = t.columns; keys = t.keys; room = size_class_for capacity t.rows; rows = t.rows }) rows slots

-- the image at these places is loaded, or its capacity or the stores refused
pub record Loading (words : List ℕ) (l : Layout) (capacity : ℕ) (b : Body) (pending : List ℕ) (answer : Result Header Refusal) (b' : Body) (pending' : List ℕ) : Type 0 where
  pub refusal : outcome (answer_view answer) ≡ reply (stores_refusal l capacity b pending) tt
  pub unchanged : 0 < stores_refusal l capacity b pending → (b' ≡ b) × (pending' ≡ pending)
  pub loaded : stores_refusal l capacity b pending ≡ 0 → Loaded (image_in words l) capacity b pending answer b' pending'

-- ---- the text

-- words hold so many bytes of a text
pub record TextIn (words : List ℕ) (count : ℕ) : Type 0 where
  pub few : count ≤ 4096
  pub long : 15 + (count + 3) / 4 ≤ length words
