-- Cut the batch anywhere (document 02, change 12): "For batches of inserts alone, merging one batch and then another shall leave
-- the same live rows in the same order as merging both as one, from the same sound table with nothing else pending, provided no
-- call is refused and none of the three merges stops. Row numbers and generation may differ, since compaction falls at other
-- moments. An empty batch on either side is included". As in a history, nothing is known of a call but the contract of its entry
-- point. Assumes nothing.
use Rattle.std.specs.Prelude.{ℕ, ◌≤◌, ◌≡◌, List, [], ◌∷◌, ◌++◌, map, Ok}
use Rattle.plain_table.specs.Staged.{insert}
use Rattle.table.specs.declared.Header.{Header}
use Rattle.table.specs.declared.Merge.{Merge}
use Rattle.table.specs.Sound.{Sound}
use Rattle.table.specs.Outcomes.{Stores, Body, body_of, joined, CompactionWords, Staging, Merging}
use Rattle.history.specs.Histories.{behind}
use Rattle.history.specs.Claim.{live_in}

-- A batch of inserts alone: its rows are staged in order, then merged; "no call is refused and none of the .. merges stops". Each call
-- is lent a first part of each store, as in a step of a history.
pub data Batch : Stores → List (List ℕ) → Stores → Type 0 where
  merge : (s : Stores) (rest : Body) (pending : List ℕ) (w : CompactionWords) (m : Merge) (b' : Body) (w' : CompactionWords)
      → Merging s w (Ok m) b' w' → m.status ≡ 0
      → Batch (behind s rest pending) [] (behind (joined m.header b' s.pending) rest pending)
  stage : {u : Stores} {row : List ℕ} {rows : List (List ℕ)} (s : Stores) (rest : Body) (pending : List ℕ) (h : Header) (pending' : List ℕ)
      → Staging s.header s.pending (insert row) (Ok h) pending' → Batch (behind (joined h (body_of s) pending') rest pending) rows u
      → Batch (behind s rest pending) (row ∷ rows) u

-- the cells of the live rows, in order
unfoldable pub live_cells_in : Stores → List (List ℕ)
live_cells_in s = map (λ row. row.cells) (live_in s)

-- "from the same sound table with nothing else pending"; its generation is a u32
abbrev pub CutAnywhere : Type 0
CutAnywhere =
    (s one two both : Stores) (a b : List (List ℕ))
    → Sound s.header s.rows s.keys s.sorts s.pending [] → s.header.generation ≤ 4294967295
    → Batch s a one → Batch one b two → Batch s (a ++ b) both
    → live_cells_in two ≡ live_cells_in both
