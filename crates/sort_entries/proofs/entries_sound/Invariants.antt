-- `sort_entries::entries_sound` meets its contract. Loop invariant: each entry so far follows the one before. Assumes nothing.
use Rattle.sort_entries.proofs.Prelude.{ℕ, ◌≤◌, ◌<◌, Follows}
use Rattle.sort_entries.proofs.entries_sound.Given as goal

abbrev pub invariant-loop-i : goal.invariant-loop-i
invariant-loop-i l = (l.i ≤ l.entries) × ((j : ℕ) → j < l.i → Follows l.sorts l.rows j)
