-- `key_check::key_store_sound` meets its contract. The loop's invariant: the live rows passed are counted, and each is reached.
-- Assumes nothing.
use Rattle.key_check.proofs.Prelude.{ℕ, ◌-◌, ◌≤◌, ◌<◌, ◌≡◌, LiveAt}
use Rattle.key_check.specs.inner.Check.{is_live_row, tally, Own}
use Rattle.key_check.proofs.key_store_sound.Given as goal

abbrev pub invariant-loop-row : goal.invariant-loop-row
invariant-loop-row l = (l.row ≤ l.t.rows) × (l.live ≡ tally (is_live_row l.t l.rows) l.row) × ((i : ℕ) → i < l.row → LiveAt l.t l.rows i → Own l.t l.rows l.store i)

abbrev pub decreases-loop-row : goal.decreases-loop-row
decreases-loop-row l = l.t.rows - l.row
