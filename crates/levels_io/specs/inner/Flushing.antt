-- The contract of making room in a text. Assumes nothing.
use Rattle.std.specs.Prelude.{ℕ, ◌+◌, ◌≤◌, ◌≡◌, ◌⊎◌, true}
use Rattle.levels_io.specs.declared.output.WriteResult.{WriteResult}

-- all buffered bytes are written; or none, if there is room
abbrev pub RoomMade : ℕ → ℕ → ℕ → WriteResult → Type 0
RoomMade length used room r = (r.count ≡ used) ⊎ ((r.count ≡ 0) × (r.is_written ≡ true) × (used + room ≤ length))
