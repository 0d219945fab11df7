-- Contracts of the parts of a step. Assumes nothing.
use Rattle.std.specs.Prelude.{ℕ, ◌<◌, ◌≡◌, Bool, true, false, List, length}
use Rattle.levels_io.specs.declared.input.Input.{Input}
use Rattle.levels_io.specs.declared.input.TakenLine.{TakenLine}
use Rattle.levels_io.specs.Input.{bytes_read, unread, AtEnd}
use Rattle.levels_io.specs.inner.Taking.{Refilled, LineTaken}
use Rattle.levels_io.specs.inner.Flushing.{RoomMade}
use Rattle.levels.specs.declared.LineProgress.{LineProgress}

-- All buffered bytes are written; then a read is made, unless the write failed.
pub record ReadOn (chunk : List ℕ) (rest : Input) (count used : ℕ) (chunk' : List ℕ) (r : LineProgress) : Type 0 where
  pub same_length : r.length ≡ count
  pub all_handed : r.handed.count ≡ used
  pub no_line : r.is_line ≡ false
  pub reads : r.handed.is_written ≡ true → (r.is_over ≡ false) × Refilled (unread chunk rest) rest.reads chunk' r.input
  pub fails : r.handed.is_written ≡ false → (r.is_over ≡ true) × (r.input ≡ rest) × (chunk' ≡ chunk)

-- there is room for an answer, unless a write failed
pub record Ready (text : ℕ) (rest : Input) (count used : ℕ) (last : Bool) (r : LineProgress) : Type 0 where
  pub same_input : r.input ≡ rest
  pub same_length : r.length ≡ count
  pub room : RoomMade text used 103492 r.handed
  pub answers : r.handed.is_written ≡ true → (r.is_line ≡ true) × (r.is_over ≡ last)
  pub fails : r.handed.is_written ≡ false → (r.is_line ≡ false) × (r.is_over ≡ true)

-- nothing remains to be done
pub record Over (rest : Input) (r : LineProgress) : Type 0 where
  pub same_input : r.input ≡ rest
  pub no_length : r.length ≡ 0
  pub none_handed : r.handed.count ≡ 0
  pub written : r.handed.is_written ≡ true
  pub no_line : r.is_line ≡ false
  pub is_over : r.is_over ≡ true

module _ (line : List ℕ) (count : ℕ) (chunk : List ℕ) (input : Input) (text : List ℕ) (used : ℕ) (line' chunk' : List ℕ) (r : LineProgress) where
  pub data Advanced : Type 0 where
    found : (taken : TakenLine) → LineTaken line count chunk input line' taken → taken.is_whole ≡ true
        → Ready (length text) taken.input taken.length used false r → chunk' ≡ chunk → Advanced
    more : (taken : TakenLine) → LineTaken line count chunk input line' taken → taken.is_whole ≡ false → (0 < bytes_read taken.input.got) × (0 < taken.input.reads)
        → ReadOn chunk taken.input taken.length used chunk' r → Advanced
    ended : (taken : TakenLine) → LineTaken line count chunk input line' taken → taken.is_whole ≡ false → AtEnd taken.input → 0 < taken.length
        → Ready (length text) taken.input taken.length used true r → chunk' ≡ chunk → Advanced
    nothing_left : (taken : TakenLine) → LineTaken line count chunk input line' taken → taken.is_whole ≡ false → AtEnd taken.input → taken.length ≡ 0
        → Over taken.input r → chunk' ≡ chunk → Advanced
