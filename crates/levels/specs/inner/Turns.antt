-- The contract of one step of the code: `Stepped`, and that the lengths and offsets stay within the stores. Assumes nothing.
use Rattle.std.specs.Prelude.{◌≤◌, Bool, length}
use Rattle.levels_io.specs.inner.Scanning.{InputIn}
use Rattle.levels_io.specs.declared.output.WriteResult.{WriteResult}
use Rattle.levels.specs.Run.{Program, Step, Machine, Holds, bytes_written, new_bytes, Stepped}

-- the lengths and offsets are within the stores
pub record Within (m : Machine) : Type 0 where
  pub input_in : InputIn m.chunk m.state.input
  pub line_in : m.state.length ≤ length m.line
  pub text_in : m.state.used ≤ length m.text

-- one step from this program
abbrev pub StepMade : Program → Machine → WriteResult → Machine → Bool → Type 0
StepMade p m handed m' over = (after : Program) × Step p (bytes_written handed m) (new_bytes m m') after over × Holds after m'

pub record Turned (m : Machine) (handed : WriteResult) (m' : Machine) (over : Bool) : Type 0 where
  pub within : Within m'
  pub stepped : Stepped m handed m' over
