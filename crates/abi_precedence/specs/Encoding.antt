-- The encoding of the answer of the precedence check. Assumes nothing.
use Rattle.std.specs.Prelude.{ℕ, List, [], ◌∷◌, Option as Optional, Some, None}
use Rattle.std.proofs.Math.Option.{Option, none, some}
use Rattle.precedence.specs.declared.Failure.{Failure}

-- a failure that may be absent, as the definitions name it
unfoldable pub failure_of : Optional Failure → Option Failure
failure_of None = none
failure_of (Some f) = some f

-- 1, the row and the place of the pair that it fails, or all 0 if every row meets its pairs
unfoldable pub encode_failure : Option Failure → List ℕ
encode_failure none = 0 ∷ 0 ∷ 0 ∷ []
encode_failure (some f) = 1 ∷ f.row ∷ f.place ∷ []
