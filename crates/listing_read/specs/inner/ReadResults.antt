-- The reply of a reader in either form. Assumes nothing.
use Rattle.std.specs.Prelude.{ℕ, Bool, List, [], ◌∷◌, ◌++◌, Result, Ok, Err}
use Rattle.refusals.specs.declared.Refusal.{Refusal}
use Rattle.refusals.specs.Refusals.{Reply, refused, accepted, number}
use Rattle.listing_parse.specs.declared.Survey.{Survey}
use Rattle.listing_parse.specs.inner.Surveys.{head_of}

-- the head's numbers, and how many rows there are
unfoldable pub read_view : Bool → Result Survey Refusal → Reply (List ℕ)
read_view numbered (Err r) = refused (number r)
read_view numbered (Ok s) = accepted (head_of numbered s ++ (s.rows ∷ []))
