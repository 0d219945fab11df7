-- The tests of *Stage* over the numbers of a record: one check list for its three kinds. Assumes nothing.
use Rattle.std.specs.Prelude.{ℕ, ◌+◌, Bool, not, [], ◌∷◌, eqb}
use Rattle.refusals.specs.Refusals.{check, first_refusal}
use Rattle.plain_table.specs.Refusing.{overfull}
use Rattle.table.specs.declared.Header.{Header}
use Rattle.table.specs.Refusing.{pending_outside}

-- the checks of a record with `cells` cells where `width` are required, and with `more` words before them
unfoldable pub record_refusal : Header → ℕ → ℕ → ℕ → Bool → ℕ → ℕ
record_refusal h pending cells width gone more =
    first_refusal
    (check (pending_outside h pending) 1
    ∷ check (not (eqb cells width)) 3
    ∷ check gone 5
    ∷ check (overfull h.pending pending (width + more)) 7
    ∷ [])
