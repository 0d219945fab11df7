-- A row's cells in an array of eight, tested as the first row of a store. Assumes nothing.
use Rattle.listing_check.proofs.Prelude.{ℕ, ◌≡◌, ap, List, take, row_at_zero, Constraint, Header}
use Rattle.constraints.specs.Constraints.{meets}
use Rattle.query_spec.specs.Queries.{matches}

pub row_meets : (h : Header) (cells : List ℕ) (conditions : List Constraint) → matches h cells conditions 0 ≡ meets (take h.columns cells) conditions
unfolding matches
row_meets h cells conditions = ap (λ (row : List ℕ). meets row conditions) (row_at_zero h.columns cells)
