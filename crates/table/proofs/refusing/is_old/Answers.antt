-- `table::refusing::is_old` meets its contract. Assumes nothing.
use Rattle.std.proofs.Common.{ℕ, ◌≡◌, Bool, false, ltb, Option, None, Some, MatchOption, rules}
use Rattle.plain_table.specs.Plain.{below}
use Rattle.table.specs.Numbers.{largest_view}
use Rattle.table.proofs.refusing.is_old.Goals as goal

old : (value : ℕ) (largest : Option ℕ) (b : Bool) (P : ℕ → Type 0) → MatchOption largest (b ≡ false) P
    → ((last : ℕ) → P last → b ≡ ltb value last) → b ≡ below value (largest_view largest)
unfolding below largest_view
old value None b P e f = e
old value (Some last) b P e f = f last e

pub returns : goal.returns
returns c = old _ _ _ _ c.is_some_and.ensures (λ last p. search rules)
