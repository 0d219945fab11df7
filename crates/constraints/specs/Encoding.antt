-- Conditions encoded as words, three for each: kind, column, and column or value. Assumes nothing.
use Rattle.std.specs.Prelude.{ℕ, ◌+◌, ◌*◌, List, map, get_or}
use Rattle.lists.specs.Lists.{iota}
use Rattle.constraints.specs.declared.Constraint.{Constraint}

-- the condition with number i, from 0
abbrev pub condition_in : List ℕ → ℕ → Constraint
condition_in words i = record { kind = get_or words (i * 3) 0; column = get_or words (i * 3 + 1) 0; value = get_or words (i * 3 + 2) 0 }

-- the first n conditions
unfoldable pub conditions_in : ℕ → List ℕ → List Constraint
conditions_in n words = map (condition_in words) (iota 0 n)
