-- `table::refusing::keeps_bounds` meets its contract. Assumes nothing.
use native.Mathlib.Omega.{arith}
use Rattle.table.proofs.RefusingSteps.{unopenable, kept_last}
use Rattle.table.proofs.refusing.keeps_bounds.Goals as goal

pub returns-then-columns-lt1 : goal.returns-then-columns-lt1
returns-then-columns-lt1 c = unopenable _ (λ b. omega (arith, b, c.if-columns-lt1.true))

pub returns-then-columns-gt-MOST_COLUMNS : goal.returns-then-columns-gt-MOST_COLUMNS
returns-then-columns-gt-MOST_COLUMNS c = unopenable _ (λ b. omega (arith, b, c.if-columns-gt-MOST_COLUMNS.true))

pub returns-then-keys-lt1 : goal.returns-then-keys-lt1
returns-then-keys-lt1 c = unopenable _ (λ b. omega (arith, b, c.if-keys-lt1.true))

pub returns-then-columns-keys : goal.returns-then-columns-keys
returns-then-columns-keys c = unopenable _ (λ b. omega (arith, b, c.if-columns-keys.true))

pub returns-then-columns-sort : goal.returns-then-columns-sort
returns-then-columns-sort c = unopenable _ (λ b. omega (arith, b, c.if-columns-sort.true))

pub returns : goal.returns
returns c = kept_last _ _ _ _ c.if-columns-lt1.false c.if-columns-gt-MOST_COLUMNS.false c.if-keys-lt1.false c.if-columns-keys.false c.if-columns-sort.false
