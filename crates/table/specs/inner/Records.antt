-- The words of a pending record by its first word. Assumes nothing.
use Rattle.std.specs.Prelude.{ℕ, ◌+◌, cond, eqb}
use Rattle.plain_table.specs.Staged.{Opening}

-- the number of words of a record of a known kind
unfoldable pub kind_words : Opening → ℕ → ℕ
kind_words o kind = cond (eqb kind 0) (o.columns + 2) (cond (eqb kind 1) (o.keys + 2) (o.keys + 3))
