-- A header's numbers, and the view of an answered range in the paper's terms. Assumes nothing.
use Rattle.std.specs.Prelude.{ℕ, Result, Ok, Err, Option as Optional, Some, None}
use Rattle.std.proofs.Math.Option.{Option, none, some}
use Rattle.refusals.specs.declared.Refusal.{Refusal}
use Rattle.refusals.specs.Refusals.{Reply, refused, accepted, number}
use Rattle.offsets.specs.Subsets.{Subset, range}
use Rattle.sort_entries.specs.declared.Range.{Range}
use Rattle.plain_table.specs.Staged.{Opening}
use Rattle.table.specs.declared.Header.{Header}

-- the opening's numbers in a header
abbrev pub opening_of : Header → Opening
opening_of h = record { columns = h.columns; keys = h.keys; sort = h.sort; rule = h.rule; capacity = h.capacity }

-- the largest sort value appended, "and whether there is one": `largest_view` reads it from a header's field, `largest_of` makes that field
unfoldable pub largest_view : Optional ℕ → Option ℕ
largest_view None = none
largest_view (Some v) = some v

unfoldable pub largest_of : Option ℕ → Optional ℕ
largest_of none = None
largest_of (some v) = Some v

-- a header of an opening's numbers, these counts and this largest value
abbrev pub header : Opening → ℕ → ℕ → ℕ → ℕ → ℕ → Optional ℕ → Header
header o rows dead entries pending generation largest =
    record {
      columns = o.columns;
      keys = o.keys;
      sort = o.sort;
      rule = o.rule;
      capacity = o.capacity;
      rows = rows;
      dead = dead;
      entries = entries;
      pending = pending;
      generation = generation;
      largest = largest;
    }

-- the reply of a fast range and of the rows since
unfoldable pub range_view : Result (Optional Range) Refusal → Reply (Option Subset)
range_view (Ok None) = accepted none
range_view (Ok (Some r)) = accepted (some (range r.start r.end))
range_view (Err refusal) = refused (number refusal)
