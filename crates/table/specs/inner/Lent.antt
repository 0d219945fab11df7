-- The lengths of the lent stores, from the record that the code uses. Assumes nothing.
use Rattle.plain_table.specs.Refusing.{Lengths}
use Rattle.table.specs.declared.Lent.{Lent}

abbrev pub lengths_of : Lent → Lengths
lengths_of l =
    record { rows = l.rows; keys = l.keys; sorts = l.sorts; pending = l.pending; live_words = l.live; base_words = l.base }
