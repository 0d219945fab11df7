-- The numbers of the key index if all slots of the capacity were in use. If rows and slots fit these numbers, they fit those in
-- use, for any row count. Assumes nothing.
use Rattle.key_index.specs.declared.IndexShape.{IndexShape}
use Rattle.table.specs.declared.Header.{Header}

abbrev pub full_index_shape_of : Header → IndexShape
full_index_shape_of h = record { columns = h.columns; keys = h.keys; room = h.capacity; rows = h.rows }
