-- The view of a hash table's fields.
use Rattle.spatial_hash.specs.declared.table.HashTable.TheInside.{Inside}
use Rattle.spatial_hash.specs.Table.{Table}

-- the table with these fields
abbrev pub table_view : Inside → Table
table_view t = record { buckets = t.buckets; nodes = t.nodes; linked = t.linked; words = t.words.items; cells = t.cells.items }
