-- Tables after a write.
use Rattle.std.specs.Prelude.{ℕ, ◌+◌, ◌-◌, ◌*◌, slice_index, slice_set}
use Rattle.spatial_hash.specs.Table.{Table}

-- the table with a key word and a cell written at an entry
abbrev pub written : Table → ℕ → ℕ → ℕ → Table
written t e w c = record t { words = slice_set t.words e w; cells = slice_set t.cells e c }

-- the table with a link set
abbrev pub joined : Table → ℕ → ℕ → Table
joined t j v = record t { words = slice_set t.words (4 * t.buckets + t.nodes + j) v }

-- the table with its first unlinked node filled and linked at link j
abbrev pub extended : Table → ℕ → ℕ → ℕ → Table
extended t j w c = record (joined (written t (4 * t.buckets + t.linked) w c) j (t.linked + 1)) { linked = t.linked + 1 }

-- the table with the key and the cell of entry l moved to entry e
abbrev pub taken_to : Table → ℕ → ℕ → Table
taken_to t e l = record t { words = slice_set (slice_set t.words e (slice_index t.words l)) l 0; cells = slice_set t.cells e (slice_index t.cells l) }

-- the table without the key of entry e: the key of node n moves there, and the node is unlinked at link j
abbrev pub cut : Table → ℕ → ℕ → ℕ → Table
cut t e n j = joined (taken_to t e (4 * t.buckets + n)) j 0

-- the table with node m moved to node n, to which link j leads
abbrev pub renumbered : Table → ℕ → ℕ → ℕ → Table
renumbered t n m j =
    joined (joined (joined (taken_to t (4 * t.buckets + n) (4 * t.buckets + m)) (t.buckets + n) (slice_index t.words (4 * t.buckets + t.nodes + (t.buckets + m)))) (t.buckets + m) 0) j (n + 1)

-- the table with one linked node fewer
abbrev pub shrunk : Table → Table
shrunk t = record t { linked = t.linked - 1 }
