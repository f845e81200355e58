use Rattle.spatial_hash.specs.View.{table_view}
use Rattle.spatial_hash.proofs.Counts.{linked_few}
use Rattle.spatial_hash.proofs.table.HashTable.linked.Goals as goal

pub returns-clause-keys : goal.returns-clause-keys
returns-clause-keys c = rw (← c.self.view_is) (linked_few (table_view c.self.inside) c.self.invariant)

pub returns-clause-sound : goal.returns-clause-sound
returns-clause-sound c = rw c.self.view_is at c.self.invariant
