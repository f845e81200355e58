use Rattle.spatial_hash.specs.View.{table_view}
use Rattle.spatial_hash.specs.Removal.{IsLast}
use Rattle.spatial_hash.proofs.Removed.{entry_sound}
use Rattle.spatial_hash.proofs.RemovalWrites.{entry_read}
use Rattle.spatial_hash.proofs.table.HashTable.remove_entry.Goals as goal

pub invariant_of-self : goal.invariant_of-self
invariant_of-self c =
    let t = table_view c.self.inside in
    let x : IsLast t c.args.bucket c.args.entry c.args.last = rw (← c.self.view_is) at c.requires.last in
    entry_read t c.args.entry c.args.last c.index.result.now c.index-2.result.now c.self.invariant x.last_low c.index.ensures c.index-2.ensures
    (entry_sound t c.args.bucket c.args.entry c.args.last c.self.invariant (rw (← c.self.view_is) at c.requires.bucket) x (rw (← c.self.view_is) at c.requires.end) (rw (← c.self.view_is) at c.requires.none))
