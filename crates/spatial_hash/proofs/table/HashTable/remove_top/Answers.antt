use Rattle.std.proofs.Common.{◌+◌, ◌*◌}
use Rattle.spatial_hash.specs.View.{table_view}
use Rattle.spatial_hash.specs.Removal.{IsLast, IsChainEnd}
use Rattle.spatial_hash.proofs.Removed.{top_sound}
use Rattle.spatial_hash.proofs.RemovalWrites.{top_read}
use Rattle.spatial_hash.proofs.table.HashTable.remove_top.Goals as goal

pub invariant_of-self : goal.invariant_of-self
invariant_of-self c =
    let t = table_view c.self.inside in
    let n = c.args.last.node in
    let x : IsLast t c.args.bucket c.args.entry (4 * c.self.inside.buckets + c.args.last.node) = rw (← c.self.view_is) at c.requires.last in
    let y : IsChainEnd t c.args.bucket c.args.last.node c.args.last.link = rw (← c.self.view_is) at c.requires.end in
    top_read t c.args.entry c.args.last.node c.args.last.link c.index.result.now c.index-2.result.now c.self.invariant y.step.low c.index.ensures c.index-2.ensures
    (top_sound t c.args.bucket c.args.entry c.args.last.node c.args.last.link c.self.invariant (rw (← c.self.view_is) at c.requires.bucket) x y (rw (← c.self.view_is) at c.requires.top))
