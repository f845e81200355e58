use Rattle.std.proofs.Common.{◌+◌, ◌*◌}
use Rattle.spatial_hash.specs.View.{table_view}
use Rattle.spatial_hash.specs.Hash.{home}
use Rattle.spatial_hash.specs.Table.{key_word}
use Rattle.spatial_hash.specs.Removal.{IsLast, IsChainEnd, LeadsTo}
use Rattle.spatial_hash.proofs.Removed.{below_sound}
use Rattle.spatial_hash.proofs.RemovalWrites.{below_read}
use Rattle.spatial_hash.proofs.table.HashTable.remove_below.Goals as goal

pub invariant_of-self : goal.invariant_of-self
invariant_of-self c =
    let t = table_view c.self.inside in
    let x : IsLast t c.args.bucket c.args.entry (4 * c.self.inside.buckets + c.args.last.node) = rw (← c.self.view_is) at c.requires.last in
    let y : IsChainEnd t c.args.bucket c.args.last.node c.args.last.link = rw (← c.self.view_is) at c.requires.end in
    let z : LeadsTo t (home c.self.inside.buckets (key_word t (4 * c.self.inside.buckets + c.args.top.node))) c.args.top.node c.args.top.link = rw (← c.self.view_is) at c.requires.led in
    below_read t c.args.entry c.args.last.node c.args.last.link c.args.top.node c.args.top.link
    c.index.result.now c.index-2.result.now c.index-3.result.now c.index-4.result.now c.index-5.result.now c.self.invariant y.step.low z.step.low
    c.index.ensures c.index-2.ensures c.index-3.ensures c.index-4.ensures c.index-5.ensures
    (below_sound t c.args.bucket c.args.entry c.args.last.node c.args.last.link c.args.top.node c.args.top.link c.self.invariant (rw (← c.self.view_is) at c.requires.bucket) x y (rw (← c.self.view_is) at c.requires.top) c.requires.other z)
