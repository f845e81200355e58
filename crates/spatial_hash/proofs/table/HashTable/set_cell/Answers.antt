use Rattle.std.proofs.Common.{set}
use Rattle.spatial_hash.specs.View.{table_view}
use Rattle.spatial_hash.specs.Contents.{IsKeyAt}
use Rattle.spatial_hash.proofs.Homes.{recelled_sound, taken_recelled}
use Rattle.spatial_hash.proofs.Staying.{entry_recelled}
use Rattle.spatial_hash.proofs.table.HashTable.set_cell.Goals as goal

pub invariant_of-self : goal.invariant_of-self
invariant_of-self c = recelled_sound (table_view c.self.inside) c.args.e c.args.cell c.self.invariant

pub returns-clause-map : goal.returns-clause-map
returns-clause-map c k at =
    let is : IsKeyAt (table_view c.self.inside) k c.args.e = rw (← c.self.view_is) at at in
    rw (← c.self.view_is) (taken_recelled (table_view c.self.inside) c.args.e c.args.cell k c.self.invariant is.low is.key)

pub returns-clause-entries : goal.returns-clause-entries
returns-clause-entries c = rw (← c.self.view_is) (entry_recelled (table_view c.self.inside) (set (table_view c.self.inside).cells c.args.e c.args.cell))
