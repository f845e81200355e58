use Rattle.std.proofs.Common.{sym, ap, ◌∙◌, List}
use Rattle.std.specs.List.{IsDistinct}
use Rattle.std.specs.FinMap.{from_entries, entries as listed}
use Rattle.voxel_block.specs.Keys.{key_cmp}
use Rattle.std.specs.List.Sorted.{IsSorted}
use Rattle.voxel_block.proofs.KeyLaws.{entries_of_ordered}
use Rattle.spatial_hash.specs.Contents.{contents, tied}
use Rattle.spatial_hash.proofs.Sorted.{Pair, pair_cmp, same_entries, still_distinct, keys_rise}
use Rattle.spatial_hash.proofs.table.HashTable.entries.Goals as goal

pub returns-clause-order : goal.returns-clause-order
returns-clause-order c =
    let d : IsDistinct tied c.sort.new.self.items = still_distinct c.in_ok-pairs.pairs.items c.sort.new.self.items c.sort.ensures.permutation c.in_ok-pairs.ensures.distinct in
    let s : IsSorted pair_cmp c.sort.new.self.items = c.in_ok-sort.ensures.sorted in
    keys_rise c.sort.new.self.items s d

pub returns-clause-map : goal.returns-clause-map
unfolding contents
returns-clause-map c =
    same_entries c.in_ok-pairs.pairs.items c.sort.new.self.items c.sort.ensures.permutation c.in_ok-pairs.ensures.distinct ∙ ap (λ (xs : List Pair). from_entries {R = key_cmp} xs) c.in_ok-pairs.ensures.pairs

pub returns-clause-list : goal.returns-clause-list
returns-clause-list c = sym (entries_of_ordered c.sort.new.self.items (returns-clause-order c)) ∙ ap listed (returns-clause-map c)
