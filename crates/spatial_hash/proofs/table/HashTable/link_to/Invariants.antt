use Rattle.std.proofs.Common.{◌*◌, ◌+◌}
use Rattle.spatial_hash.specs.View.{table_view}
use Rattle.spatial_hash.specs.Hash.{home}
use Rattle.spatial_hash.specs.Table.{key_word}
use Rattle.spatial_hash.proofs.Tails.{Ahead}
use Rattle.spatial_hash.proofs.table.HashTable.link_to.Given as goal

abbrev pub invariant-loop : goal.invariant-loop
invariant-loop l =
    let t = table_view l.self-inside in
    Ahead t (home t.buckets (key_word t (4 * t.buckets + l.node))) l.node l.link l.counter
