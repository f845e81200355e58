use Rattle.std.proofs.Common.{◌≡◌, ◌+◌, ◌*◌, ◌<◌, arith, sym, ap, ◌∙◌, length}
use Rattle.std.specs.Prelude.{Some, None, slice_index}
use Rattle.voxel_block.specs.Words.{key_of}
use Rattle.spatial_hash.specs.Table.{entries_in, key_word}
use Rattle.spatial_hash.specs.View.{table_view}
use Rattle.spatial_hash.specs.Contents.{pairs_from}
use Rattle.spatial_hash.proofs.Walks.{key_read, read_at}
use Rattle.spatial_hash.proofs.Sorted.{pairs_next, pairs_skip, pairs_over, pairs_distinct}
use Rattle.spatial_hash.proofs.table.HashTable.pairs.Goals as goal
use Rattle.spatial_hash.proofs.table.HashTable.pairs.Goals.{in-Some+in_ok-push, in_default}

pub loop-entry-preserved : goal.loop-entry-preserved
loop-entry-preserved c =
    let t = table_view c.self.inside in
    let lt : c.loop-entry.entry < entries_in t = c.loop-entry-test.true in
    let word : key_word t c.loop-entry.entry ≡ c.index.result.now = key_read t c.loop-entry.entry c.index.result.now c.self.invariant lt c.index.ensures in
    elim c.match-of_word.branch [
      | in-Some+in_ok-push w ↦ (
          let is : key_of (key_word t c.loop-entry.entry) ≡ Some w.in-Some.key = ap key_of word ∙ sym c.of_word.ensures.value ∙ w.in-Some.is in
          let long : length c.self.inside.cells.items ≡ 4 * c.self.inside.buckets + c.self.inside.nodes = c.self.invariant.long in
          let cell : slice_index t.cells c.loop-entry.entry ≡ w.index-in-Some.result.now = read_at c.self.inside.cells.items c.loop-entry.entry w.index-in-Some.result.now (omega arith) w.index-in-Some.ensures in
          rw (w.pairs-is, w.in_ok-push.ensures.items) (pairs_next t c.loop-entry.entry (entries_in t) c.loop-entry.pairs.items w.in-Some.key w.index-in-Some.result.now lt is cell c.loop-entry.invariant))
      | in_default w ↦ (
          let is : key_of (key_word t c.loop-entry.entry) ≡ None = ap key_of word ∙ sym c.of_word.ensures.value ∙ w.in_default.is in
          rw w.pairs-is (pairs_skip t c.loop-entry.entry (entries_in t) c.loop-entry.pairs.items lt is c.loop-entry.invariant))
    ]

pub returns-clause-pairs : goal.returns-clause-pairs
returns-clause-pairs c =
    let t = table_view c.self.inside in
    rw (← c.self.view_is) (pairs_over t c.loop-entry.entry (entries_in t) c.loop-entry.pairs.items c.loop-entry-test.false c.loop-entry.invariant)

pub returns-clause-distinct : goal.returns-clause-distinct
returns-clause-distinct c =
    let t = table_view c.self.inside in
    let e : c.loop-entry.pairs.items ≡ pairs_from (entries_in t) t 0 = pairs_over t c.loop-entry.entry (entries_in t) c.loop-entry.pairs.items c.loop-entry-test.false c.loop-entry.invariant in
    rw e (pairs_distinct (entries_in t) t 0 c.self.invariant (omega arith))
