use Rattle.std.proofs.Common.{rules, ◌≡◌, ℕ, ◌+◌, ◌*◌, ◌^◌, ◌<◌, ◌-◌, ap, arith}
use Rattle.std.specs.Prelude.{replicate}
use Rattle.spatial_hash.specs.Table.{Table}
use Rattle.spatial_hash.proofs.NewTables.{empty_sound, no_contents}
use Rattle.spatial_hash.proofs.table.HashTable.cleared.Goals as goal

pub invariant_of-result : goal.invariant_of-result
invariant_of-result c =
    let b : ℕ = c.self.inside.buckets in
    let n : ℕ = c.self.inside.nodes in
    let words : c.in_ok-words.words.items ≡ replicate (5 * b + 2 * n) 0 = search (rules, c.in_ok-words.ensures.items_if_clones_equal) in
    let cells : c.in_ok-cells.cells.items ≡ replicate (4 * b + n) (2 ^ 32 - 1) = search (rules, c.in_ok-cells.ensures.items_if_clones_equal) in
    rw (words, cells) (empty_sound b n c.self.invariant.some_buckets c.self.invariant.few_buckets c.self.invariant.few_nodes)

pub returns-clause-map : goal.returns-clause-map
returns-clause-map c =
    let b : ℕ = c.self.inside.buckets in
    let n : ℕ = c.self.inside.nodes in
    let words : c.in_ok-words.words.items ≡ replicate (5 * b + 2 * n) 0 = search (rules, c.in_ok-words.ensures.items_if_clones_equal) in
    let cells : c.in_ok-cells.cells.items ≡ replicate (4 * b + n) (2 ^ 32 - 1) = search (rules, c.in_ok-cells.ensures.items_if_clones_equal) in
    rw (words, cells) (no_contents b n)
