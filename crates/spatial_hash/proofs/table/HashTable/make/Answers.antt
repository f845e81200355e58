use Rattle.std.proofs.Common.{rules, ◌≡◌, ◌+◌, ◌*◌, ◌^◌, ◌<◌, ◌-◌}
use Rattle.std.specs.Prelude.{replicate}
use Rattle.std.proofs.lemmas.Nat.{pow_pos}
use Rattle.spatial_hash.proofs.NewTables.{empty_sound, no_contents}
use Rattle.spatial_hash.proofs.table.HashTable.make.Goals as goal

pub invariant_of-result : goal.invariant_of-result
invariant_of-result c =
    let some : 0 < c.args.buckets = rw c.requires.power.1 (pow_pos c.requires.power.0) in
    let words : c.in_ok-words.words.items ≡ replicate (5 * c.args.buckets + 2 * c.args.nodes) 0 = search (rules, c.in_ok-words.ensures.items_if_clones_equal) in
    let cells : c.in_ok-cells.cells.items ≡ replicate (4 * c.args.buckets + c.args.nodes) (2 ^ 32 - 1) = search (rules, c.in_ok-cells.ensures.items_if_clones_equal) in
    rw (words, cells) (empty_sound c.args.buckets c.args.nodes some c.requires.buckets c.requires.nodes)

pub returns-clause-map : goal.returns-clause-map
returns-clause-map c =
    let words : c.in_ok-words.words.items ≡ replicate (5 * c.args.buckets + 2 * c.args.nodes) 0 = search (rules, c.in_ok-words.ensures.items_if_clones_equal) in
    let cells : c.in_ok-cells.cells.items ≡ replicate (4 * c.args.buckets + c.args.nodes) (2 ^ 32 - 1) = search (rules, c.in_ok-cells.ensures.items_if_clones_equal) in
    rw (words, cells) (no_contents c.args.buckets c.args.nodes)
