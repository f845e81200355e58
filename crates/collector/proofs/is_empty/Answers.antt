use Rattle.std.proofs.Common.{◌≡◌, ◌∙◌, rules, pos, ◌≤ℤ◌, to_z, of_z}
use Rattle.std.specs.Prelude.{int_le}
use Rattle.std.specs.Int.{w16, w32}
use Rattle.std.proofs.lemmas.Int.{to_z-of_z}
use Rattle.collector.proofs.EmptyLemmas.{empty_by_least}
use Rattle.collector.proofs.is_empty.Goals as goal

pub returns-clause-block : goal.returns-clause-block
returns-clause-block c voxels is =
    let a : to_z w32 (of_z w32 c.from-2.result) ≡ c.args.empty_f = to_z-of_z w32 c.from-2.result (search rules) ∙ c.from-2.ensures ∙ to_z-of_z w16 c.args.empty_f c.ranges.empty_f in
    let b : to_z w32 (of_z w32 c.from.result) ≡ pos c.args.summary.least = to_z-of_z w32 c.from.result (search rules) ∙ c.from.ensures in
    let high : c.args.empty_f ≤ℤ pos 32767 = search rules in
    (λ k. int_le (a k) (b k)) ∙ empty_by_least c.args.empty_f c.args.summary voxels high is
