use Rattle.std.proofs.Common.{◌∙◌}
use Rattle.std.specs.Prelude.{◌*ℤ◌}
use Rattle.std.proofs.lemmas.Int.{to_z-of_z}
use mir.Syntax.{w64}
use Rattle.fixed_geom.specs.Division.{floor_div}
use Rattle.fixed_geom.proofs.Machine.{read}
use Rattle.crossing_export.proofs.PointLemmas.{share_high, share_product}
use Rattle.crossing_export.proofs.offset.share.Goals as goal

pub returns-clause-value : goal.returns-clause-value
returns-clause-value c =
    let r = c.requires in
    let size = to_z-of_z w64 c.args.size c.ranges.size in
    let part = to_z-of_z w64 c.args.part c.ranges.part in
    let whole = to_z-of_z w64 c.args.whole c.ranges.whole in
    let product = (λ i. read (size i *ℤ part i)) ∙ share_product c.args.size c.args.part c.args.whole r.size r.size_high r.part r.part_high r.whole_high in
    to_z-of_z w64 c.div_euclid.result (record { sfits = c.div_euclid.type_inv }) ∙ c.div_euclid.ensures ∙ (λ i. floor_div (product i) (whole i))

pub returns-clause-high : goal.returns-clause-high
returns-clause-high c = share_high _ c.args.size c.args.part c.args.whole c.requires.size c.requires.part_high c.requires.whole (returns-clause-value c)
