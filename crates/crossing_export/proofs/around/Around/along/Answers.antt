use Rattle.std.proofs.Common.{◌≡◌, Some, sym, ap, ◌∙◌, rules}
use Rattle.std.specs.Prelude.{ℤ, option_map}
use Rattle.std.proofs.lemmas.Int.{to_z-of_z}
use mir.Syntax.{w64}
use mir.Val.{SFits}
use Rattle.camera.specs.Grid.{point_of}
use Rattle.crossing_export.specs.declared.crossing.Crossing.{Crossing}
use Rattle.crossing_export.specs.Crossings.{crossing_of, crossing_offset, moved}
use Rattle.crossing_export.proofs.around.Around.along.Goals as goal

pub returns : goal.returns
returns c =
    let a = c.args.self.now in
    let d = c.in_ok-d.d in
    let size = to_z-of_z w64 c.args.size c.ranges.size in
    let fits : SFits w64 d = search rules in
    let behind = to_z-of_z w64 d fits in
    let f : ℤ → Crossing = λ z. crossing_of (moved c.args.axis z (point_of c.args.size a.key c.args.i)) in
    let point = c.point.ensures.value ∙ (λ i. point_of (size i) a.key c.args.i) in
    let is : c.moved.result ≡ f d = c.moved.ensures ∙ (λ i. crossing_of (moved c.args.axis (behind i) (point i))) in
    λ m h. ap Some is ∙ ap (option_map f) (sym c.in_ok-d.was ∙ c.offset.ensures.value ∙ (λ i. crossing_offset (size i) (c.value.ensures m h i) (c.next.ensures m h i)))
