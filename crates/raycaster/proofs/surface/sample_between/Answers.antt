use Rattle.std.proofs.Common.{◌≡◌, ◌∙◌, ap}
use Rattle.std.specs.Prelude.{ℤ, ◌+ℤ◌, ◌-ℤ◌, ◌*ℤ◌}
use Rattle.std.proofs.lemmas.Int.{to_z-of_z}
use mir.Syntax.{w64}
use Rattle.fixed_geom.specs.Division.{floor_div}
use Rattle.camera.proofs.Readings.{fields_read}
use Rattle.raycaster.specs.Walk.{hit_depth, sample_of_depth}
use Rattle.ray_walk.proofs.PointLemmas.{read}
use Rattle.raycaster.proofs.SurfaceLemmas.{read_depth}
use Rattle.raycaster.proofs.surface.sample_between.Goals as goal

pub returns : goal.returns
returns c =
    let k = c.args.camera.now in
    let r = c.requires in
    let is = fields_read k r.ranges in
    let f = to_z-of_z w64 c.args.f c.ranges.f in
    let g = to_z-of_z w64 c.args.g c.ranges.g in
    let offset : c.offset.result ≡ floor_div (k.voxel *ℤ c.args.f) (c.args.f -ℤ c.args.g) = c.offset.ensures.value ∙ (λ i. floor_div (is.voxel i *ℤ f i) (f i -ℤ g i)) in
    let depth : read (read c.args.z +ℤ read c.offset.result) ≡ hit_depth k.voxel c.args.z c.args.f c.args.g = ap (λ (q : ℤ). read (read c.args.z +ℤ read q)) offset ∙ read_depth k c.args.z c.args.f c.args.g r.ranges r.near r.far r.front r.behind in
    c.sample_of_depth.ensures ∙ (λ i. sample_of_depth (is.unit i) (depth i))
