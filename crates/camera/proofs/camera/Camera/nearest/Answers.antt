use Rattle.std.proofs.Common.{arith, ◌∙◌, ap}
use Rattle.std.specs.Prelude.{ℤ}
use Rattle.std.proofs.lemmas.Int.{ints}
use Rattle.camera.specs.declared.camera.CameraFields.{CameraFields}
use Rattle.camera.specs.Grid.{nearest as nearest_of}
use Rattle.camera.proofs.Readings.{fields_read}
use Rattle.camera.proofs.camera.Camera.nearest.Goals as goal

pub nearest-requires-clause-size : goal.nearest-requires-clause-size
nearest-requires-clause-size c = omega (arith, ints, c.self.invariant.ranges.voxel, c.self.invariant.ranges.voxel_high)

pub returns-clause-value : goal.returns-clause-value
returns-clause-value c =
    let voxel = (fields_read c.self.inside.fields c.self.invariant.ranges).voxel ∙ ap (λ (k : CameraFields). k.voxel) c.self.view_is in
    c.nearest.ensures.value ∙ ap (λ (s : ℤ). nearest_of s c.args.p) voxel
