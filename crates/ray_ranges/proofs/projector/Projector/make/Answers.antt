use Rattle.std.proofs.Common.{◌≡◌, sym, subst, arith}
use Rattle.std.specs.Prelude.{ℤ, pos}
use Rattle.std.proofs.lemmas.Int.{ints, to_z-of_z}
use mir.Syntax.{w64}
use Rattle.fixed_geom.specs.Vectors.{IsWithin}
use Rattle.fixed_geom.specs.Poses.{IsPose, Pose}
use Rattle.camera.specs.Cameras.{IsCamera}
use Rattle.camera.specs.declared.camera.CameraFields.{CameraFields}
use Rattle.camera.proofs.Readings.{read}
use Rattle.ray_ranges.specs.Cubes.{HasDrift}
use Rattle.ray_ranges.proofs.BoxLemmas.{drift_holds}
use Rattle.ray_ranges.proofs.projector.Projector.make.Goals as goal

is : (c : goal.After-drift) → read c.drift.result ≡ c.drift.result
is c = to_z-of_z w64 c.drift.result (record { sfits = c.drift.type_inv })

moved : (d d' : ℤ) (k k' : CameraFields) (m m' : Pose) → d ≡ d' → k ≡ k' → m ≡ m' → HasDrift k' m' d' → HasDrift k m d
moved d d' k k' m m' e f g h = rw (e, f, g) h

pub invariant_of-result : goal.invariant_of-result
invariant_of-result c = record {
  camera = subst IsCamera (sym c.fields.ensures.value) c.fields.ensures.camera;
  pose = subst IsPose (sym c.rows.ensures.back) c.rows.ensures.pose;
  bound = subst (IsWithin (pos 65536)) (sym (is c)) (record { low = omega (arith, ints, c.drift.ensures.low); high = omega (arith, ints, c.drift.ensures.high) });
  drifts = moved _ c.drift.result c.fields.result c.args.camera.now _ c.args.pose.now (is c) c.fields.ensures.value c.rows.ensures.back (drift_holds c.args.camera.now c.args.pose.now c.drift.result c.fields.ensures.camera.ranges c.rows.ensures.pose c.drift.ensures.drift);
}
