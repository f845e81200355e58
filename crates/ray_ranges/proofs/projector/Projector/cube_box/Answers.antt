use Rattle.std.proofs.Common.{◌≡◌, ◌∙◌, refl, sym, Option, lit≤}
use Rattle.std.specs.Prelude.{ℤ}
use Rattle.std.proofs.lemmas.Int.{to_z-of_z}
use mir.Syntax.{w64}
use mir.Val.{to_z, of_z}
use Rattle.fixed_geom.specs.declared.vector.Vec3.{Vec3}
use Rattle.fixed_geom.specs.PoseTest.{pose_of}
use Rattle.fixed_geom.specs.Poses.{Pose}
use Rattle.camera.specs.declared.camera.CameraFields.{CameraFields}
use Rattle.ray_ranges.specs.declared.boxes.PixelBox.{PixelBox}
use Rattle.ray_ranges.specs.Boxes.{box_of}
use Rattle.ray_ranges.proofs.BoxLemmas.{given_covers, none_near}
use Rattle.ray_ranges.proofs.MachineLemmas.{read}
use Rattle.ray_ranges.proofs.TileLemmas.{given_inside}
use Rattle.ray_ranges.proofs.projector.Projector.cube_box.Goals as goal

-- the box, by the numbers that the machine reads
box_read : (o : Option PixelBox) (k : CameraFields) (m : Pose) (l : Vec3) (e d : ℤ) → o ≡ box_of k m l (to_z w64 (of_z w64 e)) (to_z w64 (of_z w64 d)) → to_z w64 (of_z w64 e) ≡ e → to_z w64 (of_z w64 d) ≡ d → o ≡ box_of k m l e d
box_read o k m l e d f i j = f ∙ rw (i, j) refl

is : (c : goal.After-box_by) → c.box_by.result ≡ box_of c.args.self.now.fields (pose_of c.args.self.now.rows) c.args.least c.args.side c.args.self.now.drift
is c =
    let a = c.args in
    let p = a.self.now in
    box_read c.box_by.result p.fields (pose_of p.rows) a.least a.side p.drift c.box_by.ensures (to_z-of_z w64 a.side c.ranges.side) (read 65536 p.drift p.bound (lit≤ tt))

pub returns-clause-covers : goal.returns-clause-covers
returns-clause-covers c =
    let a = c.args in
    let p = a.self.now in
    given_covers p.fields (pose_of p.rows) a.least a.side p.drift c.box_by.result p.camera.ranges p.drifts (is c)

pub returns-clause-inside : goal.returns-clause-inside
returns-clause-inside c =
    let a = c.args in
    let p = a.self.now in
    given_inside p.fields (pose_of p.rows) a.least a.side p.drift c.box_by.result p.camera.ranges (is c)

pub returns-clause-none : goal.returns-clause-none
returns-clause-none c =
    let a = c.args in
    let p = a.self.now in
    λ none. none_near p.fields (pose_of p.rows) a.least a.side p.drift p.camera.ranges p.drifts (sym (is c) ∙ none)
