-- The walks of a camera, as the machine reads them.
use Rattle.std.proofs.Common.{◌≡◌, ℕ, ◌∙◌, ap, arith, subst}
use Rattle.std.specs.Prelude.{ℤ, pos, ◌+ℤ◌, ◌≤ℤ◌, ◌<ℤ◌}
use Rattle.std.proofs.lemmas.Int.{ints, to_z-of_z}
use mir.Val.{SFits}
use mir.Syntax.{w64}
use Rattle.fixed_geom.specs.declared.vector.Vec3.{Vec3}
use Rattle.fixed_geom.specs.Division.{floor_div}
use Rattle.fixed_geom.specs.Vectors.{AreWithin, IsWithin, dot}
use Rattle.fixed_geom.specs.Poses.{translation_bound, unit, world}
use Rattle.fixed_geom.proofs.Machine.{read}
use Rattle.camera.specs.declared.camera.CameraFields.{CameraFields}
use Rattle.camera.specs.Cameras.{HasRanges, max_depth, ray}
use Rattle.camera.specs.Grid.{block_of_voxel, nearest_voxel}
use Rattle.camera.proofs.RayLemmas.{ray_near}
use Rattle.ray_walk.specs.declared.voxels.RaisedVoxel.{RaisedVoxel}
use Rattle.ray_walk.specs.declared.form.Form.{Form}
use Rattle.ray_walk.specs.declared.walks.Walks.{Walks}
use Rattle.ray_walk.specs.Forms.{IsForm}
use Rattle.ray_walk.specs.Points.{point_depth, voxel_at}
use Rattle.ray_walk.specs.RaisedVoxels.{IsRaised, raised_block}
use Rattle.ray_walk.specs.Raising.{lowered}
use Rattle.ray_walk.proofs.VoxelLemmas.{block_is, form_is}

-- ---- rays

pub deep_read : (k : CameraFields) (z : ℤ) → HasRanges k → pos 1 ≤ℤ z → z ≤ℤ max_depth k → read z ≤ℤ pos 17000000
deep_read k z r front h = plain z k.far k.mu r.far_high r.mu_high front h
  where
    plain : (z far mu : ℤ) → far ≤ℤ pos 16000000 → mu ≤ℤ pos 1000000 → pos 1 ≤ℤ z → z ≤ℤ (far +ℤ mu) → read z ≤ℤ pos 17000000
    plain z far mu a b d e = omega (arith, ints)

natural : (n : ℕ) → pos 0 ≤ℤ pos n
natural n = omega (arith, ints)

pub near_ray : (w : Walks) (u v : ℕ) (z : ℤ) → pos u <ℤ w.fields.width → pos v <ℤ w.fields.height → pos 1 ≤ℤ z → z ≤ℤ max_depth w.fields → AreWithin (pos 17000000) (ray w.fields (pos u) (pos v) z)
near_ray w u v z uw vh front deep = ray_near w.fields (pos u) (pos v) z w.camera.ranges w.camera.reach (natural u) uw (natural v) vh front deep

pub raised_within : (x : ℤ) → pos 0 ≤ℤ x → x ≤ℤ pos 34000001 → IsWithin (pos 34000001) (read x)
raised_within x low high = record { low = omega (arith, ints); high = omega (arith, ints) }

pub depth_within : (z : ℤ) → pos 1 ≤ℤ z → read z ≤ℤ pos 17000000 → SFits w64 z → IsWithin (pos 34000001) (read z)
depth_within z front h f = plain z (read z) (to_z-of_z w64 z f) front h
  where
    plain : (z r : ℤ) → r ≡ z → pos 1 ≤ℤ z → r ≤ℤ pos 17000000 → IsWithin (pos 34000001) r
    plain z r e front h = record { low = omega (arith, ints); high = omega (arith, ints) }

-- ---- forms

-- a coordinate of the world, raised
pub at_read : (r p : Vec3) (t raise q : ℤ) (a : Form) → IsForm r t raise a → SFits w64 q → q ≡ floor_div (a.start +ℤ dot a.row p) unit → read q ≡ (t +ℤ floor_div (dot r (lowered p)) unit) +ℤ raise
at_read r p t raise q a is fits e = to_z-of_z w64 q fits ∙ e ∙ form_is r p t raise a is

-- ---- voxels

-- the raised voxel of point j
pub voxel_is : (w : Walks) (u v j : ℕ) (z : ℤ) (p : Vec3) (r : RaisedVoxel) → SFits w64 z → z ≡ point_depth w.fields j → lowered p ≡ ray w.fields (pos u) (pos v) (read z) → IsRaised w.blocks (nearest_voxel w.fields.voxel (world w.pose (lowered p))) r
    → IsRaised w.blocks (voxel_at w.fields w.pose u v (point_depth w.fields j)) r
voxel_is w u v j z p r fits depth is raised =
    let same : lowered p ≡ ray w.fields (pos u) (pos v) (point_depth w.fields j) = is ∙ ap (ray w.fields (pos u) (pos v)) (to_z-of_z w64 z fits ∙ depth) in
    subst (λ (n : Vec3). IsRaised w.blocks n r) (ap (λ (q : Vec3). nearest_voxel w.fields.voxel (world w.pose q)) same) raised

-- its block
pub block_read : (w : Walks) (n : Vec3) (r : RaisedVoxel) → IsRaised w.blocks n r → raised_block (read w.blocks) r ≡ block_of_voxel n
block_read w n r is = ap (λ (f : ℤ). raised_block f r) (plain w.blocks w.blocks_bound) ∙ block_is w.blocks n r is
  where
    plain : (f : ℤ) → IsWithin (pos 19001) f → read f ≡ f
    plain f v = omega (arith, ints)

-- ---- walks that are made

pub blocks_read : (n : ℤ) → pos 1 ≤ℤ n → n ≤ℤ pos 19001 → read n ≡ n
blocks_read n a b = omega (arith, ints)

pub blocks_within : (n : ℤ) → pos 1 ≤ℤ n → n ≤ℤ pos 19001 → IsWithin (pos 19001) n
blocks_within n a b = record { low = omega (arith, ints); high = omega (arith, ints) }

pub raise_read : (n : ℤ) → IsWithin (pos 152850000) n → read n ≡ n
raise_read n w = omega (arith, ints)

pub shift_read : (t : ℤ) → IsWithin translation_bound t → read t ≡ t
shift_read t w = omega (arith, ints)

-- the form of a pose's row, as it is made
pub form_made : (r r' : Vec3) (t t' q q' : ℤ) (a : Form) → r ≡ r' → t ≡ t' → q ≡ q' → IsForm r t q a → IsForm r' t' q' a
form_made r r' t t' q q' a e f g is = subst (λ (z : ℤ). IsForm r' t' z a) g (subst (λ (z : ℤ). IsForm r' z q a) f (subst (λ (v : Vec3). IsForm v t q a) e is))
