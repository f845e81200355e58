use Rattle.std.proofs.Common.{◌≡◌, ℕ, ◌<◌, false, arith, subst}
use Rattle.std.specs.Prelude.{ℤ, pos, ◌<ℤ◌}
use Rattle.std.proofs.lemmas.Int.{ints}
use lib.Signed.{le_z}
use Rattle.fixed_geom.proofs.Machine.{read}
use Rattle.camera.proofs.Readings.{fields_read}
use Rattle.ray_walk.proofs.tests.voxel_at.Goals as goal

pub voxel-x-requires : goal.voxel-x-requires
voxel-x-requires c =
    let w = c.args.walks.now in
    let k = fields_read w.fields w.camera.ranges in
    record {
      column = inside w.fields.width c.from.result c.args.u k.width c.ranges.u.fits c.from.ensures c.if-from-walks.false;
      row = inside w.fields.height c.from-else-from-walks.result c.args.v k.height c.ranges.v.fits c.from-else-from-walks.ensures c.if-from-walks-2.false;
      point = subst (λ (n : ℕ). c.args.j < n) c.point_count.ensures.value c.if-j-point_count.false;
    }
  where
    under : (u w : ℤ) → le_z w u ≡ false → u <ℤ w
    under u w h = grind (arith, ints)

    inside : (w x : ℤ) (u : ℕ) → read w ≡ w → u < 4294967296 → x ≡ pos u → le_z (read w) (read x) ≡ false → pos u <ℤ w
    inside w x u e f g h =
        let same : read x ≡ pos u = omega (arith, ints) in
        under (pos u) w (subst (λ (z : ℤ). le_z z (pos u) ≡ false) e (subst (λ (z : ℤ). le_z (read w) z ≡ false) same h))
