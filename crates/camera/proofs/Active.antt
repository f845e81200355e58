-- Points within the reach and the margin lie in the active sphere; so does the centre of a block with a voxel that is met.
use Rattle.std.proofs.Common.{◌≡◌, ◌<◌, ℕ, false, sym, ◌∙◌, arith}
use Rattle.std.specs.Prelude.{ℤ, pos, ◌+ℤ◌, ◌-ℤ◌, ◌*ℤ◌, ◌≤ℤ◌, unsigned_abs, IsTrue}
use Rattle.std.specs.Int.{int_max}
use Rattle.std.proofs.lemmas.Int.{ints, clamps}
use Rattle.std.proofs.lemmas.Bool.{false≢true}
use Rattle.fixed_geom.specs.Division.{floor_div}
use Rattle.fixed_geom.specs.declared.vector.Vec3.{Vec3}
use Rattle.fixed_geom.specs.Vectors.{IsWithin, AreWithin, minus}
use Rattle.fixed_geom.specs.Poses.{Pose, cam, HasPoseRange}
use Rattle.fixed_geom.proofs.Floors.{floor_is, floor_above}
use Rattle.fixed_geom.proofs.Dots.{within_product}
use Rattle.voxel_block.specs.declared.key.BlockKey.{BlockKey}
use Rattle.camera.specs.declared.camera.CameraFields.{CameraFields}
use Rattle.camera.specs.Grid.{point_of, centre_of}
use Rattle.camera.specs.Cameras.{HasRanges, FitsSphere, max_depth, reach_x, reach_y, reach_z, opening_margin, is_in_sphere, is_active}
use Rattle.camera.specs.Visibility.{IsMet, MeetsNone}
use Rattle.camera.proofs.RangeLemmas.{at_most}
use Rattle.camera.proofs.Inside.{inside_bounds, projects_inside}
use Rattle.camera.proofs.Offsets.{voxel_step}

-- what the margin of the opening test takes for the drift of a ray's point
abbrev pub wide_drift : CameraFields → ℤ
wide_drift k = floor_div (reach_x k +ℤ reach_y k +ℤ max_depth k) (pos 1024) +ℤ pos 8

three_squares : (a b c x y z r : ℤ) → IsWithin a x → IsWithin b y → IsWithin c z → (a +ℤ b +ℤ c) ≤ℤ r → (x +ℤ y +ℤ z) ≤ℤ r
three_squares a b c x y z r u v w h = omega (arith, ints)

-- a point within the reach and the margin on each axis is in the sphere
pub in_sphere : (k : CameraFields) (c : Vec3) → FitsSphere k → IsWithin (reach_x k +ℤ opening_margin k) c.x → IsWithin (reach_y k +ℤ opening_margin k) c.y → IsWithin (reach_z k +ℤ opening_margin k) (c.z -ℤ k.centre) → IsTrue (is_in_sphere k c)
in_sphere k c h x y z =
    let a = reach_x k +ℤ opening_margin k in
    let b = reach_y k +ℤ opening_margin k in
    let d = reach_z k +ℤ opening_margin k in
    at_most _ _ (three_squares (a *ℤ a) (b *ℤ b) (d *ℤ d) (c.x *ℤ c.x) (c.y *ℤ c.y) ((c.z -ℤ k.centre) *ℤ (c.z -ℤ k.centre)) (k.radius *ℤ k.radius) (within_product a a c.x c.x x x) (within_product b b c.y c.y y y) (within_product d d (c.z -ℤ k.centre) (c.z -ℤ k.centre) z z) h.fits)

-- a depth from 1 - n to top + n is within the sphere's reach and n of the sphere's centre
pub depth_within : (top centre z n : ℤ) → pos 0 ≤ℤ centre → (pos 1 -ℤ n) ≤ℤ z → z ≤ℤ (top +ℤ n) → IsWithin (int_max centre (pos (unsigned_abs (top -ℤ centre))) +ℤ n) (z -ℤ centre)
depth_within top centre z n h low high = record { low = omega (arith, ints, clamps); high = omega (arith, ints, clamps) }

within_sum : (a m n x y : ℤ) → IsWithin a x → IsWithin m (y -ℤ x) → m ≤ℤ n → IsWithin (a +ℤ n) y
within_sum a m n x y v w le = record { low = omega (arith, ints); high = omega (arith, ints) }

-- a point near a point within the reach is in the sphere
pub near_reach : (k : CameraFields) (p c : Vec3) (n : ℤ) → HasRanges k → FitsSphere k → IsWithin (reach_x k) p.x → IsWithin (reach_y k) p.y → pos 1 ≤ℤ p.z → p.z ≤ℤ max_depth k → AreWithin n (minus c p) → n ≤ℤ opening_margin k → IsTrue (is_in_sphere k c)
near_reach k p c n r h x y front back near le =
    in_sphere k c h (within_sum (reach_x k) n (opening_margin k) p.x c.x x near.x le) (within_sum (reach_y k) n (opening_margin k) p.y c.y y near.y le)
    (depth_within (max_depth k) k.centre c.z (opening_margin k) r.centre (lower p.z c.z n (opening_margin k) front near.z le) (upper p.z c.z n (opening_margin k) (max_depth k) back near.z le))
  where
    lower : (p c n m : ℤ) → pos 1 ≤ℤ p → IsWithin n (c -ℤ p) → n ≤ℤ m → (pos 1 -ℤ m) ≤ℤ c
    lower p c n m h w le = omega (arith, ints)

    upper : (p c n m top : ℤ) → p ≤ℤ top → IsWithin n (c -ℤ p) → n ≤ℤ m → c ≤ℤ (top +ℤ m)
    upper p c n m top h w le = omega (arith, ints)

-- what is within n has n of at least 0
not_negative : (n z : ℤ) → IsWithin n z → pos 0 ≤ℤ n
not_negative n z w = omega (arith, ints)

-- the margin is at least 14 s, and 8 more than 14 s and the drift
pub opening_margin_large : (k : CameraFields) (x y : ℤ) → HasRanges k → IsWithin (reach_x k) x → IsWithin (reach_y k) y → ((pos 14 *ℤ k.voxel) ≤ℤ opening_margin k) × (opening_margin k ≡ pos 14 *ℤ k.voxel +ℤ wide_drift k +ℤ pos 8) × (pos 8 ≤ℤ wide_drift k)
opening_margin_large k x y r v w =
    let total = reach_x k +ℤ reach_y k +ℤ max_depth k in
    let t : pos 0 ≤ℤ total = summed (reach_x k) (reach_y k) k.far k.mu k.near k.voxel (not_negative (reach_x k) x v) (not_negative (reach_y k) y w) r.near r.far r.voxel r.mu in
    let q : pos 0 ≤ℤ floor_div total (pos 1024) = floor_above total (pos 1024) (floor_div total (pos 1024)) (pos 0) (omega (arith, ints)) (floor_is total (pos 1024) (omega (arith, ints))) (omega (arith, ints)) in
    ended (pos 14 *ℤ k.voxel) (floor_div total (pos 1024)) q
  where
    summed : (x y far mu near voxel : ℤ) → pos 0 ≤ℤ x → pos 0 ≤ℤ y → pos 1 ≤ℤ near → near ≤ℤ far → pos 1000 ≤ℤ voxel → voxel ≤ℤ mu → pos 0 ≤ℤ (x +ℤ y +ℤ (far +ℤ mu))
    summed x y far mu near voxel a b c d e f = omega (arith, ints)

    ended : (s q : ℤ) → pos 0 ≤ℤ q → (s ≤ℤ (s +ℤ q +ℤ pos 16)) × (s +ℤ q +ℤ pos 16 ≡ s +ℤ (q +ℤ pos 8) +ℤ pos 8) × (pos 8 ≤ℤ (q +ℤ pos 8))
    ended s q h = omega (arith, ints)

loose : (n x : ℤ) → IsWithin (n -ℤ pos 1) x → IsWithin n x
loose n x w = record { low = omega (arith, ints); high = omega (arith, ints) }

turned : (n : ℤ) (p q : Vec3) → AreWithin n (minus p q) → AreWithin n (minus q p)
turned n p q w = record { x = back n p.x q.x w.x; y = back n p.y q.y w.y; z = back n p.z q.z w.z }
  where
    back : (n x y : ℤ) → IsWithin n (x -ℤ y) → IsWithin n (y -ℤ x)
    back n x y w = record { low = omega (arith, ints); high = omega (arith, ints) }

-- where a voxel is met, its block is active
pub met_is_active : (k : CameraFields) (m : Pose) (b : BlockKey) (i : ℕ) → HasRanges k → FitsSphere k → HasPoseRange m → i < 512 → IsMet k m b i → IsTrue (is_active k m b)
met_is_active k m b i r h o below met =
    let p = cam m (point_of k.voxel b i) in
    let c = cam m (centre_of k.voxel b) in
    let bounds = inside_bounds k p r met in
    let x = loose (reach_x k) p.x bounds.0 in
    let y = loose (reach_y k) p.y bounds.1 in
    let large = opening_margin_large k p.x p.y r x y in
    let s0 : pos 0 ≤ℤ k.voxel = omega (arith, ints, r.voxel) in
    near_reach k p c (pos 13 *ℤ k.voxel) r h x y (projects_inside k p met.inside).front met.deep (turned (pos 13 *ℤ k.voxel) p c (voxel_step m k.voxel b i o s0 below)) (fewer k.voxel (opening_margin k) s0 large.0)
  where
    fewer : (s m : ℤ) → pos 0 ≤ℤ s → (pos 14 *ℤ s) ≤ℤ m → (pos 13 *ℤ s) ≤ℤ m
    fewer s m h k = omega (arith, ints)

-- so no voxel of a block that is not active is met
pub inactive_meets_none : (k : CameraFields) (m : Pose) (b : BlockKey) → HasRanges k → FitsSphere k → HasPoseRange m → is_active k m b ≡ false → MeetsNone k m b
inactive_meets_none k m b r h o fails = λ i below met. false≢true (sym fails ∙ met_is_active k m b i r h o below met)
