-- The voxel nearest to the world point of a raised point of a ray, with no division.
use Rattle.std.proofs.Common.{◌≡◌, ℕ, ◌+◌, ◌*◌, ◌/◌, ◌%◌, ◌≤◌, ◌<◌, true, ap, sym, ◌∙◌, subst, arith}
use Rattle.std.proofs.Math.Nat.{mod-add-div}
use Rattle.std.specs.Prelude.{ℤ, pos, neg_ℤ, ◌+ℤ◌, ◌-ℤ◌, ◌*ℤ◌, ◌≤ℤ◌, ◌<ℤ◌, ◌&&◌, IsTrue, unsigned_abs}
use Rattle.std.proofs.lemmas.Bool.{and_parts}
use Rattle.std.proofs.lemmas.Int.{ints}
use Rattle.std.proofs.lemmas.Nat.{mul-le}
use Rattle.fixed_geom.specs.Division.{IsFloor, floor_div}
use Rattle.fixed_geom.specs.declared.vector.Vec3.{Vec3}
use Rattle.fixed_geom.specs.Vectors.{IsWithin, dot}
use Rattle.fixed_geom.specs.Poses.{unit}
use Rattle.fixed_geom.proofs.Floors.{floor_is}
use Rattle.fixed_geom.proofs.ProductFloors.{product_below}
use Rattle.fixed_geom.proofs.Whole.{mul_difference, mul_group, mul_turn}
use Rattle.voxel_block.specs.declared.key.BlockKey.{BlockKey}
use Rattle.voxel_block.specs.Blocks.{index_of}
use Rattle.camera.proofs.RangeLemmas.{between}
use Rattle.camera.specs.Grid.{block, block_of_voxel, fits_key, index_of_voxel, is_key, nearest_axis, offset_axis}
use Rattle.ray_walk.specs.declared.voxels.RaisedVoxel.{RaisedVoxel}
use Rattle.ray_walk.specs.declared.form.Form.{Form}
use Rattle.ray_walk.specs.Forms.{IsForm}
use Rattle.ray_walk.specs.RaisedVoxels.{IsRaised, raised_block, raised_index}
use Rattle.ray_walk.specs.Raising.{lowered, ray_raise, reciprocal, world_raise}
use Rattle.ray_walk.proofs.FormLemmas.{block_passes, nearest_by_one, whole_passes}

-- ---- the form

-- at a raised point of a ray it is a coordinate of the world point, raised
pub form_is : (r p : Vec3) (t raise : ℤ) (a : Form) → IsForm r t raise a → floor_div (a.start +ℤ dot a.row p) unit ≡ (t +ℤ floor_div (dot r (lowered p)) unit) +ℤ raise
form_is r p t raise a i =
    let sum : a.start +ℤ dot a.row p ≡ unit *ℤ (t +ℤ raise) +ℤ dot r (lowered p) =
    (λ k. i.start k +ℤ dot (i.row k) p) ∙ joined (unit *ℤ (t +ℤ raise)) (r.x *ℤ ray_raise) (r.y *ℤ ray_raise) (r.x *ℤ p.x) (r.y *ℤ p.y) (r.z *ℤ p.z) (r.x *ℤ (p.x -ℤ ray_raise)) (r.y *ℤ (p.y -ℤ ray_raise)) (mul_difference r.x p.x ray_raise) (mul_difference r.y p.y ray_raise) in
    ap (λ n. floor_div n unit) sum ∙ whole_passes (t +ℤ raise) (dot r (lowered p)) ∙ turned t raise (floor_div (dot r (lowered p)) unit)
  where
    joined : (u a b x y z l m : ℤ) → l ≡ x -ℤ a → m ≡ y -ℤ b → ((u -ℤ a) -ℤ b) +ℤ (x +ℤ y +ℤ z) ≡ u +ℤ (l +ℤ m +ℤ z)
    joined u a b x y z l m e f = omega (arith, ints)

    turned : (t r q : ℤ) → (t +ℤ r) +ℤ q ≡ (t +ℤ q) +ℤ r
    turned t r q = omega (arith, ints)

-- ---- the coordinate of the nearest voxel

-- a coordinate of the world, raised, is from 0 to 310000000
raised_range : (s h l w : ℤ) → pos 1000 ≤ℤ s → s ≤ℤ pos 100000 → IsFloor s (pos 2) h → pos 152000000 ≤ℤ l → l ≤ℤ pos 152800000 → IsWithin (pos 151006226) w → (pos 0 ≤ℤ (w +ℤ (h +ℤ l))) × ((w +ℤ (h +ℤ l)) <ℤ pos 310000000)
raised_range s h l w a b i d e v = (omega (arith, ints, i.below, i.above), omega (arith, ints, i.below, i.above))

pub raised_low : (s f w q : ℤ) → pos 1000 ≤ℤ s → s ≤ℤ pos 100000 → pos 152000000 ≤ℤ (pos 8 *ℤ s *ℤ f) → (pos 8 *ℤ s *ℤ f) ≤ℤ pos 152800000 → IsWithin (pos 151006226) w → q ≡ w +ℤ world_raise s f → pos 0 ≤ℤ q
raised_low s f w q s1 s2 low high v is = subst (λ (z : ℤ). pos 0 ≤ℤ z) (sym is) (raised_range s (floor_div s (pos 2)) (pos 8 *ℤ s *ℤ f) w s1 s2 (floor_is s (pos 2) (omega (arith, ints))) low high v).0

pub raised_high : (s f w q : ℤ) → pos 1000 ≤ℤ s → s ≤ℤ pos 100000 → pos 152000000 ≤ℤ (pos 8 *ℤ s *ℤ f) → (pos 8 *ℤ s *ℤ f) ≤ℤ pos 152800000 → IsWithin (pos 151006226) w → q ≡ w +ℤ world_raise s f → q <ℤ pos 310000000
raised_high s f w q s1 s2 low high v is = subst (λ (z : ℤ). z <ℤ pos 310000000) (sym is) (raised_range s (floor_div s (pos 2)) (pos 8 *ℤ s *ℤ f) w s1 s2 (floor_is s (pos 2) (omega (arith, ints))) low high v).1

-- its quotient by the reciprocal is the coordinate of the nearest voxel, raised
pub quotient_is : (s f w q : ℤ) (m r : ℕ) → pos 1000 ≤ℤ s → s ≤ℤ pos 100000 → pos 152000000 ≤ℤ (pos 8 *ℤ s *ℤ f) → (pos 8 *ℤ s *ℤ f) ≤ℤ pos 152800000 → IsWithin (pos 151006226) w → q ≡ w +ℤ world_raise s f → m ≡ reciprocal 35184372088832 (unsigned_abs s) → r ≡ unsigned_abs q * m / 35184372088832 → pos r ≡ nearest_axis s w +ℤ pos 8 *ℤ f
quotient_is s f w q m r s1 s2 low high within is parts e =
    let q0 = raised_low s f w q s1 s2 low high within is in
    let small = raised_high s f w q s1 s2 low high within is in
    let n = unsigned_abs q in
    let d = unsigned_abs s in
    let same_n : pos n ≡ q = omega (arith, ints) in
    let same_d : pos d ≡ s = omega (arith, ints) in
    let whole : (pos 8 *ℤ s) *ℤ f ≡ s *ℤ (pos 8 *ℤ f) = ap (λ t. t *ℤ f) (mul_turn (pos 8) s) ∙ mul_group s (pos 8) f in
    ap pos (e ∙ product_below n d m 35184372088832 (omega (arith, ints)) (omega arith) parts (less n d (omega (arith, ints)) (omega (arith, ints))))
    ∙ (λ i. floor_div (same_n i) (same_d i))
    ∙ ap (λ t. floor_div t s) (is ∙ placed w (floor_div s (pos 2)) ((pos 8 *ℤ s) *ℤ f) (s *ℤ (pos 8 *ℤ f)) whole)
    ∙ nearest_by_one s w (pos 8 *ℤ f) (omega (arith, ints))
  where
    less : (n d : ℕ) → n ≤ 310000000 → d ≤ 100000 → n * d < 35184372088832
    less n d a b = chain (n * d) (mul-le n d 310000000 100000 a b)
      where
        chain : (x : ℕ) → x ≤ 310000000 * 100000 → x < 35184372088832
        chain x a = omega arith

    placed : (w h l m : ℤ) → l ≡ m → w +ℤ (h +ℤ l) ≡ w +ℤ h +ℤ m
    placed w h l m e = omega (arith, ints)

-- ---- the block and the index

parts : (n f : ℤ) (r : ℕ) → pos r ≡ n +ℤ pos 8 *ℤ f → (pos (r / 8) -ℤ f ≡ floor_div n (pos 8)) × (r % 8 ≡ offset_axis n)
parts n f r e =
    let b : pos (r / 8) ≡ floor_div n (pos 8) +ℤ f = ap (λ t. floor_div t (pos 8)) e ∙ block_passes n f in
    (less (pos (r / 8)) (floor_div n (pos 8)) f b, plain n f (floor_div n (pos 8)) r (r / 8) (r % 8) e b (mod-add-div r 8))
  where
    less : (q b f : ℤ) → q ≡ b +ℤ f → q -ℤ f ≡ b
    less q b f e = omega (arith, ints)

    plain : (n f b : ℤ) (r q m : ℕ) → pos r ≡ n +ℤ pos 8 *ℤ f → pos q ≡ b +ℤ f → m + 8 * q ≡ r → m ≡ unsigned_abs (n -ℤ pos 8 *ℤ b)
    plain n f b r q m e g h = omega (arith, ints)

pub block_is : (f : ℤ) (n : Vec3) (r : RaisedVoxel) → IsRaised f n r → raised_block f r ≡ block_of_voxel n
block_is f n r i =
    let x = (parts n.x f r.x i.x).0 in
    let y = (parts n.y f r.y i.y).0 in
    let z = (parts n.z f r.z i.z).0 in
    λ k. block (x k) (y k) (z k)

pub index_is : (f : ℤ) (n : Vec3) (r : RaisedVoxel) → IsRaised f n r → raised_index r ≡ index_of_voxel n
index_is f n r i =
    let x = (parts n.x f r.x i.x).1 in
    let y = (parts n.y f r.y i.y).1 in
    let z = (parts n.z f r.z i.z).1 in
    λ k. index_of (record { x = x k; y = y k; z = z k })

-- ---- keys

pub record IsKeyAxis (z : ℤ) : Type 0 where
  pub low : (neg_ℤ (pos 32768)) ≤ℤ z
  pub high : z ≤ℤ pos 32767

pub key_parts : (b : BlockKey) → IsTrue (is_key b) → IsKeyAxis b.x × IsKeyAxis b.y × IsKeyAxis b.z
key_parts b h =
    let p = and_parts (fits_key b.x && fits_key b.y) (fits_key b.z) h in
    let q = and_parts (fits_key b.x) (fits_key b.y) p.0 in
    (one b.x q.0, one b.y q.1, one b.z p.1)
  where
    one : (z : ℤ) → fits_key z ≡ true → IsKeyAxis z
    one z h = let p = between (neg_ℤ (pos 32768)) (pos 32767) z h in record { low = p.0; high = p.1 }
