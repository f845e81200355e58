-- The depth of the surface between two points of a walk.
use Rattle.std.proofs.Common.{◌≡◌, ℕ, ◌+◌, ◌*◌, ◌∙◌, refl, arith}
use Rattle.std.specs.Prelude.{ℤ, pos, ◌+ℤ◌, ◌-ℤ◌, ◌*ℤ◌, ◌≤ℤ◌, ◌<ℤ◌}
use Rattle.std.proofs.lemmas.Int.{ints}
use Rattle.fixed_geom.specs.Division.{floor_div}
use Rattle.fixed_geom.specs.Vectors.{IsWithin}
use Rattle.fixed_geom.proofs.Floors.{floor_is, floor_above, floor_below}
use Rattle.fixed_geom.proofs.Whole.{mul_order, mul_sum, mul_turn}
use Rattle.camera.specs.declared.camera.CameraFields.{CameraFields}
use Rattle.camera.specs.Cameras.{HasRanges}
use Rattle.ray_walk.specs.Points.{point_depth}
use Rattle.ray_walk.proofs.PointLemmas.{read, read_sum}
use Rattle.raycaster.specs.Walk.{hit_depth}

pub offset_low : (s f g : ℤ) → pos 0 ≤ℤ s → pos 0 <ℤ f → g ≤ℤ pos 0 → pos 0 ≤ℤ floor_div (s *ℤ f) (f -ℤ g)
offset_low s f g s0 f0 g0 =
    let b1 : pos 1 ≤ℤ (f -ℤ g) = omega (arith, ints) in
    floor_above (s *ℤ f) (f -ℤ g) (floor_div (s *ℤ f) (f -ℤ g)) (pos 0) b1 (floor_is (s *ℤ f) (f -ℤ g) b1) (plain s (f -ℤ g) (s *ℤ f) (mul_order s (pos 0) f s0 (omega (arith, ints))))
  where
    plain : (s b sf : ℤ) → (s *ℤ pos 0) ≤ℤ sf → (b *ℤ pos 0) ≤ℤ sf
    plain s b sf h = omega (arith, ints)

pub offset_high : (s f g : ℤ) → pos 0 ≤ℤ s → pos 0 <ℤ f → g ≤ℤ pos 0 → floor_div (s *ℤ f) (f -ℤ g) ≤ℤ s
offset_high s f g s0 f0 g0 =
    let b1 : pos 1 ≤ℤ (f -ℤ g) = omega (arith, ints) in
    floor_below (s *ℤ f) (f -ℤ g) (floor_div (s *ℤ f) (f -ℤ g)) s b1 (floor_is (s *ℤ f) (f -ℤ g) b1) (plain (s *ℤ f) (s *ℤ (f -ℤ g)) ((f -ℤ g) *ℤ s) (f -ℤ g) b1 (mul_order s f (f -ℤ g) s0 (omega (arith, ints))) (mul_turn (f -ℤ g) s))
  where
    plain : (sf sb bs b : ℤ) → pos 1 ≤ℤ b → sf ≤ℤ sb → bs ≡ sb → sf <ℤ (bs +ℤ b)
    plain sf sb bs b a h e = omega (arith, ints)

-- it lies between its two points
pub hit_between : (k : CameraFields) (j : ℕ) (f g : ℤ) → HasRanges k → pos 0 <ℤ f → g ≤ℤ pos 0 → (point_depth k j ≤ℤ hit_depth k.voxel (point_depth k j) f g) × (hit_depth k.voxel (point_depth k j) f g ≤ℤ point_depth k (j + 1))
hit_between k j f g r f0 g0 =
    let s0 : pos 0 ≤ℤ k.voxel = omega (arith, ints, r.voxel) in
    let q = floor_div (k.voxel *ℤ f) (f -ℤ g) in
    (low (point_depth k j) q (offset_low k.voxel f g s0 f0 g0), high k.near k.voxel (k.voxel *ℤ pos j) (k.voxel *ℤ pos (j + 1)) q (next k.voxel j) (offset_high k.voxel f g s0 f0 g0))
  where
    low : (z q : ℤ) → pos 0 ≤ℤ q → z ≤ℤ (z +ℤ q)
    low z q h = omega (arith, ints)

    once : (a s : ℤ) → a +ℤ s *ℤ pos 1 ≡ a +ℤ s
    once a s = omega (arith, ints)

    next : (s : ℤ) (j : ℕ) → s *ℤ pos (j + 1) ≡ s *ℤ pos j +ℤ s
    next s j = mul_sum s (pos j) (pos 1) ∙ once (s *ℤ pos j) s

    high : (near s sj sj1 q : ℤ) → sj1 ≡ sj +ℤ s → q ≤ℤ s → (near +ℤ sj +ℤ q) ≤ℤ (near +ℤ sj1)
    high near s sj sj1 q e h = omega (arith, ints)

-- ---- machine numbers

-- a product of numbers from 0 on
pub product_is : (a b p : ℕ) (x y : ℤ) → p ≡ a * b → pos a ≡ x → pos b ≡ y → pos p ≡ x *ℤ y
product_is a b p x y e f g = (λ i. pos (e i)) ∙ plain ∙ (λ i. f i *ℤ g i)
  where
    plain : pos (a * b) ≡ pos a *ℤ pos b
    plain = refl

pub read_fall : (f g : ℤ) → pos 0 <ℤ f → f ≤ℤ pos 32767 → g ≤ℤ pos 0 → IsWithin (pos 32768) g → read (read f -ℤ read g) ≡ f -ℤ g
read_fall f g a b c d = omega (arith, ints)

pub read_depth : (k : CameraFields) (z f g : ℤ) → HasRanges k → pos 1 ≤ℤ z → z ≤ℤ k.far → pos 0 <ℤ f → g ≤ℤ pos 0 → read (read z +ℤ read (floor_div (k.voxel *ℤ f) (f -ℤ g))) ≡ hit_depth k.voxel z f g
read_depth k z f g r z1 zf f0 g0 =
    let s0 : pos 0 ≤ℤ k.voxel = omega (arith, ints, r.voxel) in
    plain z (floor_div (k.voxel *ℤ f) (f -ℤ g)) k.far k.voxel z1 zf r.far_high r.voxel_high (offset_low k.voxel f g s0 f0 g0) (offset_high k.voxel f g s0 f0 g0)
  where
    plain : (z q far s : ℤ) → pos 1 ≤ℤ z → z ≤ℤ far → far ≤ℤ pos 16000000 → s ≤ℤ pos 100000 → pos 0 ≤ℤ q → q ≤ℤ s → read (read z +ℤ read q) ≡ z +ℤ q
    plain z q far s a b c d e g = read_sum z q (pos 17000000) a e (omega (arith, ints)) (omega (arith, ints))
