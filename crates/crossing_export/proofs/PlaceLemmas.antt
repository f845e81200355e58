-- The values of a map at a voxel of a block, and at the next one along an axis.
use Rattle.std.proofs.Common.{◌≡◌, ℕ, ◌+◌, ◌-◌, ◌*◌, ◌/◌, ◌%◌, ◌<◌, ◌≤◌, List, refl, sym, ap, ◌∙◌, arith}
use Rattle.std.specs.Prelude.{ℤ, pos, ◌+ℤ◌, ◌-ℤ◌, ◌*ℤ◌, unsigned_abs, Option, Some, slice_get}
use Rattle.std.specs.FinMap.{FinMap, get}
use Rattle.std.specs.Option.{option_and_then}
use Rattle.std.proofs.lemmas.Int.{ints}
use Rattle.fixed_geom.specs.Division.{floor_div}
use Rattle.fixed_geom.specs.declared.vector.Vec3.{Vec3}
use Rattle.fixed_geom.proofs.Floors.{floor_div_is}
use Rattle.voxel_block.specs.declared.key.BlockKey.{BlockKey}
use Rattle.voxel_block.specs.declared.voxel.Voxel.{Voxel}
use Rattle.voxel_block.specs.Blocks.{Offset, index_of, offset_of}
use Rattle.voxel_block.specs.Keys.{key_cmp}
use Rattle.voxel_block.specs.Voxels.{known_value}
use Rattle.camera.specs.Grid.{block, offset_axis, voxel_coordinates}
use Rattle.camera.specs.Values.{value_in, value_of}
use Rattle.crossing_export.specs.declared.crossing.Axis.TheVariants.{X, Y, Z}
use Rattle.crossing_export.specs.Crossings.{moved}

-- ---- where a voxel coordinate lies

floor_at : (c b : ℤ) (o : ℕ) → o < 8 → c ≡ pos 8 *ℤ b +ℤ pos o → floor_div c (pos 8) ≡ b
floor_at c b o low e = floor_div_is c (pos 8) b (omega (arith, ints)) (record { below = omega (arith, ints); above = omega (arith, ints) })

offset_at : (c b : ℤ) (o : ℕ) → o < 8 → c ≡ pos 8 *ℤ b +ℤ pos o → offset_axis c ≡ o
offset_at c b o low e = ap (λ (q : ℤ). unsigned_abs (c -ℤ pos 8 *ℤ q)) (floor_at c b o low e) ∙ plain c b o e
  where
    plain : (c b : ℤ) (o : ℕ) → c ≡ pos 8 *ℤ b +ℤ pos o → unsigned_abs (c -ℤ pos 8 *ℤ b) ≡ o
    plain c b o e = omega (arith, ints)

found : (m : FinMap key_cmp (List Voxel)) (c : Vec3) (b : BlockKey) (o : Offset) → o.x < 8 → o.y < 8 → o.z < 8 → c.x ≡ pos 8 *ℤ b.x +ℤ pos o.x → c.y ≡ pos 8 *ℤ b.y +ℤ pos o.y → c.z ≡ pos 8 *ℤ b.z +ℤ pos o.z
    → value_of m c ≡ value_in (get m b) (index_of o)
found m c b o x y z ex ey ez =
    let bx = floor_at c.x b.x o.x x ex in
    let by = floor_at c.y b.y o.y y ey in
    let bz = floor_at c.z b.z o.z z ez in
    let ox = offset_at c.x b.x o.x x ex in
    let oy = offset_at c.y b.y o.y y ey in
    let oz = offset_at c.z b.z o.z z ez in
    λ i. value_in (get m (block (bx i) (by i) (bz i))) (index_of (record { x = ox i; y = oy i; z = oz i }))

-- ---- the indices of a voxel and of the next ones

module _ (i : ℕ) (low : i < 512) where
  on_x : i % 8 < 8
  on_x = omega arith

  on_y : i / 8 % 8 < 8
  on_y = omega arith

  on_z : i / 64 < 8
  on_z = omega arith

  same_index : i % 8 + 8 * (i / 8 % 8) + 64 * (i / 64) ≡ i
  same_index = omega arith

  x_index : (i % 8 + 1) + 8 * (i / 8 % 8) + 64 * (i / 64) ≡ i + 1
  x_index = omega arith

  x_past : 7 ≤ i % 8 → 0 + 8 * (i / 8 % 8) + 64 * (i / 64) ≡ i - 7
  x_past h = omega arith

  y_index : i % 8 + 8 * (i / 8 % 8 + 1) + 64 * (i / 64) ≡ i + 8
  y_index = omega arith

  y_past : 7 ≤ i / 8 % 8 → i % 8 + 8 * 0 + 64 * (i / 64) ≡ i - 56
  y_past h = omega arith

  z_index : i % 8 + 8 * (i / 8 % 8) + 64 * (i / 64 + 1) ≡ i + 64
  z_index = omega arith

  z_past : 7 ≤ i / 64 → i % 8 + 8 * (i / 8 % 8) + 64 * 0 ≡ i - 448
  z_past h = omega arith

-- a step inside a block, and one into the next block
inside : (b : ℤ) (o : ℕ) → pos 8 *ℤ b +ℤ pos o +ℤ pos 1 ≡ pos 8 *ℤ b +ℤ pos (o + 1)
inside b o = omega (arith, ints)

past : (b : ℤ) (o : ℕ) → o < 8 → 7 ≤ o → pos 8 *ℤ b +ℤ pos o +ℤ pos 1 ≡ pos 8 *ℤ (b +ℤ pos 1) +ℤ pos 0
past b o low h = omega (arith, ints)

more : (o : ℕ) → o < 7 → o + 1 < 8
more o h = omega arith

none : 0 < 8
none = omega arith

-- ---- the values

module _ (m : FinMap key_cmp (List Voxel)) (b : BlockKey) (i : ℕ) (low : i < 512) where
  pub value_here : value_of m (voxel_coordinates b i) ≡ value_in (get m b) i
  value_here = found m (voxel_coordinates b i) b (offset_of i) (on_x i low) (on_y i low) (on_z i low) refl refl refl ∙ ap (value_in (get m b)) (same_index i low)

  pub x_inside : i % 8 < 7 → value_of m (moved X (pos 1) (voxel_coordinates b i)) ≡ value_in (get m b) (i + 1)
  x_inside h =
      found m (moved X (pos 1) (voxel_coordinates b i)) b (record { x = i % 8 + 1; y = i / 8 % 8; z = i / 64 }) (more (i % 8) h) (on_y i low) (on_z i low) (inside b.x (i % 8)) refl refl
      ∙ ap (value_in (get m b)) (x_index i low)

  pub x_outside : 7 ≤ i % 8 → value_of m (moved X (pos 1) (voxel_coordinates b i)) ≡ value_in (get m (block (b.x +ℤ pos 1) b.y b.z)) (i - 7)
  x_outside h =
      found m (moved X (pos 1) (voxel_coordinates b i)) (block (b.x +ℤ pos 1) b.y b.z) (record { x = 0; y = i / 8 % 8; z = i / 64 }) none (on_y i low) (on_z i low) (past b.x (i % 8) (on_x i low) h) refl refl
      ∙ ap (value_in (get m (block (b.x +ℤ pos 1) b.y b.z))) (x_past i low h)

  pub y_inside : i / 8 % 8 < 7 → value_of m (moved Y (pos 1) (voxel_coordinates b i)) ≡ value_in (get m b) (i + 8)
  y_inside h =
      found m (moved Y (pos 1) (voxel_coordinates b i)) b (record { x = i % 8; y = i / 8 % 8 + 1; z = i / 64 }) (on_x i low) (more (i / 8 % 8) h) (on_z i low) refl (inside b.y (i / 8 % 8)) refl
      ∙ ap (value_in (get m b)) (y_index i low)

  pub y_outside : 7 ≤ i / 8 % 8 → value_of m (moved Y (pos 1) (voxel_coordinates b i)) ≡ value_in (get m (block b.x (b.y +ℤ pos 1) b.z)) (i - 56)
  y_outside h =
      found m (moved Y (pos 1) (voxel_coordinates b i)) (block b.x (b.y +ℤ pos 1) b.z) (record { x = i % 8; y = 0; z = i / 64 }) (on_x i low) none (on_z i low) refl (past b.y (i / 8 % 8) (on_y i low) h) refl
      ∙ ap (value_in (get m (block b.x (b.y +ℤ pos 1) b.z))) (y_past i low h)

  pub z_inside : i / 64 < 7 → value_of m (moved Z (pos 1) (voxel_coordinates b i)) ≡ value_in (get m b) (i + 64)
  z_inside h =
      found m (moved Z (pos 1) (voxel_coordinates b i)) b (record { x = i % 8; y = i / 8 % 8; z = i / 64 + 1 }) (on_x i low) (on_y i low) (more (i / 64) h) refl refl (inside b.z (i / 64))
      ∙ ap (value_in (get m b)) (z_index i low)

  pub z_outside : 7 ≤ i / 64 → value_of m (moved Z (pos 1) (voxel_coordinates b i)) ≡ value_in (get m (block b.x b.y (b.z +ℤ pos 1))) (i - 448)
  z_outside h =
      found m (moved Z (pos 1) (voxel_coordinates b i)) (block b.x b.y (b.z +ℤ pos 1)) (record { x = i % 8; y = i / 8 % 8; z = 0 }) (on_x i low) (on_y i low) none refl refl (past b.z (i / 64) (on_z i low) h)
      ∙ ap (value_in (get m (block b.x b.y (b.z +ℤ pos 1)))) (z_past i low h)

-- the value of a voxel that was read
pub value_read : (r : Option ℤ) (o : Option (List Voxel)) (voxels : List Voxel) (i : ℕ) (v : Voxel) → r ≡ known_value v → slice_get voxels i ≡ Some v → o ≡ Some voxels → r ≡ value_in o i
value_read r o voxels i v is read here = is ∙ sym (ap (option_and_then known_value) read) ∙ sym (ap (λ (q : Option (List Voxel)). value_in q i) here)
