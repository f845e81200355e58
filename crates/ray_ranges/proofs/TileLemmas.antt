-- The tiles and points of a box.
use Rattle.std.proofs.Common.{◌≡◌, ℕ, ◌+◌, ◌*◌, ◌/◌, ◌<◌, ◌≤◌, Bool, true, false, cond, ◌||◌, Option, Some, None, refl, sym, subst, arith}
use Rattle.std.specs.Prelude.{ℤ, pos, ◌+ℤ◌, ◌-ℤ◌, ◌*ℤ◌, ◌≤ℤ◌, ◌<ℤ◌, int_lt, IfSome, unsigned_abs}
use Rattle.std.specs.Int.{int_max, int_min}
use Rattle.std.proofs.lemmas.Int.{ints, clamps}
use mir.Val.{to_z, of_z}
use mir.Syntax.{w64}
use Rattle.fixed_geom.specs.declared.vector.Vec3.{Vec3}
use Rattle.fixed_geom.specs.Poses.{Pose, column_x, column_y, column_z}
use Rattle.fixed_geom.specs.Division.{floor_div}
use Rattle.fixed_geom.proofs.Floors.{floor_is, floor_above}
use Rattle.camera.specs.declared.camera.CameraFields.{CameraFields}
use Rattle.camera.specs.Cameras.{HasRanges}
use Rattle.ray_walk.specs.Points.{point_count}
use Rattle.ray_walk.proofs.PointLemmas.{count_is, steps, steps_are, steps_high}
use Rattle.ray_ranges.specs.declared.boxes.PixelBox.{PixelBox}
use Rattle.ray_ranges.specs.declared.shape.Shape.{Shape}
use Rattle.ray_ranges.specs.declared.span.Span.{Span}
use Rattle.ray_ranges.specs.Cubes.{IsFrom}
use Rattle.ray_ranges.specs.Boxes.{IsInBox, IsInside, box_at, box_of, depths_of, first_pixel, is_empty, last_pixel, middle_of, reach_of}
use Rattle.ray_ranges.specs.Slabs.{slab_count}
use Rattle.ray_ranges.specs.Tables.{IsShape}
use Rattle.ray_ranges.specs.declared.tile_box.TileBox.{TileBox}
use Rattle.ray_ranges.specs.TileBoxes.{HasTiles, IsInTiles, IsSmall, tiles_of}
use Rattle.ray_ranges.proofs.PixelLemmas.{not_under}
use Rattle.ray_ranges.proofs.SlabLemmas.{count_holds}

-- ---- a box that is found is inside the image

-- none of three tests holds
none_of : (a b c : Bool) → (a || b || c) ≡ false → (a ≡ false) × (b ≡ false) × (c ≡ false)
none_of true b c e = absurd cc
none_of false true c e = absurd cc
none_of false false c e = (refl, refl, e)

-- a box that is not empty, at depths up to far
filled_inside : (k : CameraFields) (x y z : Span) → HasRanges k → z.high ≤ℤ k.far → is_empty (box_at k x y z) ≡ false → IsInside k (box_at k x y z)
filled_inside k x y z r deep e =
    let b = box_at k x y z in
    let t = none_of (int_lt b.columns.high b.columns.low) (int_lt b.rows.high b.rows.low) (int_lt b.points.high b.points.low) e in
    record {
      left = at_least (first_pixel k.fx k.cx x.low z);
      right = below k.width (last_pixel k.fx k.cx x.high z);
      top = at_least (first_pixel k.fy k.cy y.low z);
      bottom = below k.height (last_pixel k.fy k.cy y.high z);
      columns = not_under b.columns.high b.columns.low t.0;
      rows = not_under b.rows.high b.rows.low t.1;
      first = first_least (floor_div (z.low -ℤ k.near +ℤ k.voxel -ℤ pos 1) k.voxel);
      last = counted (floor_div (z.high -ℤ k.near) k.voxel) (steps k) (point_count k) (count_is k r)
          (floor_above (k.far -ℤ k.near) k.voxel (steps k) (floor_div (z.high -ℤ k.near) k.voxel) (omega (arith, ints, r.voxel)) (steps_are k r)
          (reached z.high k.near k.far (k.voxel *ℤ floor_div (z.high -ℤ k.near) k.voxel) deep (floor_is (z.high -ℤ k.near) k.voxel (omega (arith, ints, r.voxel))).below));
      points = not_under b.points.high b.points.low t.2;
    }
  where
    at_least : (q : ℤ) → pos 0 ≤ℤ int_max (pos 0) q
    at_least q = omega (arith, ints, clamps)

    below : (w q : ℤ) → int_min (w -ℤ pos 1) q <ℤ w
    below w q = omega (arith, ints, clamps)

    first_least : (q : ℤ) → pos 1 ≤ℤ int_max (pos 1) q
    first_least q = omega (arith, ints, clamps)

    reached : (h near far p : ℤ) → h ≤ℤ far → p ≤ℤ (h -ℤ near) → p ≤ℤ (far -ℤ near)
    reached h near far p a b = omega (arith, ints)

    counted : (q s : ℤ) (n : ℕ) → pos n ≡ s +ℤ pos 1 → q ≤ℤ s → q <ℤ pos n
    counted q s n e h = omega (arith, ints)

pub given_inside : (k : CameraFields) (m : Pose) (l : Vec3) (e d : ℤ) (o : Option PixelBox) → HasRanges k → o ≡ box_of k m l e d → IfSome o (λ b. IsInside k b)
given_inside k m l e d o r is =
    let w = middle_of k.voxel l e m.t in
    let n = k.voxel *ℤ e in
    let x = reach_of (column_x m) w n d in
    let y = reach_of (column_y m) w n d in
    let z = reach_of (column_z m) w n d in
    let full = depths_of k z in
    subst (λ (q : Option PixelBox). IfSome q (λ b. IsInside k b)) (sym is) (by x y full (int_lt full.high full.low) (is_empty (box_at k x y full)) (λ (h : is_empty (box_at k x y full) ≡ false). filled_inside k x y full r (deep z.high k.far) h) refl)
  where
    deep : (h far : ℤ) → int_min h far ≤ℤ far
    deep h far = omega (arith, ints, clamps)

    by : (x y z : Span) (none empty : Bool) → (is_empty (box_at k x y z) ≡ false → IsInside k (box_at k x y z)) → is_empty (box_at k x y z) ≡ empty → IfSome (cond none None (cond empty None (Some (box_at k x y z)))) (λ b. IsInside k b)
    by x y z true empty h e = tt
    by x y z false true h e = tt
    by x y z false false h e = h e

-- ---- the tiles

-- tiles and points
abbrev tile_box : (left right top bottom first last : ℕ) → TileBox
tile_box a b c d e f = record { left = a; right = b; top = c; bottom = d; first = e; last = f }

-- the tiles of a box, by the numbers that the machine reads
pub same_tiles : (a b c d e f p q r s t u : ℕ) → a ≡ p → b ≡ q → c ≡ r → d ≡ s → e ≡ t → f ≡ u → tile_box a b c d e f ≡ tile_box p q r s t u
same_tiles a b c d e f p q r s t u g h i j k l = rw (g, h, i, j, k, l) refl

-- a small number is read as itself
pub small_read : (z : ℤ) → IsFrom (pos 0) (pos 65535) z → to_z w64 (of_z w64 z) ≡ z
small_read z s = omega (arith, ints, s.low, s.high)

pub inside_small : (k : CameraFields) (b : PixelBox) → HasRanges k → IsInside k b → IsSmall b
inside_small k b r i = record {
  left = record { low = i.left; high = omega (arith, ints, i.columns, i.right, r.width_high) };
  right = record { low = omega (arith, ints, i.left, i.columns); high = omega (arith, ints, i.right, r.width_high) };
  top = record { low = i.top; high = omega (arith, ints, i.rows, i.bottom, r.height_high) };
  bottom = record { low = omega (arith, ints, i.top, i.rows); high = omega (arith, ints, i.bottom, r.height_high) };
  first = record { low = omega (arith, ints, i.first); high = lower b.points.low b.points.high (steps k) (point_count k) (steps_high k r) (count_is k r) i.last i.points };
  last = record { low = omega (arith, ints, i.first, i.points); high = lower b.points.high b.points.high (steps k) (point_count k) (steps_high k r) (count_is k r) i.last (omega (arith, ints)) };
}
  where
    lower : (p q s : ℤ) (n : ℕ) → s ≤ℤ pos 15999 → pos n ≡ s +ℤ pos 1 → q <ℤ pos n → p ≤ℤ q → p ≤ℤ pos 65535
    lower p q s n a e h i = omega (arith, ints)

pub in_tiles : (b : PixelBox) (u v j : ℕ) → IsSmall b → IsInBox b (pos u) (pos v) (pos j) → IsInTiles (tiles_of b) u v j
in_tiles b u v j s at = record {
  left = low b.columns.low u s.left at.column.low;
  right = high b.columns.high u s.right at.column.high;
  top = low b.rows.low v s.top at.row.low;
  bottom = high b.rows.high v s.bottom at.row.high;
  first = point_low b.points.low j s.first at.point.low;
  last = point_high b.points.high j s.last at.point.high;
}
  where
    point_low : (a : ℤ) (u : ℕ) → IsFrom (pos 0) (pos 65535) a → a ≤ℤ pos u → unsigned_abs a ≤ u
    point_low a u s h = omega (arith, ints, s.low)

    point_high : (a : ℤ) (u : ℕ) → IsFrom (pos 0) (pos 65535) a → pos u ≤ℤ a → u ≤ unsigned_abs a
    point_high a u s h = omega (arith, ints, s.low)

    eighth : (a b : ℕ) → a ≤ b → a / 8 ≤ b / 8
    eighth a b h = omega (arith)

    low : (a : ℤ) (u : ℕ) → IsFrom (pos 0) (pos 65535) a → a ≤ℤ pos u → unsigned_abs a / 8 ≤ u / 8
    low a u s h = eighth (unsigned_abs a) u (point_low a u s h)

    high : (a : ℤ) (u : ℕ) → IsFrom (pos 0) (pos 65535) a → pos u ≤ℤ a → u / 8 ≤ unsigned_abs a / 8
    high a u s h = eighth u (unsigned_abs a) (point_high a u s h)

-- the tile of a pixel below a width is one of those that the width needs
pub tile_inside : (w : ℤ) (u : ℕ) → pos u <ℤ w → u / 8 < (unsigned_abs w + 7) / 8
tile_inside w u h = eighth u (unsigned_abs w) (omega (arith, ints))
  where
    eighth : (u w : ℕ) → u < w → u / 8 < (w + 7) / 8
    eighth u w h = omega (arith)

pub has_tiles : (k : CameraFields) (b : PixelBox) (s : Shape) → IsSmall b → IsInside k b → IsShape k s → HasTiles s (tiles_of b)
has_tiles k b s small i is = record {
  right = column b.columns.high k.width s.across small.right i.right is.across;
  bottom = column b.rows.high k.height s.down small.bottom i.bottom is.down;
  order = order b.points.low b.points.high small.first i.points;
  last = held (unsigned_abs b.points.high) (point_count k) (s.slab * s.slabs) (less b.points.high (point_count k) small.last i.last) (points (point_count k) s.slab s.slabs is.slabs s.slab_least);
}
  where
    column : (a w : ℤ) (n : ℕ) → IsFrom (pos 0) (pos 65535) a → a <ℤ w → n ≡ (unsigned_abs w + 7) / 8 → unsigned_abs a / 8 < n
    column a w n s h e = subst (λ (m : ℕ). unsigned_abs a / 8 < m) (sym e) (tile_inside w (unsigned_abs a) (omega (arith, ints, s.low)))

    order : (a b : ℤ) → IsFrom (pos 0) (pos 65535) a → a ≤ℤ b → unsigned_abs a ≤ unsigned_abs b
    order a b s h = omega (arith, ints, s.low)

    less : (a : ℤ) (n : ℕ) → IsFrom (pos 0) (pos 65535) a → a <ℤ pos n → unsigned_abs a < n
    less a n s h = omega (arith, ints, s.low)

    points : (p n s : ℕ) → s ≡ slab_count p n → 1 ≤ n → p ≤ n * s
    points p n s e h = subst (λ (m : ℕ). p ≤ n * m) (sym e) (count_holds p n h)

    held : (a n m : ℕ) → a < n → n ≤ m → a < m
    held a n m h i = omega (arith)
