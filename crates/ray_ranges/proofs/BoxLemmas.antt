-- The box of a cube holds each point whose nearest voxel is in the cube.
use Rattle.std.proofs.Common.{◌≡◌, ℕ, ◌≤◌, true, false, cond, Option, Some, None, refl, sym, ◌∙◌, arith}
use Rattle.std.specs.Prelude.{ℤ, pos, ◌*ℤ◌, ◌≤ℤ◌, int_lt, IfSome}
use Rattle.std.specs.Int.{int_max, int_min}
use Rattle.std.proofs.lemmas.Int.{ints, clamps}
use Rattle.fixed_geom.specs.declared.vector.Vec3.{Vec3}
use Rattle.fixed_geom.specs.Poses.{Pose, IsPose, column_x, column_y, column_z, world}
use Rattle.camera.specs.declared.camera.CameraFields.{CameraFields}
use Rattle.camera.specs.Cameras.{DriftsWithin, HasRanges, ray}
use Rattle.ray_ranges.specs.declared.span.Span.{Span}
use Rattle.ray_ranges.specs.declared.boxes.PixelBox.{PixelBox}
use Rattle.ray_walk.specs.Points.{point_depth}
use Rattle.ray_walk.proofs.PointLemmas.{depth_near, depth_far, depth_front, far_deep}
use Rattle.ray_ranges.specs.Cubes.{IsEnd, IsFrom, IsNearCube, HasDrift}
use Rattle.ray_ranges.specs.Boxes.{IsIn, IsInBox, Covers, HasNoPoint, middle_of, reach_of, depths_of, box_at, box_by, box_of, is_empty}
use Rattle.ray_ranges.proofs.CubeLemmas.{cube_near, in_reach}
use Rattle.ray_ranges.proofs.PixelLemmas.{in_points, in_pixels}

-- ---- depths

pub in_depths : (k : CameraFields) (z : Span) (y : ℤ) → IsIn z y → k.near ≤ℤ y → y ≤ℤ k.far → IsIn (depths_of k z) y
in_depths k z y at h i = plain z.low z.high k.near k.far y at.low at.high h i
  where
    plain : (a b n f y : ℤ) → a ≤ℤ y → y ≤ℤ b → n ≤ℤ y → y ≤ℤ f → IsFrom (int_max a n) (int_min b f) y
    plain a b n f y g h i j = record { low = omega (arith, ints, clamps); high = omega (arith, ints, clamps) }

-- these depths are before the camera
depths_front : (k : CameraFields) (z : Span) → pos 1 ≤ℤ k.near → pos 1 ≤ℤ (depths_of k z).low
depths_front k z h = plain z.low k.near h
  where
    plain : (a n : ℤ) → pos 1 ≤ℤ n → pos 1 ≤ℤ int_max a n
    plain a n h = omega (arith, ints, clamps)

-- ---- the drift

pub drift_holds : (k : CameraFields) (m : Pose) (d : ℤ) → HasRanges k → IsPose m → DriftsWithin k d → HasDrift k m d
drift_holds k m d r o h u v j p =
    let i = p.point in
    h m u v (point_depth k j) o i.column i.row (depth_front k j r) (far_deep k (point_depth k j) r (depth_far k j r i.point))

-- ---- the box

natural : (n : ℕ) → pos 0 ≤ℤ pos n
natural n = omega (arith, ints)

late : (j : ℕ) → 1 ≤ j → pos 1 ≤ℤ pos j
late j h = omega (arith, ints)

-- the columns, the rows and the points, by what the three coordinates of the ray point are in
pub in_box_at : (k : CameraFields) (x y z : Span) (u v j : ℕ) → HasRanges k → IsEnd k u v j → pos 1 ≤ℤ z.low → IsIn z (point_depth k j) → IsIn x (ray k (pos u) (pos v) (point_depth k j)).x → IsIn y (ray k (pos u) (pos v) (point_depth k j)).y
    → IsInBox (box_at k x y z) (pos u) (pos v) (pos j)
in_box_at k x y z u v j r p front at a b = record {
  column = in_pixels k.fx k.cx k.width (pos u) (point_depth k j) x z r.fx (natural u) p.point.column front at a;
  row = in_pixels k.fy k.cy k.height (pos v) (point_depth k j) y z r.fy (natural v) p.point.row front at b;
  point = in_points k.near k.voxel (pos j) z (omega (arith, ints, r.voxel)) (late j p.late) at;
}

-- the coordinates of a ray point whose nearest voxel is in the cube
pub record IsReached (k : CameraFields) (m : Pose) (l : Vec3) (e d : ℤ) (u v j : ℕ) : Type 0 where
  pub x : IsIn (reach_of (column_x m) (middle_of k.voxel l e m.t) (k.voxel *ℤ e) d) (ray k (pos u) (pos v) (point_depth k j)).x
  pub y : IsIn (reach_of (column_y m) (middle_of k.voxel l e m.t) (k.voxel *ℤ e) d) (ray k (pos u) (pos v) (point_depth k j)).y
  pub z : IsIn (depths_of k (reach_of (column_z m) (middle_of k.voxel l e m.t) (k.voxel *ℤ e) d)) (point_depth k j)

pub is_reached : (k : CameraFields) (m : Pose) (l : Vec3) (e d : ℤ) (u v j : ℕ) → HasRanges k → HasDrift k m d → IsEnd k u v j → IsNearCube k m l e u v j → IsReached k m l e d u v j
is_reached k m l e d u v j r h p at =
    let s1 : pos 1 ≤ℤ k.voxel = omega (arith, ints, r.voxel) in
    let c = ray k (pos u) (pos v) (point_depth k j) in
    let q = world m c in
    let w = middle_of k.voxel l e m.t in
    let n = k.voxel *ℤ e in
    let near = cube_near k.voxel e l m.t q s1 at in
    let moved = h u v j p in
    record {
      x = in_reach (column_x m) m.t q w n d c.x near moved.x;
      y = in_reach (column_y m) m.t q w n d c.y near moved.y;
      z = in_depths k (reach_of (column_z m) w n d) (point_depth k j) (in_reach (column_z m) m.t q w n d c.z near moved.z) (depth_near k j r) (depth_far k j r p.point.point);
    }

-- a point that lies in spans shows that none of them is empty
not_under : (a : Span) (z : ℤ) → IsIn a z → int_lt a.high a.low ≡ false
not_under a z at = plain a.low a.high z at.low at.high
  where
    plain : (a b z : ℤ) → a ≤ℤ z → z ≤ℤ b → int_lt b a ≡ false
    plain a b z h i = grind (arith, ints)

not_empty : (b : PixelBox) (u v j : ℤ) → IsInBox b u v j → is_empty b ≡ false
not_empty b u v j at = rw (not_under b.columns u at.column, not_under b.rows v at.row, not_under b.points j at.point) refl

-- where a box is given, it holds the point
pub box_holds : (k : CameraFields) (m : Pose) (l : Vec3) (e d : ℤ) (u v j : ℕ) → HasRanges k → HasDrift k m d → IsEnd k u v j → IsNearCube k m l e u v j
    → let w = middle_of k.voxel l e m.t in let n = k.voxel *ℤ e in
    IsInBox (box_at k (reach_of (column_x m) w n d) (reach_of (column_y m) w n d) (depths_of k (reach_of (column_z m) w n d))) (pos u) (pos v) (pos j)
box_holds k m l e d u v j r h p at =
    let w = middle_of k.voxel l e m.t in
    let n = k.voxel *ℤ e in
    let z = reach_of (column_z m) w n d in
    let i = is_reached k m l e d u v j r h p at in
    in_box_at k (reach_of (column_x m) w n d) (reach_of (column_y m) w n d) (depths_of k z) u v j r p (depths_front k z r.near) i.z i.x i.y

-- so the box of a cube is given wherever there is a point, and it holds the point
box_is : (k : CameraFields) (m : Pose) (l : Vec3) (e d : ℤ) (u v j : ℕ) → HasRanges k → HasDrift k m d → IsEnd k u v j → IsNearCube k m l e u v j
    → let w = middle_of k.voxel l e m.t in let n = k.voxel *ℤ e in
    box_of k m l e d ≡ Some (box_at k (reach_of (column_x m) w n d) (reach_of (column_y m) w n d) (depths_of k (reach_of (column_z m) w n d)))
box_is k m l e d u v j r h p at =
    let w = middle_of k.voxel l e m.t in
    let n = k.voxel *ℤ e in
    let x = reach_of (column_x m) w n d in
    let y = reach_of (column_y m) w n d in
    let z = depths_of k (reach_of (column_z m) w n d) in
    let i = is_reached k m l e d u v j r h p at in
    rw (not_under z (point_depth k j) i.z, not_empty (box_at k x y z) (pos u) (pos v) (pos j) (box_holds k m l e d u v j r h p at)) refl

pub box_covers : (k : CameraFields) (m : Pose) (l : Vec3) (e d : ℤ) (b : PixelBox) → HasRanges k → HasDrift k m d → box_of k m l e d ≡ Some b → Covers k m l e b
box_covers k m l e d b r h is u v j p at =
    let w = middle_of k.voxel l e m.t in
    let n = k.voxel *ℤ e in
    let full = box_at k (reach_of (column_x m) w n d) (reach_of (column_y m) w n d) (depths_of k (reach_of (column_z m) w n d)) in
    held full b (same full b (sym (box_is k m l e d u v j r h p at) ∙ is)) (box_holds k m l e d u v j r h p at)
  where
    same : (a b : PixelBox) → Some a ≡ Some b → a ≡ b
    same a b e = cc

    held : (a b : PixelBox) → a ≡ b → IsInBox a (pos u) (pos v) (pos j) → IsInBox b (pos u) (pos v) (pos j)
    held a b e i = rw (← e) i

pub none_near : (k : CameraFields) (m : Pose) (l : Vec3) (e d : ℤ) → HasRanges k → HasDrift k m d → box_of k m l e d ≡ None → HasNoPoint k m l e
none_near k m l e d r h is u v j p at = absurd (never _ (sym (box_is k m l e d u v j r h p at) ∙ is))
  where
    never : (a : PixelBox) → Some a ≡ None → ⊥
    never a e = absurd cc

-- ---- as the code finds it

pub no_depth : (k : CameraFields) (x y z full : Span) → z ≡ full → int_lt z.high z.low ≡ true → None ≡ box_by k x y full
no_depth k x y z full e t = let empty : int_lt full.high full.low ≡ true = rw e at t in rw empty refl

pub found_box : (r : Option PixelBox) (b : PixelBox) (k : CameraFields) (x y z x' y' z' : Span) → b ≡ box_at k x y z → r ≡ cond (is_empty b) None (Some b) → int_lt z.high z.low ≡ false → x ≡ x' → y ≡ y' → z ≡ z' → r ≡ box_by k x' y' z'
found_box r b k x y z x' y' z' h e t p q s =
    let own : r ≡ box_by k x y z = e ∙ rw (h, t) refl in
    own ∙ (λ i. box_by k (p i) (q i) (s i))

pub given_covers : (k : CameraFields) (m : Pose) (l : Vec3) (e d : ℤ) (o : Option PixelBox) → HasRanges k → HasDrift k m d → o ≡ box_of k m l e d → IfSome o (λ b. Covers k m l e b)
given_covers k m l e d (Some b) r h is = box_covers k m l e d b r h (sym is)
given_covers k m l e d None r h is = tt

-- of another name of the same camera and pose
pub covers_moved : (k k' : CameraFields) (m m' : Pose) (l : Vec3) (e : ℤ) (b : PixelBox) → k ≡ k' → m ≡ m' → Covers k m l e b → Covers k' m' l e b
covers_moved k k' m m' l e b f g h = rw (← f, ← g) h

pub none_moved : (k k' : CameraFields) (m m' : Pose) (l : Vec3) (e : ℤ) → k ≡ k' → m ≡ m' → HasNoPoint k m l e → HasNoPoint k' m' l e
none_moved k k' m m' l e f g h = rw (← f, ← g) h
