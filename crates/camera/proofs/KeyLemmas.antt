-- Blocks whose coordinates fit 16 bits, and the voxel nearest to a point.
use Rattle.std.proofs.Common.{◌≡◌, ◌<◌, ℕ, Bool, true, false, Option, Some, None, cond, refl, sym, ◌∙◌, ap, arith}
use Rattle.std.specs.Prelude.{ℤ, pos, neg_ℤ, ◌+ℤ◌, ◌-ℤ◌, ◌*ℤ◌, ◌≤ℤ◌, ◌&&◌, unsigned_abs}
use Rattle.std.proofs.lemmas.Int.{ints, to_z-of_z}
use mir.Val.{SFits, to_z, of_z}
use mir.Syntax.{w16, w64}
use Rattle.fixed_geom.specs.declared.vector.Vec3.{Vec3}
use Rattle.fixed_geom.specs.Division.{floor_div, IsFloor}
use Rattle.fixed_geom.specs.Vectors.{IsWithin}
use Rattle.fixed_geom.proofs.Floors.{floor_is}
use Rattle.voxel_block.specs.declared.key.BlockKey.{BlockKey}
use Rattle.voxel_block.specs.Blocks.{Offset}
use Rattle.voxel_block.proofs.Blocks.{offset_of-index_of}
use Rattle.camera.specs.Grid.{block, fits_key, is_key, as_key, nearest, nearest_axis, nearest_voxel, block_of_voxel, index_of_voxel, offset_axis, voxel_coordinates}
use Rattle.camera.proofs.Readings.{read}
use Rattle.camera.proofs.RangeLemmas.{between}

-- ---- coordinates of 16 bits

by_test : (b : Bool) (x a : ℤ) → Some a ≡ cond b (Some x) None → (b ≡ true) × (a ≡ x)
by_test true x a e = (refl, cc)
by_test false x a e = absurd cc

narrow : (a : ℤ) → (neg_ℤ (pos 32768)) ≤ℤ a → a ≤ℤ pos 32767 → to_z w16 (of_z w16 a) ≡ a
narrow a low high = omega (arith, ints)

-- a coordinate that passed is the one that was tried
passed : (x a : ℤ) (o : Option ℤ) → SFits w64 x → o ≡ Some a → o ≡ cond (fits_key (read x)) (Some (read x)) None → (fits_key x ≡ true) × (to_z w16 (of_z w16 a) ≡ x)
passed x a o fits was is =
    let e = to_z-of_z w64 x fits in
    let tried : Some a ≡ cond (fits_key x) (Some x) None = sym was ∙ is ∙ rw e refl in
    let p = by_test (fits_key x) x a tried in
    let range = between (neg_ℤ (pos 32768)) (pos 32767) x p.0 in
    (p.0, ap (λ (z : ℤ). to_z w16 (of_z w16 z)) p.1 ∙ narrow x range.0 range.1)

all_fit : (a b c : Bool) (k : BlockKey) → a ≡ true → b ≡ true → c ≡ true → Some k ≡ cond (a && b && c) (Some k) None
all_fit a b c k e f g = rw (e, f, g) refl

-- the block of three coordinates that passed
pub key_is : (x y z a b c : ℤ) (o p q : Option ℤ) → SFits w64 x → SFits w64 y → SFits w64 z → o ≡ Some a → p ≡ Some b → q ≡ Some c
    → o ≡ cond (fits_key (read x)) (Some (read x)) None → p ≡ cond (fits_key (read y)) (Some (read y)) None → q ≡ cond (fits_key (read z)) (Some (read z)) None
    → Some (block (to_z w16 (of_z w16 a)) (to_z w16 (of_z w16 b)) (to_z w16 (of_z w16 c))) ≡ as_key (block x y z)
key_is x y z a b c o p q fx fy fz ox py qz ex ey ez =
    let i = passed x a o fx ox ex in
    let j = passed y b p fy py ey in
    let k = passed z c q fz qz ez in
    rw (i.1, j.1, k.1) (all_fit (fits_key x) (fits_key y) (fits_key z) (block x y z) i.0 j.0 k.0)

-- ---- floors

-- a coordinate of the block that a point lies in
pub block_floor : (d p s : ℤ) → SFits w64 d → IsWithin (pos 1099511627776) p → pos 1 ≤ℤ s → s ≤ℤ pos 100000 → d ≡ floor_div (read p) (read (pos 8 *ℤ read s)) → read d ≡ floor_div p (pos 8 *ℤ s)
block_floor d p s fits w low high is =
    let length : read (pos 8 *ℤ read s) ≡ pos 8 *ℤ s = omega (arith, ints) in
    let point : read p ≡ p = omega (arith, ints) in
    to_z-of_z w64 d fits ∙ is ∙ rw (length, point) refl

-- a coordinate of the nearest voxel
pub nearest_floor : (d p s : ℤ) → SFits w64 d → IsWithin (pos 1099511627776) p → pos 1 ≤ℤ s → s ≤ℤ pos 100000 → d ≡ floor_div (read (read (pos 2 *ℤ read p) +ℤ read s)) (read (pos 2 *ℤ read s)) → read d ≡ nearest_axis s p
nearest_floor d p s fits w low high is =
    let above : read (read (pos 2 *ℤ read p) +ℤ read s) ≡ pos 2 *ℤ p +ℤ s = omega (arith, ints) in
    let below : read (pos 2 *ℤ read s) ≡ pos 2 *ℤ s = omega (arith, ints) in
    to_z-of_z w64 d fits ∙ is ∙ rw (above, below) refl

-- ---- a voxel, by its block and its index

-- a voxel coordinate is 8 times that of its block and its offset there
parted : (c q : ℤ) → IsFloor c (pos 8) q → (pos 8 *ℤ q +ℤ pos (unsigned_abs (c -ℤ pos 8 *ℤ q)) ≡ c) × (unsigned_abs (c -ℤ pos 8 *ℤ q) < 8)
parted c q f = (omega (arith, ints, f.below, f.above), omega (arith, ints, f.below, f.above))

voxel_axis_parts : (c : ℤ) → (pos 8 *ℤ floor_div c (pos 8) +ℤ pos (offset_axis c) ≡ c) × (offset_axis c < 8)
voxel_axis_parts c = parted c (floor_div c (pos 8)) (floor_is c (pos 8) (omega (arith, ints)))

pub voxel_back : (v : Vec3) → voxel_coordinates (block_of_voxel v) (index_of_voxel v) ≡ v
voxel_back v =
    let x = voxel_axis_parts v.x in
    let y = voxel_axis_parts v.y in
    let z = voxel_axis_parts v.z in
    let e = offset_of-index_of (offset_axis v.x) (offset_axis v.y) (offset_axis v.z) x.1 y.1 in
    let is_x : (voxel_coordinates (block_of_voxel v) (index_of_voxel v)).x ≡ v.x = ap (λ (o : Offset). pos 8 *ℤ floor_div v.x (pos 8) +ℤ pos o.x) e ∙ x.0 in
    let is_y : (voxel_coordinates (block_of_voxel v) (index_of_voxel v)).y ≡ v.y = ap (λ (o : Offset). pos 8 *ℤ floor_div v.y (pos 8) +ℤ pos o.y) e ∙ y.0 in
    let is_z : (voxel_coordinates (block_of_voxel v) (index_of_voxel v)).z ≡ v.z = ap (λ (o : Offset). pos 8 *ℤ floor_div v.z (pos 8) +ℤ pos o.z) e ∙ z.0 in
    λ k. record { x = is_x k; y = is_y k; z = is_z k }

-- ---- the nearest voxel

-- the block and the index of the voxel of these coordinates
abbrev by_voxel : Vec3 → Option (BlockKey × ℕ)
by_voxel v = cond (is_key (block_of_voxel v)) (Some (block_of_voxel v, index_of_voxel v)) None

none_by : (b : Bool) (k : BlockKey) (i : ℕ) → cond b (Some k) None ≡ None → ◌≡◌ {A = Option (BlockKey × ℕ)} None (cond b (Some (k, i)) None)
none_by true k i e = absurd cc
none_by false k i e = refl

pub no_voxel : (s : ℤ) (p v : Vec3) (o : Option BlockKey) → v ≡ nearest_voxel s p → o ≡ None → o ≡ as_key (block_of_voxel v) → None ≡ nearest s p
no_voxel s p v o is none e = none_by (is_key (block_of_voxel v)) (block_of_voxel v) (index_of_voxel v) (sym e ∙ none) ∙ ap by_voxel is

some_by : (b : Bool) (k l : BlockKey) (i : ℕ) → Some l ≡ cond b (Some k) None → (l ≡ k) × (◌≡◌ {A = Option (BlockKey × ℕ)} (Some (l, i)) (cond b (Some (k, i)) None))
some_by true k l i e = let same : l ≡ k = cc in (same, ap (λ (j : BlockKey). Some (j, i)) same)
some_by false k l i e = absurd cc

pub one_voxel : (s : ℤ) (p v : Vec3) (o : Option BlockKey) (k : BlockKey) (i : ℕ) → v ≡ nearest_voxel s p → o ≡ Some k → o ≡ as_key (block_of_voxel v) → i ≡ index_of_voxel v → ◌≡◌ {A = Option (BlockKey × ℕ)} (Some (k, i)) (nearest s p)
one_voxel s p v o k i is was e at = ap (λ (j : ℕ). Some (k, j)) at ∙ (some_by (is_key (block_of_voxel v)) (block_of_voxel v) k (index_of_voxel v) (sym was ∙ e)).1 ∙ ap by_voxel is

pub its_voxel : (s : ℤ) (p v : Vec3) (o : Option BlockKey) (k : BlockKey) (i : ℕ) → v ≡ nearest_voxel s p → o ≡ Some k → o ≡ as_key (block_of_voxel v) → i ≡ index_of_voxel v → voxel_coordinates k i ≡ nearest_voxel s p
its_voxel s p v o k i is was e at =
    let same = (some_by (is_key (block_of_voxel v)) (block_of_voxel v) k (index_of_voxel v) (sym was ∙ e)).0 in
    ap (λ (j : ℕ). voxel_coordinates k j) at ∙ ap (λ (b : BlockKey). voxel_coordinates b (index_of_voxel v)) same ∙ voxel_back v ∙ is
