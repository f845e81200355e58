-- The low voxels of the heap are in the ranges, and so the ends of all hits.
use Rattle.std.proofs.Common.{◌≡◌, ℕ, ◌+◌, ◌<◌, ◌≤◌, Bool, true, false, cond, List, length, refl, sym, ap, ◌∙◌, subst, inl, inr, ◌⊎◌, arith, mul-le-mul_left}
use Rattle.std.specs.Prelude.{◌/◌, nat_lt, ℤ, pos, ◌≤ℤ◌, ◌<ℤ◌, Option, Some, None, slice_get, slice_index_or}
use Rattle.std.specs.Option.{option_and_then}
use Rattle.std.specs.FinMap.{get}
use Rattle.std.proofs.lemmas.Bool.{cases_lt}
use Rattle.std.proofs.lemmas.Option.{get_or_from_slice_get, slice_get_past}
use Rattle.fixed_geom.specs.Poses.{Pose}
use Rattle.voxel_block.specs.declared.key.BlockKey.{BlockKey}
use Rattle.voxel_block.specs.declared.voxel.Voxel.{Voxel}
use Rattle.voxel_block.specs.Parts.{IsLow, part_of}
use Rattle.voxel_block.specs.Voxels.{known_value}
use Rattle.camera.specs.declared.camera.CameraFields.{CameraFields}
use Rattle.camera.specs.Grid.{block_of_voxel, index_of_voxel}
use Rattle.camera.specs.Values.{value_in}
use Rattle.ray_walk.specs.Points.{IsPoint, point_depth, voxel_at}
use Rattle.ray_ranges.specs.declared.point_range.PointRange.{PointRange}
use Rattle.ray_ranges.specs.Cubes.{IsEnd, IsInCube, IsNearCube, part_least}
use Rattle.ray_ranges.proofs.PartLemmas.{in_part, part_small}
use Rattle.ray_ranges.specs.Tables.{Table, RangesHave, tile_of}
use Rattle.ray_ranges.specs.Tiles.{AreInSlabs}
use Rattle.block_heap.specs.Cells.{Cells, content}
use Rattle.streamer.specs.Owners.{block_in, owner_at}
use Rattle.streamer.specs.Places.{IsPlaced, Places, cell_of, heap_blocks, in_heap}
use Rattle.streamer.proofs.Blocks.{get-heap}
use Rattle.raycaster.specs.Low.{HaveBlock, IsWider}
use Rattle.raycaster.specs.Tries.{AreAscending, HaveAllEnds}
use Rattle.raycaster.specs.Views.{HaveLow}
use Rattle.raycaster.specs.Walk.{Scene, scene_of, walk_points}
use Rattle.raycaster.proofs.TryLemmas.{low_end}

-- ---- the parts of a block

-- the ranges that were there were widened by those of the first n parts that have a low voxel
pub record HaveParts (old r : Table) (low : List Bool) (b : BlockKey) (n : ℕ) : Type 0 where
  pub wider : IsWider old r
  pub has : (u v j p : ℕ) → p < n → slice_get low p ≡ Some true → IsEnd old.camera u v j → IsNearCube old.camera old.pose (part_least b p) (pos 4) u v j → RangesHave r u v j

pub no_parts : (old : Table) (low : List Bool) (b : BlockKey) → HaveParts old old low b 0
no_parts old low b = record { wider = record { camera = refl; pose = refl; kept = λ u v j h. h }; has = λ u v j p below. absurd (omega arith) }

-- a part that was added
pub record IsAdded (b : BlockKey) (n : ℕ) (r new : Table) : Type 0 where
  pub wider : IsWider r new
  pub covers : (u v j : ℕ) → IsEnd new.camera u v j → IsNearCube new.camera new.pose (part_least b n) (pos 4) u v j → RangesHave new u v j

module _ (old r : Table) (low : List Bool) (b : BlockKey) (n : ℕ) (h : HaveParts old r low b n) where
  pub part_added : (new : Table) → IsAdded b n r new → HaveParts old new low b (n + 1)
  part_added new g = record { wider = record { camera = camera; pose = pose; kept = λ u v j at. g.wider.kept u v j (h.wider.kept u v j at) }; has = λ u v j p below is end near. by u v j p below is end near (cases_lt p n) }
    where
      camera : new.camera ≡ old.camera
      camera = g.wider.camera ∙ h.wider.camera

      pose : new.pose ≡ old.pose
      pose = g.wider.pose ∙ h.wider.pose

      here : (u v j p : ℕ) → p ≡ n → IsEnd old.camera u v j → IsNearCube old.camera old.pose (part_least b p) (pos 4) u v j → RangesHave new u v j
      here u v j p same end near =
          g.covers u v j (subst (λ (k : CameraFields). IsEnd k u v j) (sym camera) end)
          (subst (λ (k : CameraFields). IsNearCube k new.pose (part_least b n) (pos 4) u v j) (sym camera) (subst (λ (m : Pose). IsNearCube old.camera m (part_least b n) (pos 4) u v j) (sym pose) (subst (λ q. IsNearCube old.camera old.pose (part_least b q) (pos 4) u v j) same near)))

      by : (u v j p : ℕ) → p < n + 1 → slice_get low p ≡ Some true → IsEnd old.camera u v j → IsNearCube old.camera old.pose (part_least b p) (pos 4) u v j → (p < n) ⊎ (n ≤ p) → RangesHave new u v j
      by u v j p below is end near (inl l) = g.wider.kept u v j (h.has u v j p l is end near)
      by u v j p below is end near (inr m) = here u v j p (omega (arith, below, m)) end near

  -- a part without a low voxel is passed over
  pub part_passed : (d : Bool) → slice_index_or low n d ≡ false → HaveParts old r low b (n + 1)
  part_passed d out = record { wider = h.wider; has = λ u v j p below is end near. by u v j p below is end near (cases_lt p n) }
    where
      never : slice_get low n ≡ Some true → ⊥
      never is = (let e = get_or_from_slice_get low n true d is in let z : true ≡ false = sym e ∙ out in absurd (cc))

      by : (u v j p : ℕ) → p < n + 1 → slice_get low p ≡ Some true → IsEnd old.camera u v j → IsNearCube old.camera old.pose (part_least b p) (pos 4) u v j → (p < n) ⊎ (n ≤ p) → RangesHave r u v j
      by u v j p below is end near (inl l) = h.has u v j p l is end near
      by u v j p below is end near (inr m) = absurd (let same : p ≡ n = omega (arith, below, m) in never (subst (λ q. slice_get low q ≡ Some true) same is))

  -- all parts of a block
  pub all_parts : (voxels : List Voxel) → 8 ≤ n → ((i : ℕ) (x : Voxel) → slice_get voxels i ≡ Some x → x.f ≤ℤ pos 0 → slice_get low (part_of i) ≡ Some true) → HaveBlock r.camera r.pose r b voxels
  all_parts voxels all low_is = subst (λ (k : CameraFields). HaveBlock k r.pose r b voxels) (sym h.wider.camera) (subst (λ (m : Pose). HaveBlock old.camera m r b voxels) (sym h.wider.pose) (record { has = has }))
    where
      has : (u v j : ℕ) → IsEnd old.camera u v j → block_of_voxel (voxel_at old.camera old.pose u v (point_depth old.camera j)) ≡ b → IsLow voxels (index_of_voxel (voxel_at old.camera old.pose u v (point_depth old.camera j))) → RangesHave r u v j
      has u v j end at is =
          let c = voxel_at old.camera old.pose u v (point_depth old.camera j) in
          let part = part_of (index_of_voxel c) in
          let small = part_small c in
          h.has u v j part (omega (arith, all, small)) (low_is (index_of_voxel c) is.voxel is.read is.low) end (subst (λ (q : BlockKey). IsInCube (part_least q part) (pos 4) c) at (in_part c))

-- ---- the blocks of the first cells

pub record HaveCells (k : CameraFields) (m : Pose) (h : Cells) (r : Table) (n : ℕ) : Type 0 where
  pub camera : r.camera ≡ k
  pub pose : r.pose ≡ m
  pub have : (c : ℕ) (b : BlockKey) (voxels : List Voxel) → c < n → owner_at h c ≡ Some (b, voxels) → HaveBlock k m r b voxels

pub no_cells : (k : CameraFields) (m : Pose) (h : Cells) (r : Table) → r.camera ≡ k → r.pose ≡ m → HaveCells k m h r 0
no_cells k m h r camera pose = record { camera = camera; pose = pose; have = λ c b voxels below. absurd (omega arith) }

module _ (k : CameraFields) (m : Pose) (h : Cells) (r : Table) (n : ℕ) (before : HaveCells k m h r n) where
  pub cell_added : (new : Table) (b : BlockKey) (voxels : List Voxel) → owner_at h n ≡ Some (b, voxels) → IsWider r new → HaveBlock new.camera new.pose new b voxels → HaveCells k m h new (n + 1)
  cell_added new b voxels owner wider block = record { camera = camera; pose = pose; have = λ c q w below at. by c q w below at (cases_lt c n) }
    where
      camera : new.camera ≡ k
      camera = wider.camera ∙ before.camera

      pose : new.pose ≡ m
      pose = wider.pose ∙ before.pose

      here : HaveBlock k m new b voxels
      here = subst (λ (f : CameraFields). HaveBlock f m new b voxels) camera (subst (λ (p : Pose). HaveBlock new.camera p new b voxels) pose block)

      same : (q : BlockKey) (w : List Voxel) → ◌≡◌ {A = Option (BlockKey × List Voxel)} (Some (b, voxels)) (Some (q, w)) → (b ≡ q) × (voxels ≡ w)
      same q w e = (let p : (b, voxels) ≡ (q, w) = cc in (ap (λ (x : BlockKey × List Voxel). x.0) p, ap (λ (x : BlockKey × List Voxel). x.1) p))

      by : (c : ℕ) (q : BlockKey) (w : List Voxel) → c < n + 1 → owner_at h c ≡ Some (q, w) → (c < n) ⊎ (n ≤ c) → HaveBlock k m new q w
      by c q w below at (inl l) = (let old = before.have c q w l at in record { has = λ u v j end is low. wider.kept u v j (old.has u v j end is low) })
      by c q w below at (inr g) =
          let number : c ≡ n = omega (arith, below, g) in
          let e = same q w (sym owner ∙ ap (owner_at h) (sym number) ∙ at) in
          subst (λ (w : List Voxel). HaveBlock k m new q w) e.1 (subst (λ (q : BlockKey). HaveBlock k m new q voxels) e.0 here)

  pub cell_passed : owner_at h n ≡ None → HaveCells k m h r (n + 1)
  cell_passed owner = record { camera = before.camera; pose = before.pose; have = λ c q w below at. by c q w below at (cases_lt c n) }
    where
      by : (c : ℕ) (q : BlockKey) (w : List Voxel) → c < n + 1 → owner_at h c ≡ Some (q, w) → (c < n) ⊎ (n ≤ c) → HaveBlock k m r q w
      by c q w below at (inl l) = before.have c q w l at
      by c q w below at (inr g) = absurd (let number : c ≡ n = omega (arith, below, g) in let none : ◌≡◌ {A = Option (BlockKey × List Voxel)} None (Some (q, w)) = sym owner ∙ ap (owner_at h) (sym number) ∙ at in cc)

  pub all_cells : length h.cells ≤ n → (c : ℕ) (b : BlockKey) (voxels : List Voxel) → owner_at h c ≡ Some (b, voxels) → HaveBlock k m r b voxels
  unfolding owner_at
  all_cells all c b voxels at = by (cases_lt c n)
    where
      past : n ≤ c → owner_at h c ≡ None
      past g = ap (option_and_then content) (slice_get_past h.cells c (omega (arith, all, g)))

      by : (c < n) ⊎ (n ≤ c) → HaveBlock k m r b voxels
      by (inl l) = before.have c b voxels l at
      by (inr g) = absurd (let none : ◌≡◌ {A = Option (BlockKey × List Voxel)} None (Some (b, voxels)) = sym (past g) ∙ at in cc)

-- the owner of a cell that was lent
pub lent_owner : (h g : Cells) (n : ℕ) (o : Option (BlockKey × List Voxel)) → o ≡ option_and_then content (slice_get g.cells n) → g ≡ h → owner_at h n ≡ o
unfolding owner_at
lent_owner h g n o e same = ap (λ (q : Cells). option_and_then content (slice_get q.cells n)) (sym same) ∙ sym e

-- ---- the blocks of the heap

-- a known value that is at most 0 is that of a low voxel
pub record IsLowIn (block : Option (List Voxel)) (i : ℕ) : Type 0 where
  pub voxels : List Voxel
  pub is : block ≡ Some voxels
  pub low : IsLow voxels i

pub low_in : (block : Option (List Voxel)) (i : ℕ) (f : ℤ) → value_in block i ≡ Some f → f ≤ℤ pos 0 → IsLowIn block i
low_in None i f e h = absurd (cc)
low_in (Some voxels) i f e h = by (slice_get voxels i) refl e
  where
    known : (x : Voxel) → slice_get voxels i ≡ Some x → (b : Bool) → cond b (Some x.f) None ≡ Some f → IsLowIn (Some voxels) i
    known x at false e = absurd (cc)
    known x at true e = (let same : x.f ≡ f = cc in record { voxels = voxels; is = refl; low = record { voxel = x; read = at; low = subst (λ (z : ℤ). z ≤ℤ pos 0) (sym same) h } })

    by : (o : Option Voxel) → slice_get voxels i ≡ o → option_and_then known_value o ≡ Some f → IsLowIn (Some voxels) i
    by None at e = absurd (cc)
    by (Some x) at e = known x at (nat_lt 0 x.w) e

module _ (k : CameraFields) (m : Pose) (p : Places) (placed : IsPlaced p) (r : Table) (camera : r.camera ≡ k) (have : (n : ℕ) (b : BlockKey) (voxels : List Voxel) → owner_at p.heap n ≡ Some (b, voxels) → HaveBlock k m r b voxels) where
  pub all_low : HaveLow (scene_of k m (heap_blocks p)) r
  all_low = record { camera = camera; has = λ u v j f end is low. at u v j f end (low_in _ _ f is low) }
    where
      at : (u v j : ℕ) (f : ℤ) → IsEnd k u v j → IsLowIn (get (heap_blocks p) (block_of_voxel (voxel_at k m u v (point_depth k j)))) (index_of_voxel (voxel_at k m u v (point_depth k j))) → RangesHave r u v j
      at u v j f end l = by (cell_of p.table b) refl
        where
          b : BlockKey
          b = block_of_voxel (voxel_at k m u v (point_depth k j))

          there : in_heap p.heap (cell_of p.table b) ≡ Some l.voxels
          there = sym (get-heap p b) ∙ l.is

          by : (c : Option ℕ) → cell_of p.table b ≡ c → RangesHave r u v j
          by None e = absurd (let none : ◌≡◌ {A = Option (List Voxel)} None (Some l.voxels) = sym (ap (in_heap p.heap) e) ∙ there in cc)
          by (Some n) e =
              let same : ◌≡◌ {A = Option (List Voxel)} (Some (block_in p.heap n)) (Some l.voxels) = sym (ap (in_heap p.heap) e) ∙ there in
              let is : block_in p.heap n ≡ l.voxels = cc in
              (have n b l.voxels (placed.found b n e ∙ ap (λ (w : List Voxel). Some (b, w)) is)).has u v j end refl l.low

-- ---- the ranges of a pixel

-- they have the end of each hit
pub have_all_ends : (k : CameraFields) (s : Scene) (r : Table) (u v : ℕ) → k ≡ s.camera → pos u <ℤ k.width → pos v <ℤ k.height → HaveLow s r → HaveAllEnds (walk_points s u v) (tile_of r u v)
have_all_ends k s r u v same column row low j is =
    let e = low_end s u v j is in
    let point : IsPoint s.camera u v (j + 1) = record { column = subst (λ (q : CameraFields). pos u <ℤ q.width) same column; row = subst (λ (q : CameraFields). pos v <ℤ q.height) same row; point = e.inside } in
    record { at = (j + 1) / r.shape.slab; point = low.has u v (j + 1) e.value (record { point = point; late = omega arith }) e.known e.low }

-- and are in the order of the points
pub are_ascending : (ranges : List PointRange) (n : ℕ) → AreInSlabs ranges n → AreAscending ranges
are_ascending ranges n s a b i j before first second =
    let low = s.inside a i first in
    let high = s.inside b j second in
    let step = mul-le-mul_left n (next a b before) in
    omega (arith, low.1, high.0, step)
  where
    next : (a b : ℕ) → a < b → a + 1 ≤ b
    next a b h = omega (arith, h)
