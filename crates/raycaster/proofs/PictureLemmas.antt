-- Pictures: their rows, and those of maps that agree on the active blocks.
use Rattle.std.proofs.Common.{◌≡◌, ℕ, zero, suc, ◌+◌, ◌<◌, ◌≤◌, List, [], ◌∷◌, ◌++◌, map, refl, sym, ap, ◌∙◌, append-nil, zero-add, arith}
use Rattle.std.specs.Prelude.{ℤ, pos, ◌≤ℤ◌, ◌<ℤ◌, unsigned_abs}
use Rattle.std.specs.FinMap.{FinMap}
use Rattle.std.specs.List.{flat_map, range_with_len}
use Rattle.std.proofs.lemmas.Grind.{flat_map-append}
use Rattle.std.proofs.lemmas.Int.{ints}
use Rattle.std.proofs.lemmas.List.Folds.{flat_map-map}
use Rattle.std.proofs.lemmas.List.FromFn.{map-range_with_len_more}
use Rattle.fixed_geom.specs.Poses.{Pose, IsPose}
use Rattle.voxel_block.specs.declared.voxel.Voxel.{Voxel}
use Rattle.voxel_block.specs.Keys.{key_cmp}
use Rattle.depth_frame.specs.DepthMaps.{depth_map_of}
use Rattle.camera.specs.declared.camera.CameraFields.{CameraFields}
use Rattle.camera.specs.Cameras.{IsCamera}
use Rattle.camera.specs.Grid.{block_of_voxel, index_of_voxel}
use Rattle.camera.specs.Values.{value_in}
use Rattle.raycaster.specs.Laws.{AgreeOnActive}
use Rattle.ray_walk.specs.Points.{point_count, point_depth, voxel_at}
use Rattle.ray_walk.proofs.PointLemmas.{point_is_active}
use Rattle.raycaster.specs.Walk.{hit, picture, point_value, row_samples, sample, sample_at, scene_of, walk_points}

-- ---- lists over the first numbers

map_same : {X : Type 0} (f g : ℕ → X) (a n : ℕ) → ((i : ℕ) → a ≤ i → i < a + n → f i ≡ g i) → map f (range_with_len a n) ≡ map g (range_with_len a n)
map_same f g a zero h = refl
map_same f g a (suc n) h = λ x. h a (omega arith) (omega arith) x ∷ map_same f g (a + 1) n (λ i low high. h i (omega arith) (omega arith)) x

flat_map_same : {X : Type 0} (f g : ℕ → List X) (a n : ℕ) → ((i : ℕ) → a ≤ i → i < a + n → f i ≡ g i) → flat_map f (range_with_len a n) ≡ flat_map g (range_with_len a n)
flat_map_same f g a zero h = refl
flat_map_same f g a (suc n) h = λ x. h a (omega arith) (omega arith) x ++ flat_map_same f g (a + 1) n (λ i low high. h i (omega arith) (omega arith)) x

-- the lists of one number more
pub one_more_row : {X : Type 0} (f : ℕ → List X) (n : ℕ) → flat_map f (range_with_len 0 (n + 1)) ≡ flat_map f (range_with_len 0 n) ++ f n
one_more_row f n =
    sym (flat_map-map f (λ i. i) (range_with_len 0 (n + 1))) ∙ ap (flat_map f) (map-range_with_len_more (λ i. i) 0 n n (zero-add n)) ∙ flat_map-append f (map (λ i. i) (range_with_len 0 n)) (n ∷ [])
    ∙ (λ x. flat_map-map f (λ i. i) (range_with_len 0 n) x ++ append-nil (f n) x)

side : (w : ℤ) (u : ℕ) → pos 1 ≤ℤ w → u < unsigned_abs w → pos u <ℤ w
side w u h low = omega (arith, ints)

-- ---- the parts of two pictures

module _ (k : CameraFields) (m : Pose) (a b : FinMap key_cmp (List Voxel)) (o : IsCamera k) (w : IsPose m) (same : AgreeOnActive k m a b) where
  value_same : (u v j : ℕ) → pos u <ℤ k.width → pos v <ℤ k.height → j < point_count k → point_value (scene_of k m a) u v j ≡ point_value (scene_of k m b) u v j
  value_same u v j uw vh low =
      let x = voxel_at k m u v (point_depth k j) in
      ap (λ block. value_in block (index_of_voxel x)) (same.same (block_of_voxel x) (point_is_active k m u v j o w uw vh low).0)

  walk_same : (u v : ℕ) → pos u <ℤ k.width → pos v <ℤ k.height → walk_points (scene_of k m a) u v ≡ walk_points (scene_of k m b) u v
  unfolding walk_points
  walk_same u v uw vh = map_same (point_value (scene_of k m a) u v) (point_value (scene_of k m b) u v) 0 (point_count k) (λ j from low. value_same u v j uw vh (omega arith))

  sample_same : (u v : ℕ) → pos u <ℤ k.width → pos v <ℤ k.height → sample (scene_of k m a) u v ≡ sample (scene_of k m b) u v
  sample_same u v uw vh = ap (λ points. sample_at k points (hit points)) (walk_same u v uw vh)

  row_same : (v : ℕ) → pos v <ℤ k.height → row_samples (scene_of k m a) v ≡ row_samples (scene_of k m b) v
  unfolding row_samples
  row_same v vh = map_same (λ u. sample (scene_of k m a) u v) (λ u. sample (scene_of k m b) u v) 0 (unsigned_abs k.width) (λ u from low. sample_same u v (side k.width u o.ranges.width (omega arith)) vh)

  pub picture_same : picture (scene_of k m a) ≡ picture (scene_of k m b)
  picture_same =
      ap (depth_map_of (unsigned_abs k.width) (unsigned_abs k.height))
      (flat_map_same (row_samples (scene_of k m a)) (row_samples (scene_of k m b)) 0 (unsigned_abs k.height) (λ v from low. row_same v (side k.height v o.ranges.height (omega arith))))
