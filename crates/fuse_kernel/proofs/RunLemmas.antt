-- The signed distance of a voxel, and a loop over the voxels of a block.
use Rattle.std.proofs.Common.{◌≡◌, ℕ, zero, suc, ◌+◌, ◌*◌, cond, rules, refl, sym, ◌∙◌, ap, subst, arith, List, [], ◌∷◌, ◌++◌, length, map, set, take, drop}
use Rattle.std.specs.Prelude.{ℤ, pos, neg_ℤ, ◌-ℤ◌, ◌≤ℤ◌, ◌<ℤ◌, int_le, false, Option, None, Some, option_and_then, slice_get, slice_index}
use Rattle.std.specs.List.{enumerate_from}
use Rattle.std.specs.Option.{unwrap_or}
use Rattle.std.proofs.lemmas.Int.{ints, to_z-of_z}
use mir.Val.{SFits}
use mir.Syntax.{w64}
use Rattle.fixed_geom.specs.declared.vector.Vec3.{Vec3}
use Rattle.fixed_geom.specs.Poses.{Pose, cam}
use Rattle.fixed_geom.specs.Vectors.{IsWithin}
use Rattle.voxel_block.specs.declared.key.BlockKey.{BlockKey}
use Rattle.voxel_block.specs.declared.voxel.Voxel.{Voxel}
use Rattle.voxel_block.proofs.Blocks.{IsChangedTo, changed_more}
use Rattle.camera.specs.declared.camera.CameraFields.{CameraFields}
use Rattle.camera.specs.Cameras.{depth_of, project}
use Rattle.camera.specs.Grid.{point_of}
use Rattle.camera.proofs.Readings.{read}
use Rattle.depth_frame.specs.DepthMaps.{DepthMap, sample_at}
use Rattle.depth_view.specs.Views.{View, FitsImage, depth_at, listed_depth, no_depth, view_of}
use Rattle.fuse_kernel.specs.Updates.{averaged, signed_distance, signed_distance_of, update, update_by}
use Rattle.fuse_kernel.specs.VoxelSteps.{updated_to}
use Rattle.fuse_kernel.proofs.Machine.{plain_read}
use Rattle.fuse_kernel.proofs.UpdateLemmas.{mu_read}

-- ---- the signed distance

-- a point before the camera is more than mu behind what a pixel without a depth shows
behind_all : (mu z : ℤ) → mu ≤ℤ pos 1000000 → IsWithin (pos 67108864) z → int_le (neg_ℤ mu) (no_depth -ℤ z) ≡ false
behind_all mu z most w = int_le_false (neg_ℤ mu) (no_depth -ℤ z) (omega (arith, ints))
  where
    int_le_false : (a b : ℤ) → b <ℤ a → int_le a b ≡ false
    int_le_false a b h = search (rules, h)

-- so no flag is needed of a pixel that shows no depth
by_depth : (mu z : ℤ) (o : Option ℤ) → mu ≤ℤ pos 1000000 → IsWithin (pos 67108864) z → signed_distance mu z (unwrap_or o no_depth) ≡ option_and_then (λ d. signed_distance mu z d) o
by_depth mu z (Some d) most w = refl
by_depth mu z None most w = ap (λ b. cond b (Some (no_depth -ℤ z)) None) (behind_all mu z most w)

-- the width that the update has is that of a depth map which fits the image
width_is : (n m : ℕ) (w : ℤ) → pos n ≡ w → pos m ≡ w → n ≡ m
width_is n m w e f = omega (arith, ints)

-- the signed distance, by the listed depth of the pixel
pub signed_distance_found : (k : CameraFields) (m : Pose) (p : DepthMap) (c : Vec3) (u v i size : ℕ) (d mu : ℤ) (r : Option ℤ)
    → mu ≡ k.mu → pos 1 ≤ℤ mu → mu ≤ℤ pos 1000000 → IsWithin (pos 67108864) c.z → FitsImage k p → pos size ≡ k.width → ◌≡◌ {A = Option (ℕ × ℕ)} (Some (u, v)) (project k c) → i ≡ u + size * v
    → SFits w64 d → d ≡ listed_depth k (slice_index p.raw i) → r ≡ signed_distance (read mu) (read c.z) (read d) → r ≡ signed_distance_of (view_of k m p) c
signed_distance_found k m p c u v i size d mu r is least most zb fits width found at fd listed answer =
    let one : read mu ≡ k.mu = mu_read mu (record { low = omega (arith, ints); high = most }) ∙ is in
    let two : read c.z ≡ c.z = plain_read (pos 67108864) c.z (omega (arith, ints)) zb in
    let place : i ≡ u + p.width * v = at ∙ ap (λ n. u + n * v) (width_is size p.width k.width width fits.width) in
    let three : read d ≡ listed_depth k (sample_at p u v) = to_z-of_z w64 d fd ∙ listed ∙ ap (λ j. listed_depth k (slice_index p.raw j)) place in
    answer ∙ rw (one, two, three) refl ∙ by_depth k.mu c.z (depth_of k (sample_at p u v)) (subst (λ z. z ≤ℤ pos 1000000) is most) zb
    ∙ ap (λ (o : Option (ℕ × ℕ)). option_and_then (λ d. signed_distance k.mu c.z d) (option_and_then (λ q. depth_at (view_of k m p) q.0 q.1) o)) found

-- ---- one more of the first voxels

-- the update of a voxel by its index
abbrev at : View → ℕ → BlockKey → ℕ → Voxel → Voxel
at w n b i x = update w n (point_of w.camera.voxel b i) x

-- by its camera point and what was found there
update_at : (w : View) (n : ℕ) (p c : Vec3) (x : Voxel) (o : Option ℤ) → c ≡ cam w.pose p → o ≡ signed_distance_of w c → update w n p x ≡ update_by w.camera.mu n x o
update_at w n p c x o e found = sym (ap (λ (q : Vec3). update_by w.camera.mu n x (signed_distance_of w q)) e) ∙ sym (ap (update_by w.camera.mu n x) found)

-- a voxel that is met is averaged
pub met_more : (w : View) (n : ℕ) (b : BlockKey) (i : ℕ) (voxels ys zs : List Voxel) (x y : Voxel) (c : Vec3) (eta : ℤ) → c ≡ cam w.pose (point_of w.camera.voxel b i) → ys ≡ updated_to w n b i voxels
    → Some eta ≡ signed_distance_of w c → length ys ≡ 512 → slice_get ys i ≡ Some x → y ≡ averaged w.camera.mu n eta x → zs ≡ set ys i y → zs ≡ updated_to w n b (i + 1) voxels
met_more w n b i voxels ys zs x y c eta at_point was found long read value written =
    let h : IsChangedTo (at w n b) 512 voxels ys i = record { is = was; counted = λ _. long } in
    (changed_more (at w n b) 512 voxels ys zs i x y h read long (value ∙ sym (update_at w n (point_of w.camera.voxel b i) c x (Some eta) at_point found)) written).is

-- a rule that leaves the element of index i has changed one more of the first elements
left_more : {X : Type 0} (f : ℕ → X → X) (n i m : ℕ) (xs : List X) → m ≡ n + i → ((x : X) → f m x ≡ x) → map (λ p. f p.0 p.1) (enumerate_from n (take i xs)) ++ drop i xs ≡ map (λ p. f p.0 p.1) (enumerate_from n (take (suc i) xs)) ++ drop (suc i) xs
left_more f n zero m [] e same = refl
left_more f n (suc i) m [] e same = refl
left_more f n zero m (x ∷ xs) e same = let is : m ≡ n = omega arith in ap (λ y. y ∷ xs) (sym (subst (λ k. f k x ≡ x) is (same x)))
left_more f n (suc i) m (x ∷ xs) e same = ap (λ ys. f n x ∷ ys) (left_more f (n + 1) i m xs (omega arith) same)

-- and one that is not met stays
pub unmet_more : (w : View) (n : ℕ) (b : BlockKey) (i : ℕ) (voxels ys : List Voxel) (c : Vec3) → c ≡ cam w.pose (point_of w.camera.voxel b i) → ys ≡ updated_to w n b i voxels → None ≡ signed_distance_of w c → ys ≡ updated_to w n b (i + 1) voxels
unmet_more w n b i voxels ys c at_point was found =
    let next : suc i ≡ i + 1 = omega arith in
    was ∙ left_more (at w n b) 0 i i voxels (omega arith) (λ x. update_at w n (point_of w.camera.voxel b i) c x None at_point found) ∙ ap (λ (k : ℕ). updated_to w n b k voxels) next
