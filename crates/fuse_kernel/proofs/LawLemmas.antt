-- What a frame meets, and what it leaves.
use Rattle.std.proofs.Common.{◌≡◌, ℕ, ◌<◌, ◌≤◌, refl, sym, ◌∙◌, ap, subst, arith, List, length}
use Rattle.std.specs.Prelude.{ℤ, pos, neg_ℤ, ◌+ℤ◌, ◌-ℤ◌, ◌*ℤ◌, ◌==◌, ◌≤ℤ◌, Bool, true, false, IsTrue, int_le, cond, Option, Some, None, option_and_then}
use Rattle.std.proofs.lemmas.Int.{ints}
use Rattle.std.proofs.lemmas.Option.{slice_get_within}
use Rattle.fixed_geom.specs.declared.vector.Vec3.{Vec3}
use Rattle.fixed_geom.specs.Poses.{cam}
use Rattle.voxel_block.specs.declared.key.BlockKey.{BlockKey}
use Rattle.voxel_block.specs.declared.voxel.Voxel.{Voxel}
use Rattle.voxel_block.proofs.Blocks.{All-by_index, by_index-unchanged}
use Rattle.camera.specs.declared.camera.CameraFields.{CameraFields}
use Rattle.camera.specs.Cameras.{depth_of, is_active, project, valid_depth, within}
use Rattle.camera.specs.Grid.{point_of}
use Rattle.camera.specs.Visibility.{IsMetAt, MeetsNone, is_visible}
use Rattle.camera.proofs.Active.{met_is_active, inactive_meets_none}
use Rattle.camera.proofs.Inside.{met_by_pixel}
use Rattle.camera.proofs.RangeLemmas.{at_most, between}
use Rattle.camera.proofs.Visible.{invisible_meets_none}
use Rattle.depth_frame.specs.DepthMaps.{sample_at}
use Rattle.depth_view.specs.Views.{View, IsView, depth_at}
use Rattle.fuse_kernel.specs.Updates.{HasWeightsWithin, Meets, averaged, shown_depth, signed_distance, signed_distance_of, update, update_by, updated}
use Rattle.fuse_kernel.proofs.UpdateLemmas.{le_says}

-- a voxel that a frame meets is averaged
pub met_is_averaged : (w : View) (n : ℕ) (p : Vec3) (x : Voxel) → (m : Meets w p) → update w n p x ≡ averaged w.camera.mu n (m.d -ℤ (cam w.pose p).z) x
met_is_averaged w n p x m =
    let c = cam w.pose p in
    let eta = m.d -ℤ c.z in
    let e : int_le (neg_ℤ w.camera.mu) eta ≡ true = at_most (neg_ℤ w.camera.mu) eta m.near in
    ap (λ (o : Option ℤ). update_by w.camera.mu n x (option_and_then (λ d. signed_distance w.camera.mu c.z d) o)) m.depth ∙ ap (λ (b : Bool). update_by w.camera.mu n x (cond b (Some eta) None)) e

-- and every other one stays
pub unmet_stays : (w : View) (n : ℕ) (p : Vec3) (x : Voxel) → ¬ Meets w p → update w n p x ≡ x
unmet_stays w n p x unmet = by_depth (shown_depth w c) refl
  where
    c : Vec3
    c = cam w.pose p

    by_test : (d : ℤ) (b : Bool) → shown_depth w c ≡ Some d → int_le (neg_ℤ w.camera.mu) (d -ℤ c.z) ≡ b → update_by w.camera.mu n x (cond b (Some (d -ℤ c.z)) None) ≡ x
    by_test d true found e = absurd (unmet (record { d = d; depth = found; near = le_says _ _ e }))
    by_test d false found e = refl

    by_depth : (o : Option ℤ) → shown_depth w c ≡ o → update_by w.camera.mu n x (option_and_then (λ d. signed_distance w.camera.mu c.z d) o) ≡ x
    by_depth None found = refl
    by_depth (Some d) found = by_test d (int_le (neg_ℤ w.camera.mu) (d -ℤ c.z)) found refl

-- the pixel that shows a depth
shown_by : (w : View) (c : Vec3) (o : Option (ℕ × ℕ)) (d : ℤ) → project w.camera c ≡ o → option_and_then (λ (q : ℕ × ℕ). depth_at w q.0 q.1) o ≡ Some d → (q : ℕ × ℕ) × (project w.camera c ≡ Some q) × (depth_at w q.0 q.1 ≡ Some d)
shown_by w c None d e f = absurd (let g : ◌≡◌ {A = Option ℤ} None (Some d) = f in cc)
shown_by w c (Some q) d e f = (q, e, f)

-- a depth that a pixel shows is at most the greatest one
pub shown_within : (k : CameraFields) (raw : ℕ) (d : ℤ) → depth_of k raw ≡ Some d → d ≤ℤ k.far
shown_within k raw d e = by_zero (raw == 0) e
  where
    some_is : (x y : ℤ) → ◌≡◌ {A = Option ℤ} (Some x) (Some y) → x ≡ y
    some_is x y e = cc

    by_valid : (b : Bool) (x : ℤ) → within k.near k.far x ≡ b → cond b (Some x) None ≡ Some d → d ≤ℤ k.far
    by_valid true x t e = subst (λ (z : ℤ). z ≤ℤ k.far) (some_is x d e) (between k.near k.far x t).1
    by_valid false x t e = absurd (let g : ◌≡◌ {A = Option ℤ} None (Some d) = e in cc)

    by_zero : (b : Bool) → cond b None (valid_depth k (pos raw *ℤ k.unit)) ≡ Some d → d ≤ℤ k.far
    by_zero true e = absurd (let g : ◌≡◌ {A = Option ℤ} None (Some d) = e in cc)
    by_zero false e = by_valid (within k.near k.far (pos raw *ℤ k.unit)) (pos raw *ℤ k.unit) refl e

-- what a frame meets projects inside the image at a depth that it may touch
pub met_is_met : (w : View) (p : Vec3) → Meets w p → IsMetAt w.camera (cam w.pose p)
met_is_met w p m =
    let c = cam w.pose p in
    let found = shown_by w c (project w.camera c) m.d refl m.depth in
    met_by_pixel w.camera c found.0 found.1 (deep w.camera.far w.camera.mu m.d c.z (shown_within w.camera (sample_at w.depths found.0.0 found.0.1) m.d found.2) m.near)
  where
    deep : (far mu d z : ℤ) → d ≤ℤ far → (neg_ℤ mu) ≤ℤ (d -ℤ z) → z ≤ℤ (far +ℤ mu)
    deep far mu d z h k = omega (arith, ints)

pub invisible_is_not_met : (w : View) (b : BlockKey) (i : ℕ) → IsView w → i < 512 → is_visible w.camera w.pose b ≡ false → ¬ Meets w (point_of w.camera.voxel b i)
invisible_is_not_met w b i o below hidden = λ m. invisible_meets_none w.camera w.pose b o.camera.ranges o.pose.range hidden i below (met_is_met w (point_of w.camera.voxel b i) m)

pub inactive_is_not_met : (w : View) (b : BlockKey) (i : ℕ) → IsView w → i < 512 → is_active w.camera w.pose b ≡ false → ¬ Meets w (point_of w.camera.voxel b i)
inactive_is_not_met w b i o below inactive = λ m. inactive_meets_none w.camera w.pose b o.camera.ranges o.camera.sphere o.pose.range inactive i below (met_is_met w (point_of w.camera.voxel b i) m)

pub active_by_met : (w : View) (b : BlockKey) (i : ℕ) → IsView w → i < 512 → Meets w (point_of w.camera.voxel b i) → IsTrue (is_active w.camera w.pose b)
active_by_met w b i o below m = met_is_active w.camera w.pose b i o.camera.ranges o.camera.sphere o.pose.range below (met_is_met w (point_of w.camera.voxel b i) m)

-- a block of which no voxel is met stays
pub none_met_stays : (w : View) (n : ℕ) (b : BlockKey) (voxels : List Voxel) → length voxels ≡ 512 → ((i : ℕ) → i < 512 → ¬ Meets w (point_of w.camera.voxel b i)) → updated w n b voxels ≡ voxels
none_met_stays w n b voxels long none = by_index-unchanged (λ i x. update w n (point_of w.camera.voxel b i) x) voxels (λ i x is. unmet_stays w n (point_of w.camera.voxel b i) x (none i (omega (arith, long, slice_get_within voxels i x is))))

-- the same, by the clause of the culling test
pub meets_none_stays : (w : View) (n : ℕ) (b : BlockKey) (voxels : List Voxel) → length voxels ≡ 512 → MeetsNone w.camera w.pose b → voxels ≡ updated w n b voxels
meets_none_stays w n b voxels long none = sym (none_met_stays w n b voxels long (λ i below m. none i below (met_is_met w (point_of w.camera.voxel b i) m)))

pub invisible_stays : (w : View) (n : ℕ) (b : BlockKey) (voxels : List Voxel) → IsView w → length voxels ≡ 512 → is_visible w.camera w.pose b ≡ false → updated w n b voxels ≡ voxels
invisible_stays w n b voxels o long hidden = none_met_stays w n b voxels long (λ i below. invisible_is_not_met w b i o below hidden)

pub inactive_stays : (w : View) (n : ℕ) (b : BlockKey) (voxels : List Voxel) → IsView w → length voxels ≡ 512 → is_active w.camera w.pose b ≡ false → updated w n b voxels ≡ voxels
inactive_stays w n b voxels o long inactive = none_met_stays w n b voxels long (λ i below. inactive_is_not_met w b i o below inactive)

-- ---- weights

-- a voxel that weighs at most n does so after an update
update_bounded : (mu : ℤ) (n : ℕ) (x : Voxel) → x.w ≤ n → (o : Option ℤ) → (update_by mu n x o).w ≤ n
update_bounded mu n x h None = h
update_bounded mu n x h (Some eta) = omega arith

pub weights_stay_bounded : (w : View) (n : ℕ) (b : BlockKey) (voxels : List Voxel) → HasWeightsWithin n voxels → HasWeightsWithin n (updated w n b voxels)
weights_stay_bounded w n b voxels all = All-by_index (λ i x. update w n (point_of w.camera.voxel b i) x) (λ x. x.w ≤ n) (λ i x h. update_bounded w.camera.mu n x h (signed_distance_of w (cam w.pose (point_of w.camera.voxel b i)))) voxels all
