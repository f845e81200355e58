-- The list of a band's blocks has the set's blocks, and each of them is active.
use Rattle.std.proofs.Common.{◌≡◌, ℕ, zero, suc, ◌+◌, ◌<◌, ◌≤◌, List, ◌++◌, map, refl, sym, subst, ◌∙◌, inl, inr, ◌⊎◌, zero-add, arith}
use Rattle.std.specs.Prelude.{ℤ, pos, ◌+ℤ◌, ◌-ℤ◌, ◌≤ℤ◌, Option, Some, None, Contains, IsTrue}
use Rattle.std.specs.Int.{int_max}
use Rattle.std.specs.List.{range_with_len, flat_map}
use Rattle.std.proofs.lemmas.Int.{ints, clamps}
use Rattle.std.proofs.lemmas.List.Elements.{Contains-append_left, Contains-append_right, Contains-append_cases}
use Rattle.std.proofs.lemmas.List.FromFn.{length-map-range_with_len, get_or-map-range_with_len}
use Rattle.std.proofs.lemmas.Bool.{cases_lt}
use Rattle.depth_frame.specs.DepthMaps.{sample_at}
use Rattle.voxel_block.specs.declared.key.BlockKey.{BlockKey}
use Rattle.band_walk.specs.Bands.{IsInBand, band, row_blocks, row_keys, pixel_blocks, blocks_round, segment_point, segment_start, segment_end, steps_of}
use Rattle.depth_view.specs.Views.{View, IsView, depth_at}
use Rattle.camera.specs.Grid.{block_at}
use Rattle.band_walk.proofs.WalkLemmas.{flat_map_one_more}
use Rattle.camera.proofs.RayLemmas.{is_shown, column_inside}
use Rattle.camera.specs.Cameras.{is_active}
use Rattle.camera.specs.Grid.{is_key}
use Rattle.camera.specs.Visibility.{IsInReach, IsNearBlock, IsPiercedAt}
use Rattle.camera.proofs.Band.{sample_is_pierced, band_is_active, band_is_in_reach, band_is_near, near_has_key}
use Rattle.camera.proofs.RayBack.{pixel_of}
use Rattle.band_walk.proofs.Keys.{kept, was_there}

-- ---- lists over the first indices

-- what the lists of the first indices have
pub from_lists : {A : Type 0} (f : ℕ → List A) (n : ℕ) (y : A) → Contains (flat_map f (range_with_len 0 n)) y → (k : ℕ) × (k < n) × Contains (f k) y
from_lists f zero y c = absurd (omega (arith, c.1))
from_lists f (suc n) y c = by (from_lists f n y) (Contains-append_cases (flat_map f (range_with_len 0 n)) (f n) y (subst (λ xs. Contains xs y) (flat_map_one_more f n) c))
  where
    by : (Contains (flat_map f (range_with_len 0 n)) y → (k : ℕ) × (k < n) × Contains (f k) y) → Contains (flat_map f (range_with_len 0 n)) y ⊎ Contains (f n) y → (k : ℕ) × (k < suc n) × Contains (f k) y
    by before (inl a) = let r = before a in (r.0, omega (arith, r.1), r.2)
    by before (inr a) = (n, omega arith, a)

pub to_lists : {A : Type 0} (f : ℕ → List A) (n k : ℕ) (y : A) → k < n → Contains (f k) y → Contains (flat_map f (range_with_len 0 n)) y
to_lists f zero k y h c = absurd (omega arith)
to_lists f (suc n) k y h c = subst (λ xs. Contains xs y) (sym (flat_map_one_more f n)) (by (λ l. to_lists f n k y l c) (cases_lt k n))
  where
    by : (k < n → Contains (flat_map f (range_with_len 0 n)) y) → (k < n) ⊎ (n ≤ k) → Contains (flat_map f (range_with_len 0 n) ++ f n) y
    by before (inl l) = Contains-append_left (flat_map f (range_with_len 0 n)) (f n) y (before l)
    by before (inr g) =
        let last : k ≡ n = omega arith in
        Contains-append_right (flat_map f (range_with_len 0 n)) (f n) y (subst (λ i. Contains (f i) y) last c)

-- what the values at the first indices are
pub from_values : {A : Type 0} (f : ℕ → A) (n : ℕ) (y : A) → Contains (map f (range_with_len 0 n)) y → (k : ℕ) × (k < n) × (y ≡ f k)
from_values f n y c =
    let h : c.0 < n = subst (λ m. c.0 < m) (length-map-range_with_len f 0 n) c.1 in
    (c.0, h, sym c.2 ∙ get_or-map-range_with_len f 0 n c.0 c.0 y h (zero-add c.0))

pub to_values : {A : Type 0} (f : ℕ → A) (n k : ℕ) (y : A) → k < n → y ≡ f k → Contains (map f (range_with_len 0 n)) y
to_values f n k y h e = (k, subst (λ m. k < m) (sym (length-map-range_with_len f 0 n)) h, get_or-map-range_with_len f 0 n k k y h (zero-add k) ∙ sym e)

-- ---- the band

-- the blocks of the samples of a segment
block_of : View → (u v : ℕ) → (d : ℤ) → (j : ℕ) → BlockKey
block_of w u v d j = block_at w.camera.voxel (segment_point (segment_start w u v d) (segment_end w u v d) (steps_of w.camera.voxel (segment_start w u v d) (segment_end w u v d)) j)

-- a block of a pixel is one of the band
from_pixel : (w : View) (u v : ℕ) (b : BlockKey) → u < w.depths.width → v < w.depths.height → (o : Option ℤ) → depth_at w u v ≡ o → Contains (blocks_round w u v o) b → IsInBand w b
unfolding block_of
from_pixel w u v b uw vh None e c = absurd (omega (arith, c.1))
from_pixel w u v b uw vh (Some d) e c =
    let steps = steps_of w.camera.voxel (segment_start w u v d) (segment_end w u v d) in
    let r = from_values (block_of w u v d) (steps + 1) b c in
    record { u = u; v = v; u_inside = uw; v_inside = vh; d = d; depth = e; j = r.0; sample = omega (arith, r.1); is = r.2 }

pub from_band : (w : View) (b : BlockKey) → Contains (band w) b → IsInBand w b
from_band w b c =
    let row = from_lists (row_blocks w) w.depths.height b c in
    let pixel = from_lists (λ u. pixel_blocks w u row.0) w.depths.width b row.2 in
    from_pixel w pixel.0 row.0 b pixel.1 row.1 (depth_at w pixel.0 row.0) refl pixel.2

pub to_band : (w : View) (b : BlockKey) → IsInBand w b → Contains (band w) b
unfolding block_of
to_band w b i =
    let steps = steps_of w.camera.voxel (segment_start w i.u i.v i.d) (segment_end w i.u i.v i.d) in
    let sample : Contains (blocks_round w i.u i.v (Some i.d)) b = to_values (block_of w i.u i.v i.d) (steps + 1) i.j b (omega (arith, i.sample)) i.is in
    let pixel : Contains (pixel_blocks w i.u i.v) b = subst (λ o. Contains (blocks_round w i.u i.v o) b) (sym i.depth) sample in
    to_lists (row_blocks w) w.depths.height i.v b i.v_inside (to_lists (λ u. pixel_blocks w u i.v) w.depths.width i.u b i.u_inside pixel)

-- ---- without repeats

pub from_rows : (w : View) (b : BlockKey) → Contains (flat_map (row_keys w) (range_with_len 0 w.depths.height)) b → IsInBand w b
from_rows w b c =
    let row = from_lists (row_keys w) w.depths.height b c in
    from_band w b (to_lists (row_blocks w) w.depths.height row.0 b row.1 (was_there (row_blocks w row.0) b row.2))

pub to_rows : (w : View) (b : BlockKey) → IsInBand w b → Contains (flat_map (row_keys w) (range_with_len 0 w.depths.height)) b
to_rows w b i =
    let row = from_lists (row_blocks w) w.depths.height b (to_band w b i) in
    to_lists (row_keys w) w.depths.height row.0 b row.1 (kept (row_blocks w row.0) b row.2)

-- ---- activity

-- the depths where a segment begins and ends
starts : (mu far voxel d : ℤ) → pos 1000 ≤ℤ voxel → voxel ≤ℤ mu → pos 1 ≤ℤ d → d ≤ℤ far → (pos 1 ≤ℤ int_max (pos 1) (d -ℤ mu)) × (int_max (pos 1) (d -ℤ mu) ≤ℤ (far +ℤ mu))
starts mu far voxel d a b c e = (omega (arith, ints, clamps), omega (arith, ints, clamps))

ends : (mu far voxel d : ℤ) → pos 1000 ≤ℤ voxel → voxel ≤ℤ mu → pos 1 ≤ℤ d → d ≤ℤ far → (pos 1 ≤ℤ (d +ℤ mu)) × ((d +ℤ mu) ≤ℤ (far +ℤ mu))
ends mu far voxel d a b c e = (omega (arith, ints), omega (arith, ints))

-- a block of the band is active, its coordinates fit 16 bits, and it begins within 2^30 of the origin on each axis
pub band_block_is_active : (w : View) (b : BlockKey) → IsView w → IsInBand w b → IsTrue (is_active w.camera w.pose b) × IsTrue (is_key b) × IsNearBlock b × IsInReach w.camera.voxel b
band_block_is_active w b is i =
    let k = w.camera in
    let r = is.camera.ranges in
    let a = segment_start w i.u i.v i.d in
    let e = segment_end w i.u i.v i.d in
    let n = steps_of k.voxel a e in
    let s = is_shown k (sample_at w.depths i.u i.v) i.d r i.depth in
    let first = starts k.mu k.far k.voxel i.d r.voxel r.mu s.near s.far in
    let last = ends k.mu k.far k.voxel i.d r.voxel r.mu s.near s.far in
    let pixel = pixel_of k i.u i.v (column_inside i.u w.depths.width k.width is.fits.width i.u_inside) (column_inside i.v w.depths.height k.height is.fits.height i.v_inside) in
    let at : IsPiercedAt k.voxel (pos i.j) (pos n) a e b = subst (IsPiercedAt k.voxel (pos i.j) (pos n) a e) (sym i.is) (sample_is_pierced k.voxel (pos i.j) (pos n) a e (size k.voxel r.voxel) (low i.j) (high i.j n i.sample) (some n (omega arith))) in
    let y = int_max (pos 1) (i.d -ℤ k.mu) in
    let z = i.d +ℤ k.mu in
    let near = band_is_near k w.pose (pos i.u) (pos i.v) y z (pos i.j) (pos n) b r is.camera.reach is.pose.range pixel first.0 first.1 last.0 last.1 at in (
      band_is_active k w.pose (pos i.u) (pos i.v) y z (pos i.j) (pos n) b r is.camera.sphere is.pose pixel first.0 first.1 last.0 last.1 at,
      near_has_key b near,
      near,
      band_is_in_reach k w.pose (pos i.u) (pos i.v) y z (pos i.j) (pos n) b r is.camera.reach is.pose.range pixel first.0 first.1 last.0 last.1 at,
    )
  where
    size : (s : ℤ) → pos 1000 ≤ℤ s → pos 1 ≤ℤ s
    size s h = omega (arith, ints)

    low : (j : ℕ) → pos 0 ≤ℤ pos j
    low j = omega (arith, ints)

    high : (j n : ℕ) → j ≤ n → pos j ≤ℤ pos n
    high j n h = omega (arith, ints)

    some : (n : ℕ) → 1 ≤ n → pos 1 ≤ℤ pos n
    some n h = omega (arith, ints)
