-- The update of a voxel: the mean is within its bound, and a camera's numbers are read as they are.
use Rattle.std.proofs.Common.{◌≡◌, ℕ, sym, ap, subst, arith, rules}
use Rattle.std.specs.Prelude.{ℤ, pos, negsuc, neg_ℤ, ◌≤ℤ◌, true, int_le, unsigned_abs}
use Rattle.std.proofs.lemmas.Int.{ints}
use Rattle.fixed_geom.specs.Vectors.{IsWithin}
use Rattle.fixed_geom.proofs.Means.{mean_between}
use Rattle.camera.specs.declared.camera.CameraFields.{CameraFields}
use Rattle.camera.specs.Cameras.{HasRanges}
use Rattle.camera.proofs.Readings.{read}
use Rattle.fuse_kernel.specs.Updates.{mean}

-- ---- the mean

pub mean_within : (w : ℕ) (old new : ℤ) → IsWithin (pos 32767) old → IsWithin (pos 32767) new → IsWithin (pos 32767) (mean w old new)
mean_within w old new u v =
    let b = mean_between (pos w) old new (neg_ℤ (pos 32767)) (pos 32767) (omega (arith, ints)) u.low v.low u.high v.high in
    record { low = b.0; high = b.1 }

-- what a test of order says
pub le_says : (a b : ℤ) → int_le a b ≡ true → a ≤ℤ b
le_says a b t = search rules

-- ---- the voxel

-- the truncation distance
pub mu_read : (mu : ℤ) → IsWithin (pos 1000000) mu → read mu ≡ mu
mu_read mu w = omega (arith, ints)

pub mu_read_positive : (mu : ℤ) → IsWithin (pos 1000000) mu → pos 1 ≤ℤ mu → pos 1 ≤ℤ read mu
mu_read_positive mu w h = subst (λ (z : ℤ). pos 1 ≤ℤ z) (sym (mu_read mu w)) h

-- that of a camera
pub mu_positive : (k : CameraFields) → HasRanges k → pos 1 ≤ℤ k.mu
mu_positive k r = omega (arith, ints, r.voxel, r.mu)

pub mu_within : (k : CameraFields) → HasRanges k → IsWithin (pos 1000000) k.mu
mu_within k r = record { low = omega (arith, ints, r.voxel, r.mu); high = r.mu_high }

-- a number of pixels
pub size_read : (z : ℤ) → pos 1 ≤ℤ z → z ≤ℤ pos 2048 → pos (unsigned_abs (read z)) ≡ z
size_read (pos n) low high = let same : read (pos n) ≡ pos n = omega (arith, ints) in ap (λ z. pos (unsigned_abs z)) same
size_read (negsuc n) low high = absurd (omega (arith, ints))
