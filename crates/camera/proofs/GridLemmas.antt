-- Points of the grid, as the machine reads their coordinates.
use Rattle.std.proofs.Common.{◌≡◌, ◌<◌, ℕ, refl, ◌∙◌, arith}
use Rattle.std.specs.Prelude.{ℤ, pos, negsuc, ◌+ℤ◌, ◌*ℤ◌}
use Rattle.std.proofs.lemmas.Int.{ints, to_z-of_z}
use mir.Val.{SFits, to_z, of_z}
use mir.Syntax.{w16, w64}
use Rattle.fixed_geom.specs.Vectors.{IsWithin}
use Rattle.fixed_geom.proofs.Dots.{within_product}
use Rattle.camera.proofs.Readings.{read, fits64, wider}

-- a number of 16 bits
within16 : (b : ℤ) → SFits w16 b → IsWithin (pos 32768) b
within16 (pos n) f = record { low = omega (arith, ints, f.sfits); high = omega (arith, ints, f.sfits) }
within16 (negsuc n) f = record { low = omega (arith, ints, f.sfits); high = omega (arith, ints, f.sfits) }

-- a voxel coordinate of a block that has a key
across : (b : ℤ) (place : ℕ) → IsWithin (pos 32768) b → place < 8 → IsWithin (pos 262151) (pos 8 *ℤ b +ℤ pos place)
across b place w below = record { low = omega (arith, ints); high = omega (arith, ints) }

far : (b : ℤ) (place : ℕ) (size : ℤ) → IsWithin (pos 32768) b → place < 8 → IsWithin (pos 100000) size → IsWithin (pos 26215100000) ((pos 8 *ℤ b +ℤ pos place) *ℤ size)
far b place size w below s = within_product (pos 262151) (pos 100000) (pos 8 *ℤ b +ℤ pos place) size (across b place w below) s

-- what the machine computes is the coordinate, and fits
sum : (f g b : ℤ) (place : ℕ) → IsWithin (pos 32768) b → place < 8 → f ≡ b → g ≡ pos place → read (read (pos 8 *ℤ read f) +ℤ read g) ≡ pos 8 *ℤ b +ℤ pos place
sum f g b place w below e h = omega (arith, ints)

size_read : (size : ℤ) → IsWithin (pos 100000) size → read size ≡ size
size_read size s = omega (arith, ints)

pub coordinate_is : (f g b : ℤ) (place : ℕ) (size : ℤ) → SFits w16 b → place < 8 → IsWithin (pos 100000) size → f ≡ to_z w16 (of_z w16 b) → g ≡ pos place
    → read (read (read (pos 8 *ℤ read f) +ℤ read g) *ℤ read size) ≡ (pos 8 *ℤ b +ℤ pos place) *ℤ size
coordinate_is f g b place size fits below s e h =
    let w = within16 b fits in
    rw (sum f g b place w below (e ∙ to_z-of_z w16 b fits) h, size_read size s) (plain ((pos 8 *ℤ b +ℤ pos place) *ℤ size) (far b place size w below s))
  where
    plain : (z : ℤ) → IsWithin (pos 26215100000) z → read z ≡ z
    plain z w = omega (arith, ints)

pub coordinate_fits : (f g b : ℤ) (place : ℕ) (size : ℤ) → SFits w16 b → place < 8 → IsWithin (pos 100000) size → f ≡ to_z w16 (of_z w16 b) → g ≡ pos place
    → SFits w64 (read (read (pos 8 *ℤ read f) +ℤ read g) *ℤ read size)
coordinate_fits f g b place size fits below s e h =
    let w = within16 b fits in
    rw (sum f g b place w below (e ∙ to_z-of_z w16 b fits) h, size_read size s) (fits64 _ (wider (pos 26215100000) (pos 1152921504606846976) _ (omega (arith, ints)) (far b place size w below s)))

pub coordinate_within : (r b : ℤ) (place : ℕ) (size : ℤ) → SFits w16 b → place < 8 → IsWithin (pos 100000) size → r ≡ (pos 8 *ℤ b +ℤ pos place) *ℤ size → IsWithin (pos 1099511627776) r
coordinate_within r b place size fits below s e = plain r ((pos 8 *ℤ b +ℤ pos place) *ℤ size) e (far b place size (within16 b fits) below s)
  where
    plain : (r z : ℤ) → r ≡ z → IsWithin (pos 26215100000) z → IsWithin (pos 1099511627776) r
    plain r z e w = record { low = omega (arith, ints); high = omega (arith, ints) }

-- a coordinate that was read
pub handed : (r b : ℤ) (place : ℕ) (size : ℤ) → IsWithin (pos 1099511627776) r → SFits w16 b → SFits w64 size → r ≡ (pos 8 *ℤ to_z w16 (of_z w16 b) +ℤ pos place) *ℤ read size → read r ≡ (pos 8 *ℤ b +ℤ pos place) *ℤ size
handed r b place size w fits sized e =
    let one : read r ≡ r = omega (arith, ints) in
    one ∙ e ∙ rw (to_z-of_z w16 b fits, to_z-of_z w64 size sized) refl

pub handed_within : (r : ℤ) → IsWithin (pos 1099511627776) r → IsWithin (pos 1099511627776) (read r)
handed_within r w = record { low = omega (arith, ints); high = omega (arith, ints) }

-- ---- the centre of a chunk

chunk_far : (b size : ℤ) → IsWithin (pos 32768) b → IsWithin (pos 100000) size → IsWithin (pos 209718400000) ((pos 64 *ℤ b +ℤ pos 32) *ℤ size)
chunk_far b size w s = within_product (pos 2097184) (pos 100000) (pos 64 *ℤ b +ℤ pos 32) size (chunk_across b w) s
  where
    chunk_across : (b : ℤ) → IsWithin (pos 32768) b → IsWithin (pos 2097184) (pos 64 *ℤ b +ℤ pos 32)
    chunk_across b w = record { low = omega (arith, ints); high = omega (arith, ints) }

pub chunk_coordinate_is : (f b size : ℤ) → SFits w16 b → IsWithin (pos 100000) size → f ≡ to_z w16 (of_z w16 b) → read (read (read (pos 64 *ℤ read f) +ℤ pos 32) *ℤ read size) ≡ (pos 64 *ℤ b +ℤ pos 32) *ℤ size
chunk_coordinate_is f b size fits s e =
    let w = within16 b fits in
    rw (chunk_sum f b w (e ∙ to_z-of_z w16 b fits), size_read size s) (plain ((pos 64 *ℤ b +ℤ pos 32) *ℤ size) (chunk_far b size w s))
  where
    chunk_sum : (f b : ℤ) → IsWithin (pos 32768) b → f ≡ b → read (read (pos 64 *ℤ read f) +ℤ pos 32) ≡ pos 64 *ℤ b +ℤ pos 32
    chunk_sum f b w e = omega (arith, ints)

    plain : (z : ℤ) → IsWithin (pos 209718400000) z → read z ≡ z
    plain z w = omega (arith, ints)

pub chunk_coordinate_within : (r b size : ℤ) → SFits w16 b → IsWithin (pos 100000) size → r ≡ (pos 64 *ℤ b +ℤ pos 32) *ℤ size → IsWithin (pos 1099511627776) r
chunk_coordinate_within r b size fits s e = plain r ((pos 64 *ℤ b +ℤ pos 32) *ℤ size) e (chunk_far b size (within16 b fits) s)
  where
    plain : (r z : ℤ) → r ≡ z → IsWithin (pos 209718400000) z → IsWithin (pos 1099511627776) r
    plain r z e w = record { low = omega (arith, ints); high = omega (arith, ints) }
