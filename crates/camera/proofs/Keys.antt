-- Coordinates of blocks that fit 16 bits.
use Rattle.std.proofs.Common.{◌≡◌, Bool, true, refl, arith}
use Rattle.std.specs.Prelude.{ℤ, pos, neg_ℤ, ◌≤ℤ◌, ◌&&◌, IsTrue}
use Rattle.std.proofs.lemmas.Int.{ints}
use Rattle.voxel_block.specs.declared.key.BlockKey.{BlockKey}
use Rattle.camera.specs.Grid.{fits_key, is_key}
use Rattle.camera.proofs.RangeLemmas.{is_between}

three_hold : (a b c : Bool) → a ≡ true → b ≡ true → c ≡ true → IsTrue (a && b && c)
three_hold a b c e f g = rw (e, f, g) refl

fits : (z : ℤ) → (neg_ℤ (pos 18876)) ≤ℤ z → z ≤ℤ pos 18876 → fits_key z ≡ true
fits z low high = is_between (neg_ℤ (pos 32768)) (pos 32767) z (omega (arith, ints)) (omega (arith, ints))

-- a block with coordinates within 18876 has a key
pub key_holds : (b : BlockKey) → (neg_ℤ (pos 18876)) ≤ℤ b.x → b.x ≤ℤ pos 18876 → (neg_ℤ (pos 18876)) ≤ℤ b.y → b.y ≤ℤ pos 18876 → (neg_ℤ (pos 18876)) ≤ℤ b.z → b.z ≤ℤ pos 18876 → IsTrue (is_key b)
key_holds b xl xh yl yh zl zh = three_hold (fits_key b.x) (fits_key b.y) (fits_key b.z) (fits b.x xl xh) (fits b.y yl yh) (fits b.z zl zh)
