-- A key whose coordinates have 16 bits is that of its word.
use Rattle.std.proofs.Common.{◌≡◌, ◌≢◌, ℕ, ◌+◌, ◌-◌, ◌*◌, ◌/◌, ◌%◌, ◌^◌, ◌<◌, ◌≤◌, ℤ, false, refl, ◌∙◌, arith}
use Rattle.std.specs.Prelude.{Some, ◌==◌, ◌||◌, nat_lt}
use Rattle.std.proofs.Common.{w16}
use mir.Val.{SFits}
use Rattle.std.proofs.lemmas.Bool.{cond-false, le-ltb, ne_eqb, or_from}
use Rattle.std.proofs.lemmas.Int.{ints}
use Rattle.voxel_block.specs.declared.key.BlockKey.{BlockKey}
use Rattle.voxel_block.specs.Words.{key_of, key_with, shifted_of, word_of}
use Rattle.chunk_store.specs.Rows.{IsShort}

pub is_short : (a : ℤ) → SFits w16 a → IsShort a
is_short a fits = (let f = fits.sfits in record { low = omega (arith, ints); back = omega (arith, ints) })

parts : (w x y z : ℕ) → x < 2 ^ 16 → y < 2 ^ 16 → z < 2 ^ 16 → w ≡ 1 + x * 2 ^ 32 + y * 2 ^ 16 + z → ((w - 1) / 2 ^ 32 ≡ x) × ((w - 1) / 2 ^ 16 % 2 ^ 16 ≡ y) × ((w - 1) % 2 ^ 16 ≡ z) × (w ≢ 0) × (w ≤ 2 ^ 48)
parts w x y z hx hy hz e = (omega arith, omega arith, omega arith, omega arith, omega arith)

pub key_back : (k : BlockKey) → IsShort k.x → IsShort k.y → IsShort k.z → key_of (word_of k) ≡ Some k
key_back k x y z =
    let w = word_of k in
    let p = parts w (shifted_of k.x) (shifted_of k.y) (shifted_of k.z) x.low y.low z.low refl in
    let a : (w == 0) ≡ false = ne_eqb w 0 p.3 in
    let b : nat_lt (2 ^ 48) w ≡ false = le-ltb (2 ^ 48) w p.4 in
    let c : key_of w ≡ Some (key_with ((w - 1) / 2 ^ 32) ((w - 1) / 2 ^ 16 % 2 ^ 16) ((w - 1) % 2 ^ 16)) = cond-false (w == 0 || nat_lt (2 ^ 48) w) _ _ (or_from (w == 0) (nat_lt (2 ^ 48) w) a b) in
    c ∙ (λ i. Some (key_with (p.0 i) (p.1 i) (p.2 i))) ∙ (λ i. Some (record { x = x.back i; y = y.back i; z = z.back i }))
