-- Laws of the words of keys.
use Rattle.std.proofs.Common.{◌≡◌, ◌≢◌, ℕ, ◌+◌, ◌-◌, ◌*◌, ◌/◌, ◌%◌, ◌^◌, ◌<◌, ◌≤◌, false, sym, ap, ◌∙◌, arith, inl, inr, subst, rules}
use Rattle.std.specs.Option.{IsSome}
use Rattle.std.specs.Prelude.{Some, None, Option, ◌==◌, ◌||◌, nat_lt, pos, ◌-ℤ◌}
use Rattle.std.proofs.lemmas.Bool.{cases_Bool, cond-true, cond-false, eqb-false, or_parts, ne_eqb, le-ltb, or_from}
use Rattle.std.proofs.lemmas.Int.{ints}
use Rattle.std.proofs.lemmas.Nat.{shr-shr}
use Rattle.voxel_block.specs.declared.key.BlockKey.{BlockKey}
use Rattle.voxel_block.specs.Words.{word_of, key_of, key_with, shifted_of}

unshifted : (x : ℕ) → shifted_of (pos x -ℤ pos 32768) ≡ x
unshifted x = omega (arith, ints)

parts : (w : ℕ) → 0 < w → 1 + (w - 1) / 2 ^ 32 * 2 ^ 32 + (w - 1) / 2 ^ 16 % 2 ^ 16 * 2 ^ 16 + (w - 1) % 2 ^ 16 ≡ w
parts w p = let e : (w - 1) / 2 ^ 16 / 2 ^ 16 ≡ (w - 1) / 2 ^ 32 = shr-shr (w - 1) 16 16 in omega arith

word_of-key_with : (x y z : ℕ) → word_of (key_with x y z) ≡ 1 + x * 2 ^ 32 + y * 2 ^ 16 + z
word_of-key_with x y z = let a = unshifted x in let b = unshifted y in let c = unshifted z in cc

-- the word of what a word was read as is that word
pub word_of_read : (w : ℕ) (k : BlockKey) → key_of w ≡ Some k → word_of k ≡ w
word_of_read w k h =
    elim (cases_Bool (w == 0 || nat_lt (2 ^ 48) w)) [
      | inl t ↦ (let e : ◌≡◌ None (Some k) = sym (cond-true (w == 0 || nat_lt (2 ^ 48) w) _ _ t) ∙ h in absurd (cc))
      | inr f ↦ (
          let at : BlockKey = key_with ((w - 1) / 2 ^ 32) ((w - 1) / 2 ^ 16 % 2 ^ 16) ((w - 1) % 2 ^ 16) in
          let e : Some at ≡ Some k = sym (cond-false (w == 0 || nat_lt (2 ^ 48) w) _ _ f) ∙ h in
          let one : at ≡ k = cc in
          let some : w ≢ 0 = eqb-false w 0 (or_parts (w == 0) (nat_lt (2 ^ 48) w) f).0 in
          sym (ap word_of one) ∙ word_of-key_with ((w - 1) / 2 ^ 32) ((w - 1) / 2 ^ 16 % 2 ^ 16) ((w - 1) % 2 ^ 16) ∙ parts w (omega arith))
    ]

-- a word that is neither 0 nor above 2 ^ 48 is a key's
pub is_key_word : (w : ℕ) → 0 < w → w ≤ 2 ^ 48 → IsSome (key_of w)
is_key_word w p q =
    let a : (w == 0) ≡ false = ne_eqb w 0 (λ z. absurd (omega arith)) in
    let b : nat_lt (2 ^ 48) w ≡ false = le-ltb (2 ^ 48) w q in
    let at : BlockKey = key_with ((w - 1) / 2 ^ 32) ((w - 1) / 2 ^ 16 % 2 ^ 16) ((w - 1) % 2 ^ 16) in
    let e : key_of w ≡ Some at = cond-false (w == 0 || nat_lt (2 ^ 48) w) _ _ (or_from (w == 0) (nat_lt (2 ^ 48) w) a b) in
    let P : Option BlockKey → Type 0 = IsSome in
    let yes : IsSome (Some at) = search rules in
    subst P (sym e) yes
