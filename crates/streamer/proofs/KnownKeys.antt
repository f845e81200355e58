-- The coordinates of known keys.
use Rattle.std.proofs.Common.{◌≡◌, ℕ, ◌-◌, ◌/◌, ◌%◌, ◌^◌, ◌<◌, ◌≤◌, true, false, ◌||◌, sym, subst, ◌∙◌, arith, inl, inr, ◌⊎◌}
use Rattle.std.specs.Prelude.{Some, None, ◌==◌, nat_lt, IsTrue}
use Rattle.std.specs.FinMap.{contains_key, get}
use Rattle.std.proofs.lemmas.Bool.{cases_Bool, cond-true, cond-false, ltb-false, or_cases, or_parts}
use Rattle.std.proofs.lemmas.Int.{ints}
use Rattle.voxel_block.specs.declared.key.BlockKey.{BlockKey}
use Rattle.voxel_block.specs.Packing.{IsKey}
use Rattle.voxel_block.specs.Words.{key_of, key_with}
use Rattle.spatial_hash.specs.Contents.{contents}
use Rattle.spatial_hash.specs.Table.{key_word}
use Rattle.spatial_hash.proofs.Maps.{has_get}
use Rattle.streamer.specs.Places.{IsPlaced, Places, blocks_of}
use Rattle.streamer.proofs.Blocks.{has-blocks}
use Rattle.streamer.proofs.Keyed.{some_of}

key_with_fits : (x y z : ℕ) → x < 65536 → y < 65536 → z < 65536 → IsKey (key_with x y z)
key_with_fits x y z a b c = record { x = omega (arith, ints); y = omega (arith, ints); z = omega (arith, ints) }

-- a key that was read from a word has coordinates of 16 bits
key_of_fits : (w : ℕ) (k : BlockKey) → key_of w ≡ Some k → IsKey k
key_of_fits w k h =
    elim (cases_Bool (w == 0 || nat_lt (2 ^ 48) w)) [
      | inl t ↦ (let e : ◌≡◌ None (Some k) = sym (cond-true (w == 0 || nat_lt (2 ^ 48) w) _ _ t) ∙ h in absurd (cc))
      | inr f ↦ (
          let at : BlockKey = key_with ((w - 1) / 2 ^ 32) ((w - 1) / 2 ^ 16 % 2 ^ 16) ((w - 1) % 2 ^ 16) in
          let e : Some at ≡ Some k = sym (cond-false (w == 0 || nat_lt (2 ^ 48) w) _ _ f) ∙ h in
          let one : at ≡ k = cc in
          let high : nat_lt (2 ^ 48) w ≡ false = (or_parts (w == 0) (nat_lt (2 ^ 48) w) f).1 in
          let most : w ≤ 2 ^ 48 = ltb-false (2 ^ 48) w high in
          subst IsKey one (key_with_fits ((w - 1) / 2 ^ 32) ((w - 1) / 2 ^ 16 % 2 ^ 16) ((w - 1) % 2 ^ 16) (omega arith) (omega arith) (omega arith)))
    ]

-- the coordinates of a known key have 16 bits each
pub known_fits : (p : Places) (b : BlockKey) → IsPlaced p → IsTrue (contains_key (blocks_of p) b) → IsKey b
known_fits p b placed known = by (or_cases (contains_key (contents p.table) b) (contains_key p.store.contents b) (sym (has-blocks p b) ∙ known))
  where
    by : (contains_key (contents p.table) b ≡ true) ⊎ (contains_key p.store.contents b ≡ true) → IsKey b
    by (inl resident) =
        let cell = some_of (get (contents p.table) b) resident in
        let at = has_get p.table b cell.0 cell.1 in
        key_of_fits (key_word p.table at.at) b at.key
    by (inr stored) =
        let form = some_of (get p.store.contents b) stored in
        (placed.packed b form.0 form.1).key
