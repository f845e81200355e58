-- A map that gives each of its keys a value by a rule.
use Rattle.std.proofs.Common.{◌≡◌, true, false, cond, ◌||◌, List, [], ◌∷◌, map, refl, sym, ap, ◌∙◌}
use Rattle.std.specs.Prelude.{Option, Some, None, is_some, unwrap_or}
use Rattle.std.specs.Option.{option_map}
use Rattle.std.specs.List.{list_any}
use Rattle.std.specs.FinMap.{get, from_entries, find, get-from_entries, same_map}
use Rattle.voxel_block.specs.declared.key.BlockKey.{BlockKey}
use Rattle.voxel_block.specs.Keys.{key_cmp, same_key}
use Rattle.voxel_block.proofs.KeyLaws.{exact_keys, keys_total, same_key_is}

module _ {X : Type 0} where
  -- the entries that a rule gives to keys
  abbrev pub pairs_of : (BlockKey → X) → List BlockKey → List (BlockKey × X)
  pairs_of g ks = map (λ b. (b, g b)) ks

  find-pairs_of : (g : BlockKey → X) (ks : List BlockKey) (q : BlockKey) → find key_cmp q (pairs_of g ks) ≡ cond (list_any (same_key q) ks) (Some (g q)) None
  find-pairs_of g [] q = refl
  find-pairs_of g (b ∷ ks) q =
      elim (same_key q b) as (λ t. same_key q b ≡ t → cond t (Some (g b)) (find key_cmp q (pairs_of g ks)) ≡ cond (t || list_any (same_key q) ks) (Some (g q)) None) [
        | true ↦ λ e. ap (λ k. Some (g k)) (sym (same_key_is q b e))
        | false ↦ λ e. find-pairs_of g ks q
      ] refl

  pub get-pairs_of : (g : BlockKey → X) (ks : List BlockKey) (q : BlockKey) → get (from_entries {R = key_cmp} (pairs_of g ks)) q ≡ cond (list_any (same_key q) ks) (Some (g q)) None
  get-pairs_of g ks q = get-from_entries keys_total (pairs_of g ks) q ∙ find-pairs_of g ks q

  -- two maps by rules are one where they have the same keys, and the rules agree at each
  pub same_pairs : (g h : BlockKey → X) (ks ls : List BlockKey) → ((q : BlockKey) → list_any (same_key q) ks ≡ list_any (same_key q) ls) → ((q : BlockKey) → g q ≡ h q)
      → from_entries {R = key_cmp} (pairs_of g ks) ≡ from_entries (pairs_of h ls)
  same_pairs g h ks ls has is = same_map keys_total exact_keys _ _ (λ q. get-pairs_of g ks q ∙ (λ i. cond (has q i) (Some (is q i)) None) ∙ sym (get-pairs_of h ls q))

  pub by_default : (g : X → X) (d : X) (o : Option X) → option_map g o ≡ cond (is_some o) (Some (g (unwrap_or o d))) None
  by_default g d None = refl
  by_default g d (Some x) = refl
