-- The entries of a map by its keys.
use Rattle.std.proofs.Common.{◌≡◌, T, true, false, cond, ◌&&◌, List, [], ◌∷◌, map, refl, sym, ap, subst, ◌∙◌}
use Rattle.std.specs.Prelude.{Option, Some, None, is_some}
use Rattle.std.specs.Ordering.{is_lt}
use Rattle.std.specs.FinMap.{FinMap, get, keys, entries, entries_sorted, contains_key-keys, find, from_entries, is_sorted, same_map, get-entries, get-from_entries}
use Rattle.std.specs.FinMap.Entries.{below_all}
use Rattle.voxel_block.specs.declared.key.BlockKey.{BlockKey}
use Rattle.voxel_block.specs.Keys.{key_cmp, same_key}
use Rattle.voxel_block.proofs.KeyLaws.{exact_keys, keys_total}
use Rattle.fusion_core.proofs.MapLemmas.{pairs_of, get-pairs_of}
use Rattle.fusion_core.proofs.FuseLemmas.{sorted_pairs, entries_of_sorted}

-- ---- entries by keys

module _ {X : Type 0} where
  abbrev pub marked : List (BlockKey × X) → List (BlockKey × Option X)
  marked es = map (λ e. (e.0, Some e.1)) es

  below_marked : (x : BlockKey) (es : List (BlockKey × X)) → below_all key_cmp x (marked es) ≡ below_all key_cmp x es
  below_marked x [] = refl
  below_marked x (e ∷ es) = ap (λ t. is_lt (key_cmp x e.0) && t) (below_marked x es)

  sorted_marked : (es : List (BlockKey × X)) → is_sorted key_cmp (marked es) ≡ is_sorted key_cmp es
  sorted_marked [] = refl
  sorted_marked (e ∷ es) = λ i. below_marked e.0 es i && sorted_marked es i

  find_marked : (es : List (BlockKey × X)) (q : BlockKey) → find key_cmp q (marked es) ≡ cond (is_some (find key_cmp q es)) (Some (find key_cmp q es)) None
  find_marked [] q = refl
  find_marked (e ∷ es) q = elim (same_key q e.0) as (λ t. cond t (Some (Some e.1)) (find key_cmp q (map (λ e. (e.0, Some e.1)) es)) ≡ cond (is_some (cond t (Some e.1) (find key_cmp q es))) (Some (cond t (Some e.1) (find key_cmp q es))) None) [
    | true ↦ refl
    | false ↦ find_marked es q
  ]

  -- what a map has at its keys, in order, are its entries
  pub entries_by_keys : (m : FinMap key_cmp X) → pairs_of (get m) (keys m) ≡ marked (entries m)
  entries_by_keys m =
      let g : BlockKey → Option X = get m in
      let same : from_entries {R = key_cmp} (pairs_of g (keys m)) ≡ from_entries (marked (entries m)) = same_map keys_total exact_keys _ _ (λ q.
      get-pairs_of g (keys m) q ∙ ap (λ b. cond b (Some (get m q)) None) (sym (contains_key-keys m q))
      ∙ (λ i. cond (is_some (get-entries m q i)) (Some (get-entries m q i)) None)
      ∙ sym (find_marked (entries m) q) ∙ sym (get-from_entries keys_total (marked (entries m)) q)) in
      sym (entries_of_sorted (pairs_of g (keys m)) (subst T (sym (sorted_pairs g (entries m))) (entries_sorted m)))
      ∙ ap entries same
      ∙ entries_of_sorted (marked (entries m)) (subst T (sym (sorted_marked (entries m))) (entries_sorted m))
