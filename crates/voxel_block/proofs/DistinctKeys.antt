-- The keys of a map: each once, and with one more that was put.
use Rattle.std.proofs.Common.{◌≡◌, T, Bool, true, false, cond, ◌&&◌, ◌||◌, List, [], ◌∷◌, map, refl, ap, ◌∙◌}
use Rattle.std.specs.Prelude.{Option, Some, is_some}
use Rattle.std.specs.List.{AllByRecursion, IsDistinct, list_any}
use Rattle.std.specs.Ordering.{is_eq, is_lt}
use Rattle.std.specs.declared.cmp.Ordering.{Ordering}
use Rattle.std.specs.declared.cmp.Ordering.TheVariants.{Less, Equal, Greater}
use Rattle.std.specs.FinMap.{FinMap, contains_key, get, insert, keys, entries, entries_sorted, is_sorted, get-insert}
use Rattle.std.specs.FinMap.Entries.{below_all}
use Rattle.voxel_block.specs.declared.key.BlockKey.{BlockKey}
use Rattle.voxel_block.specs.Keys.{key_cmp, same_key}
use Rattle.voxel_block.proofs.KeyLaws.{keys_total}

left_of : (a b : Bool) → T (a && b) → T a
left_of true b t = tt
left_of false b t = absurd t

right_of : (a b : Bool) → T (a && b) → T b
right_of true b t = t
right_of false b t = absurd t

less_apart : (o : Ordering) → T (is_lt o) → is_eq o ≡ false
less_apart Less t = refl
less_apart Equal t = absurd t
less_apart Greater t = refl

module _ {X : Type 0} where
  above_apart : (x : BlockKey) (es : List (BlockKey × X)) → T (below_all key_cmp x es) → AllByRecursion (λ y. same_key x y ≡ false) (map (λ e. e.0) es)
  above_apart x [] t = tt
  above_apart x (e ∷ es) t = (less_apart (key_cmp x e.0) (left_of (is_lt (key_cmp x e.0)) (below_all key_cmp x es) t), above_apart x es (right_of (is_lt (key_cmp x e.0)) (below_all key_cmp x es) t))

  sorted_distinct : (es : List (BlockKey × X)) → T (is_sorted key_cmp es) → IsDistinct same_key (map (λ e. e.0) es)
  unfolding IsDistinct
  sorted_distinct [] t = tt
  sorted_distinct (e ∷ es) t = (above_apart e.0 es (left_of (below_all key_cmp e.0 es) (is_sorted key_cmp es) t), sorted_distinct es (right_of (below_all key_cmp e.0 es) (is_sorted key_cmp es) t))

  pub distinct_keys : (m : FinMap key_cmp X) → IsDistinct same_key (keys m)
  distinct_keys m = sorted_distinct (entries m) (entries_sorted m)

none_equal : (x : BlockKey) (ks : List BlockKey) → AllByRecursion (λ y. same_key x y ≡ false) ks → list_any (same_key x) ks ≡ false
none_equal x [] a = refl
none_equal x (k ∷ ks) a = (λ i. a.0 i || list_any (same_key x) ks) ∙ none_equal x ks a.1

-- the first key is not among the others
pub not_again : (x : BlockKey) (ks : List BlockKey) → IsDistinct same_key (x ∷ ks) → list_any (same_key x) ks ≡ false
unfolding IsDistinct
not_again x ks d = none_equal x ks d.0

-- ---- one more key

some_put : {X : Type 0} (b : Bool) (x : X) (o : Option X) → is_some (cond b (Some x) o) ≡ (b || is_some o)
some_put true x o = refl
some_put false x o = refl

-- a map has a key that was put, and those that it had
pub has_put : {X : Type 0} (m : FinMap key_cmp X) (k b : BlockKey) (x : X) → contains_key (insert m k x) b ≡ (same_key b k || contains_key m b)
has_put m k b x = ap is_some (get-insert keys_total m k x b) ∙ some_put (same_key b k) x (get m b)
