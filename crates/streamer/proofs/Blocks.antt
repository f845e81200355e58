-- The map that the places tell, key by key.
use Rattle.std.proofs.Common.{◌≡◌, ℕ, Bool, true, false, cond, ◌||◌, List, [], ◌∷◌, ◌++◌, map, refl, sym, ap, ◌∙◌}
use Rattle.std.specs.Prelude.{Option, Some, None, is_some}
use Rattle.std.specs.Option.{option_map}
use Rattle.std.specs.Ordering.{eq_by_cmp}
use Rattle.std.specs.FinMap.{FinMap, contains_key, entries, find, get, same_map, get-entries, get-from_entries}
use Rattle.voxel_block.specs.declared.key.BlockKey.{BlockKey}
use Rattle.voxel_block.specs.declared.voxel.Voxel.{Voxel}
use Rattle.voxel_block.specs.Keys.{key_cmp}
use Rattle.voxel_block.proofs.KeyLaws.{exact_keys, keys_total}
use Rattle.spatial_hash.specs.Contents.{contents}
use Rattle.streamer.specs.Owners.{block_in}
use Rattle.streamer.specs.Places.{Places, blocks_of, cell_of, heap_blocks, in_heap, resident_blocks, stored_blocks}
use Rattle.voxel_block.specs.Packing.{voxels_in}

-- ---- entries that a rule makes of others

module _ {X Y : Type 0} (g : X → Y) where
  -- the entries with their new values
  abbrev made : List (BlockKey × X) → List (BlockKey × Y)
  made es = map (λ e. (e.0, g e.1)) es

  find-made : (es : List (BlockKey × X)) (q : BlockKey) → find key_cmp q (made es) ≡ option_map g (find key_cmp q es)
  find-made [] q = refl
  find-made (e ∷ es) q =
      elim (eq_by_cmp key_cmp q e.0) as (λ b. cond b (Some (g e.1)) (find key_cmp q (made es)) ≡ option_map g (cond b (Some e.1) (find key_cmp q es))) [
        | true ↦ refl
        | false ↦ find-made es q
      ]

  pub get-made : (m : FinMap key_cmp X) (q : BlockKey) → find key_cmp q (made (entries m)) ≡ option_map g (get m q)
  get-made m q = find-made (entries m) q ∙ ap (option_map g) (sym (get-entries m q))

module _ {X : Type 0} where
  -- the first of two, where it is there
  abbrev pub or_else : Option X → Option X → Option X
  or_else None o = o
  or_else (Some x) o = Some x

  pub find-both : (es fs : List (BlockKey × X)) (q : BlockKey) → find key_cmp q (es ++ fs) ≡ or_else (find key_cmp q es) (find key_cmp q fs)
  find-both [] fs q = refl
  find-both (e ∷ es) fs q =
      elim (eq_by_cmp key_cmp q e.0) as (λ b. cond b (Some e.1) (find key_cmp q (es ++ fs)) ≡ or_else (cond b (Some e.1) (find key_cmp q es)) (find key_cmp q fs)) [
        | true ↦ refl
        | false ↦ find-both es fs q
      ]

  has-both : (a b : Option X) → is_some (or_else a b) ≡ (is_some a || is_some b)
  has-both None b = refl
  has-both (Some x) b = refl

pub still_some : {X Y : Type 0} (f : X → Y) (o : Option X) → is_some (option_map f o) ≡ is_some o
still_some f None = refl
still_some f (Some x) = refl

-- ---- the places

-- the voxels of packed bytes, if there are any
abbrev pub in_store : Option (List ℕ) → Option (List Voxel)
in_store s = option_map voxels_in s

pub get-heap : (p : Places) (q : BlockKey) → get (heap_blocks p) q ≡ in_heap p.heap (cell_of p.table q)
unfolding heap_blocks
get-heap p q = get-from_entries keys_total _ q ∙ get-made (block_in p.heap) (contents p.table) q

pub get-blocks : (p : Places) (q : BlockKey) → get (blocks_of p) q ≡ or_else (in_heap p.heap (cell_of p.table q)) (in_store (get p.store.contents q))
unfolding blocks_of
get-blocks p q = get-from_entries keys_total _ q ∙ find-both (resident_blocks p) (stored_blocks p) q
    ∙ (λ i. or_else (get-made (block_in p.heap) (contents p.table) q i) (get-made voxels_in p.store.contents q i))

pub has-blocks : (p : Places) (q : BlockKey) → contains_key (blocks_of p) q ≡ (contains_key (contents p.table) q || contains_key p.store.contents q)
has-blocks p q = ap is_some (get-blocks p q) ∙ has-both (in_heap p.heap (cell_of p.table q)) (in_store (get p.store.contents q))
    ∙ (λ i. still_some (block_in p.heap) (cell_of p.table q) i || still_some voxels_in (get p.store.contents q) i)

-- the places tell this map
pub is-blocks : (p : Places) (m : FinMap key_cmp (List Voxel)) → ((q : BlockKey) → or_else (in_heap p.heap (cell_of p.table q)) (in_store (get p.store.contents q)) ≡ get m q) → blocks_of p ≡ m
is-blocks p m h = same_map keys_total exact_keys _ _ (λ q. get-blocks p q ∙ h q)

-- what is told of a resident key, and of a stored one
pub get-resident : (p : Places) (q : BlockKey) (n : ℕ) → cell_of p.table q ≡ Some n → get (blocks_of p) q ≡ Some (block_in p.heap n)
get-resident p q n cell = get-blocks p q ∙ ap (λ c. or_else (in_heap p.heap c) (in_store (get p.store.contents q))) cell

pub get-stored : (p : Places) (q : BlockKey) → cell_of p.table q ≡ None → get (blocks_of p) q ≡ in_store (get p.store.contents q)
get-stored p q cell = get-blocks p q ∙ ap (λ c. or_else (in_heap p.heap c) (in_store (get p.store.contents q))) cell

-- a key that is not known is neither in the heap nor in the store
neither : (a b : Bool) → (a || b) ≡ false → (a ≡ false) × (b ≡ false)
neither true b e = absurd (cc)
neither false b e = (refl, e)

pub not_resident : (p : Places) (k : BlockKey) → contains_key (blocks_of p) k ≡ false → contains_key (contents p.table) k ≡ false
not_resident p k e = (neither (contains_key (contents p.table) k) (contains_key p.store.contents k) (sym (has-blocks p k) ∙ e)).0

pub not_stored : (p : Places) (k : BlockKey) → contains_key (blocks_of p) k ≡ false → contains_key p.store.contents k ≡ false
not_stored p k e = (neither (contains_key (contents p.table) k) (contains_key p.store.contents k) (sym (has-blocks p k) ∙ e)).1
