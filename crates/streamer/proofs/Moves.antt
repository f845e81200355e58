-- Places of which one key moves.
use Rattle.std.proofs.Common.{◌≡◌, ◌≢◌, ℕ, ◌+◌, true, false, List, length, refl, sym, ap, ◌∙◌, subst, arith}
use Rattle.std.specs.Prelude.{Option, Some, None, IsTrue, is_some}
use Rattle.std.specs.FinMap.{FinMap, contains_key, get, insert, len, remove, same_map}
use Rattle.voxel_block.specs.declared.key.BlockKey.{BlockKey}
use Rattle.voxel_block.specs.declared.voxel.Voxel.{Voxel}
use Rattle.voxel_block.specs.Blocks.{new_block}
use Rattle.voxel_block.specs.Keys.{key_cmp}
use Rattle.spatial_hash.specs.Contents.{contents}
use Rattle.block_heap.specs.Cells.{Cells}
use Rattle.streamer.specs.Owners.{block_in, owner_at, voxels_of}
use Rattle.streamer.specs.Places.{IsPackedBlock, IsPlaced, Places, blocks_of, cell_of, in_heap}
use Rattle.voxel_block.specs.Packing.{IsBlock, IsKey, packed, voxels_in}
use Rattle.voxel_block.proofs.Packing.{voxels_in-packed}
use Rattle.streamer.proofs.Blocks.{get-blocks, get-resident, in_store, is-blocks, or_else}
use Rattle.voxel_block.proofs.KeyLaws.{by_key, exact_keys, gone_elsewhere, gone_here, keys_total, len_put, put_elsewhere, put_here}
use Rattle.block_heap.proofs.FreeLists.{by_number}
use Rattle.streamer.proofs.Keyed.{len_gone, the_same}
use Rattle.streamer.proofs.Owning.{IsChanged}

-- the key whose cell this is
pub owner_of : (p : Places) (k q : BlockKey) (m n : ℕ) → IsPlaced p → cell_of p.table k ≡ Some n → cell_of p.table q ≡ Some m → m ≡ n → q ≡ k
owner_of p k q m n placed ek eq e =
    let z : Some (q, block_in p.heap m) ≡ Some (k, block_in p.heap n) = sym (placed.found q m eq) ∙ ap (owner_at p.heap) e ∙ placed.found k n ek in
    ap (λ x. x.0) (the_same (q, block_in p.heap m) (k, block_in p.heap n) z)

-- the voxels in the heap of a key that has its cell still, in a heap where this cell is as it was
pub same_resident : (h g : Cells) (c d : Option ℕ) → d ≡ c → ((m : ℕ) → c ≡ Some m → owner_at g m ≡ owner_at h m) → in_heap g d ≡ in_heap h c
same_resident h g c d is same = ap (in_heap g) is ∙ by c refl
  where
    by : (o : Option ℕ) → c ≡ o → in_heap g o ≡ in_heap h o
    by None e = refl
    by (Some m) e = ap (λ o. Some (voxels_of o new_block)) (same m e)

-- ---- a key leaves its cell

-- what a removal of a key from the hash, whose cell is free then, leaves of the rest
pub record IsVacated (p r : Places) (k : BlockKey) (n : ℕ) : Type 0 where
  pub cell : cell_of p.table k ≡ Some n
  pub table : contents r.table ≡ remove (contents p.table) k
  pub nodes : r.table.nodes ≡ p.table.nodes
  pub heap : IsChanged p.heap r.heap n None
  pub free : length r.heap.free ≡ length p.heap.free + 1

module _ (p r : Places) (k : BlockKey) (n : ℕ) (placed : IsPlaced p) (x : IsVacated p r k n) where
  left_cell : (q : BlockKey) → q ≢ k → cell_of r.table q ≡ cell_of p.table q
  left_cell q other = ap (λ m. get m q) x.table ∙ gone_elsewhere (contents p.table) k q other

  left_none : cell_of r.table k ≡ None
  left_none = ap (λ m. get m k) x.table ∙ gone_here (contents p.table) k

  left_owner : (q : BlockKey) (m : ℕ) → q ≢ k → cell_of p.table q ≡ Some m → owner_at r.heap m ≡ owner_at p.heap m
  left_owner q m other e = x.heap.others m (λ s. other (owner_of p k q m n placed x.cell e s))

  left_found : (q : BlockKey) (m : ℕ) → cell_of r.table q ≡ Some m → owner_at r.heap m ≡ Some (q, block_in r.heap m)
  left_found q m e = by_key q k
      (λ s. (let z : None ≡ Some m = sym left_none ∙ ap (cell_of r.table) (sym s) ∙ e in absurd (cc)))
      (λ other.
      let was : cell_of p.table q ≡ Some m = sym (left_cell q other) ∙ e in
      let same = left_owner q m other was in
      same ∙ placed.found q m was ∙ ap (λ o. Some (q, voxels_of o new_block)) (sym same))

  left_owned : (q : BlockKey) (m : ℕ) (v : List Voxel) → owner_at r.heap m ≡ Some (q, v) → cell_of r.table q ≡ Some m
  left_owned q m v e = by_number m n
      (λ s. (let z : None ≡ Some (q, v) = sym x.heap.here ∙ ap (owner_at r.heap) (sym s) ∙ e in absurd (cc)))
      (λ differ.
      let was : cell_of p.table q ≡ Some m = placed.owned q m v (sym (x.heap.others m differ) ∙ e) in
      left_cell q (λ s. differ (the_same m n (sym was ∙ ap (cell_of p.table) s ∙ x.cell))) ∙ was)

  pub left_resident : (q : BlockKey) → q ≢ k → in_heap r.heap (cell_of r.table q) ≡ in_heap p.heap (cell_of p.table q)
  left_resident q other = same_resident p.heap r.heap (cell_of p.table q) (cell_of r.table q) (left_cell q other) (λ m e. left_owner q m other e)

  left_table_subset : (q : BlockKey) → IsTrue (contains_key (contents r.table) q) → IsTrue (contains_key (contents p.table) q)
  left_table_subset q has = by_key q k
      (λ s. (let z : false ≡ true = ap is_some (sym left_none) ∙ ap (λ y. contains_key (contents r.table) y) (sym s) ∙ has in absurd (cc)))
      (λ other. ap is_some (sym (left_cell q other)) ∙ has)

  -- the places stand where the store has the key's block, or nothing, and else what it had
  pub vacated_placed : ((q : BlockKey) → q ≢ k → get r.store.contents q ≡ get p.store.contents q)
      → ((bytes : List ℕ) → get r.store.contents k ≡ Some bytes → IsPackedBlock k bytes) → IsPlaced r
  vacated_placed others here =
      let less : len (contents r.table) + 1 ≡ len (contents p.table) = ap (λ m. len m + 1) x.table ∙ len_gone (contents p.table) k (ap is_some x.cell) in
      let count = placed.count in
      let room = placed.room in
      let nodes = x.nodes in
      let free = x.free in
      let cells = x.heap.count in
      record {
        found = left_found;
        owned = left_owned;
        apart = λ q has. by_key q k
            (λ s. (let z : false ≡ true = ap is_some (sym left_none) ∙ ap (λ y. contains_key (contents r.table) y) (sym s) ∙ has in absurd (cc)))
            (λ other. others q other ∙ placed.apart q (left_table_subset q has));
        packed = λ q bytes e. by_key q k
            (λ s. subst (λ y. IsPackedBlock y bytes) (sym s) (here bytes (ap (get r.store.contents) (sym s) ∙ e)))
            (λ other. placed.packed q bytes (sym (others q other) ∙ e));
        count = omega arith;
        room = omega arith;
      }

-- the block of a key came from its cell to the store
pub record IsLeft (p r : Places) (k : BlockKey) (n : ℕ) : Type 0 where
  pub vacated : IsVacated p r k n
  pub store : r.store.contents ≡ insert p.store.contents k (packed k (block_in p.heap n))
  pub key : IsKey k
  pub block : IsBlock (block_in p.heap n)

module _ (p r : Places) (k : BlockKey) (n : ℕ) (placed : IsPlaced p) (x : IsLeft p r k n) where
  back : voxels_in (packed k (block_in p.heap n)) ≡ block_in p.heap n
  back = voxels_in-packed k (block_in p.heap n) x.block

  stored_here : get r.store.contents k ≡ Some (packed k (block_in p.heap n))
  stored_here = ap (λ m. get m k) x.store ∙ put_here p.store.contents k _

  stored_there : (q : BlockKey) → q ≢ k → get r.store.contents q ≡ get p.store.contents q
  stored_there q other = ap (λ m. get m q) x.store ∙ put_elsewhere p.store.contents k q _ other

  pub left_placed : IsPlaced r
  left_placed = vacated_placed p r k n placed x.vacated stored_there (λ bytes e.
      let is : bytes ≡ packed k (block_in p.heap n) = the_same bytes _ (sym e ∙ stored_here) in
      let same : block_in p.heap n ≡ voxels_in bytes = sym back ∙ ap voxels_in (sym is) in
      record { key = x.key; block = subst IsBlock same x.block; form = is ∙ ap (packed k) same })

  pub left_blocks : blocks_of r ≡ blocks_of p
  left_blocks = is-blocks r (blocks_of p) (λ q. by_key q k
      (λ e. subst (λ y. or_else (in_heap r.heap (cell_of r.table y)) (in_store (get r.store.contents y)) ≡ get (blocks_of p) y) (sym e)
      ((λ i. or_else (in_heap r.heap (left_none p r k n placed x.vacated i)) (in_store (stored_here i))) ∙ ap Some back ∙ sym (get-resident p k n x.vacated.cell)))
      (λ other. (λ i. or_else (left_resident p r k n placed x.vacated q other i) (in_store (stored_there q other i))) ∙ sym (get-blocks p q)))

-- a key whose cell is free is known no more, where the store is as it was
module _ (p r : Places) (k : BlockKey) (n : ℕ) (placed : IsPlaced p) (x : IsVacated p r k n) (same : r.store.contents ≡ p.store.contents) where
  unstored : get r.store.contents k ≡ None
  unstored = ap (λ m. get m k) same ∙ placed.apart k (ap is_some x.cell)

  pub removed_placed : IsPlaced r
  removed_placed = vacated_placed p r k n placed x (λ q other. ap (λ m. get m q) same)
      (λ bytes e. (let z : ◌≡◌ {A = Option (List ℕ)} None (Some bytes) = sym unstored ∙ e in absurd (cc)))

  pub removed_blocks : blocks_of r ≡ remove (blocks_of p) k
  removed_blocks = is-blocks r (remove (blocks_of p) k) (λ q. by_key q k
      (λ e. subst (λ y. or_else (in_heap r.heap (cell_of r.table y)) (in_store (get r.store.contents y)) ≡ get (remove (blocks_of p) k) y) (sym e)
      ((λ i. or_else (in_heap r.heap (left_none p r k n placed x i)) (in_store (unstored i))) ∙ sym (gone_here (blocks_of p) k)))
      (λ other. (λ i. or_else (left_resident p r k n placed x q other i) (in_store (get (same i) q))) ∙ sym (get-blocks p q) ∙ sym (gone_elsewhere (blocks_of p) k q other)))

-- ---- a key comes to a cell

-- a key that had no cell has one that was free, with this block
pub record IsSettledIn (p r : Places) (k : BlockKey) (n : ℕ) (v : List Voxel) : Type 0 where
  pub absent : cell_of p.table k ≡ None
  pub table : contents r.table ≡ insert (contents p.table) k n
  pub nodes : r.table.nodes ≡ p.table.nodes
  pub vacant : owner_at p.heap n ≡ None
  pub heap : IsChanged p.heap r.heap n (Some (k, v))
  pub free : length r.heap.free + 1 ≡ length p.heap.free
  -- the store has nothing at the key, and else what it had
  pub gone : get r.store.contents k ≡ None
  pub others : (q : BlockKey) → q ≢ k → get r.store.contents q ≡ get p.store.contents q

module _ (p r : Places) (k : BlockKey) (n : ℕ) (v : List Voxel) (placed : IsPlaced p) (x : IsSettledIn p r k n v) where
  entered_cell : (q : BlockKey) → q ≢ k → cell_of r.table q ≡ cell_of p.table q
  entered_cell q other = ap (λ m. get m q) x.table ∙ put_elsewhere (contents p.table) k q n other

  entered_here : cell_of r.table k ≡ Some n
  entered_here = ap (λ m. get m k) x.table ∙ put_here (contents p.table) k n

  entered_owner : (q : BlockKey) (m : ℕ) → cell_of p.table q ≡ Some m → owner_at r.heap m ≡ owner_at p.heap m
  entered_owner q m e = x.heap.others m (λ s. (let z : None ≡ Some (q, block_in p.heap m) = sym x.vacant ∙ ap (owner_at p.heap) (sym s) ∙ placed.found q m e in absurd (cc)))

  entered_voxels : block_in r.heap n ≡ v
  entered_voxels = ap (λ o. voxels_of o new_block) x.heap.here

  entered_found : (q : BlockKey) (m : ℕ) → cell_of r.table q ≡ Some m → owner_at r.heap m ≡ Some (q, block_in r.heap m)
  entered_found q m e = by_key q k
      (λ s.
      let same : n ≡ m = the_same n m (sym entered_here ∙ ap (cell_of r.table) (sym s) ∙ e) in
      let here : owner_at r.heap n ≡ Some (k, block_in r.heap n) = x.heap.here ∙ ap (λ w. Some (k, w)) (sym entered_voxels) in
      subst (λ y. owner_at r.heap m ≡ Some (y, block_in r.heap m)) (sym s) (subst (λ y. owner_at r.heap y ≡ Some (k, block_in r.heap y)) same here))
      (λ other.
      let was : cell_of p.table q ≡ Some m = sym (entered_cell q other) ∙ e in
      let same = entered_owner q m was in
      same ∙ placed.found q m was ∙ ap (λ o. Some (q, voxels_of o new_block)) (sym same))

  entered_owned : (q : BlockKey) (m : ℕ) (w : List Voxel) → owner_at r.heap m ≡ Some (q, w) → cell_of r.table q ≡ Some m
  entered_owned q m w e = by_number m n
      (λ s.
      let z : Some (k, v) ≡ Some (q, w) = sym x.heap.here ∙ ap (owner_at r.heap) (sym s) ∙ e in
      ap (cell_of r.table) (sym (ap (λ y. y.0) (the_same (k, v) (q, w) z))) ∙ entered_here ∙ ap Some (sym s))
      (λ differ.
      let was : cell_of p.table q ≡ Some m = placed.owned q m w (sym (x.heap.others m differ) ∙ e) in
      entered_cell q (λ s. (let z : None ≡ Some m = sym x.absent ∙ ap (cell_of p.table) (sym s) ∙ was in absurd (cc))) ∙ was)

  pub entered_placed : IsPlaced r
  entered_placed =
      let more : len (contents r.table) ≡ len (contents p.table) + 1 = ap len x.table ∙ len_put (contents p.table) k n (ap is_some x.absent) in
      let count = placed.count in
      let room = placed.room in
      let nodes = x.nodes in
      let free = x.free in
      let cells = x.heap.count in
      record {
        found = entered_found;
        owned = entered_owned;
        apart = λ q has. by_key q k
            (λ s. ap (get r.store.contents) s ∙ x.gone)
            (λ other. x.others q other ∙ placed.apart q (ap is_some (sym (entered_cell q other)) ∙ has));
        packed = λ q bytes e. by_key q k
            (λ s. (let z : ◌≡◌ {A = Option (List ℕ)} None (Some bytes) = sym x.gone ∙ ap (get r.store.contents) (sym s) ∙ e in absurd (cc)))
            (λ other. placed.packed q bytes (sym (x.others q other) ∙ e));
        count = omega arith;
        room = omega arith;
      }

  -- the map has the block at the key
  pub entered_blocks : blocks_of r ≡ insert (blocks_of p) k v
  entered_blocks = is-blocks r (insert (blocks_of p) k v) (λ q. by_key q k
      (λ e. subst (λ y. or_else (in_heap r.heap (cell_of r.table y)) (in_store (get r.store.contents y)) ≡ get (insert (blocks_of p) k v) y) (sym e)
      (ap (λ c. or_else (in_heap r.heap c) (in_store (get r.store.contents k))) entered_here ∙ ap Some entered_voxels ∙ sym (put_here (blocks_of p) k v)))
      (λ other. (λ i. or_else (same_resident p.heap r.heap (cell_of p.table q) (cell_of r.table q) (entered_cell q other) (λ m e. entered_owner q m e) i) (in_store (x.others q other i)))
      ∙ sym (get-blocks p q) ∙ sym (put_elsewhere (blocks_of p) k q v other)))

-- where the block is the one that the map had, the map is as it was
pub insert_same : (m : FinMap key_cmp (List Voxel)) (k : BlockKey) (v : List Voxel) → get m k ≡ Some v → insert m k v ≡ m
insert_same m k v is = same_map keys_total exact_keys _ _ (λ q. by_key q k
    (λ e. subst (λ y. get (insert m k v) y ≡ get m y) (sym e) (put_here m k v ∙ sym is))
    (λ other. put_elsewhere m k q v other))

-- places of which only the opened chunks differ
pub same_places : (p r : Places) → IsPlaced p → r.table ≡ p.table → r.heap ≡ p.heap → r.store.contents ≡ p.store.contents → IsPlaced r
same_places p r placed table heap contents_same = subst (λ h. IsPlaced (record r { heap = h })) (sym heap) (subst (λ t. IsPlaced (record r { table = t; heap = p.heap })) (sym table) (record {
  found = placed.found;
  owned = placed.owned;
  apart = λ k e. ap (λ m. get m k) contents_same ∙ placed.apart k e;
  packed = λ k bytes e. placed.packed k bytes (ap (λ m. get m k) (sym contents_same) ∙ e);
  count = placed.count;
  room = placed.room;
}))

pub same_blocks : (p r : Places) → r.table ≡ p.table → r.heap ≡ p.heap → r.store.contents ≡ p.store.contents → blocks_of r ≡ blocks_of p
same_blocks p r table heap contents_same = is-blocks r (blocks_of p) (λ q. (λ i. or_else (in_heap (heap i) (cell_of (table i) q)) (in_store (get (contents_same i) q))) ∙ sym (get-blocks p q))
