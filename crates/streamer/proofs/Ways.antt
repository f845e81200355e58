-- The ways of a block, from what their steps do.
use Rattle.std.proofs.Common.{◌≡◌, ℕ, ◌+◌, ◌<◌, ◌≤◌, Bool, true, cond, List, length, refl, sym, ap, subst, ◌∙◌, arith, false}
use Rattle.std.specs.Prelude.{All, Option, Some, None, is_some, slice_get}
use Rattle.std.specs.Option.{option_and_then}
use Rattle.std.specs.FinMap.{contains_key, get, insert, remove}
use Rattle.voxel_block.specs.declared.key.BlockKey.{BlockKey}
use Rattle.voxel_block.specs.declared.voxel.Voxel.{Voxel}
use Rattle.voxel_block.specs.Blocks.{new_block}
use Rattle.voxel_block.proofs.KeyLaws.{gone_elsewhere, gone_here}
use Rattle.spatial_hash.specs.Contents.{contents}
use Rattle.spatial_hash.specs.Table.{Table}
use Rattle.block_heap.specs.Cells.{Cells, content, drawn, given_up, is_free_at}
use Rattle.block_heap.specs.HeapLending.{with_block_at}
use Rattle.block_heap.proofs.FreeLists.{is_free_at-lt}
use Rattle.streamer.specs.Owners.{block_in, owner_at}
use Rattle.streamer.specs.Places.{IsPlaced, Places, blocks_of, cell_of, in_heap}
use Rattle.streamer.proofs.Blocks.{get-resident, get-stored, in_store}
use Rattle.voxel_block.specs.Packing.{IsBlock, IsKey, packed, voxels_in}
use Rattle.streamer.proofs.Keyed.{none_of}
use Rattle.streamer.proofs.Moves.{IsLeft, IsSettledIn, IsVacated}
use Rattle.streamer.proofs.Owning.{IsChanged, below, entered, entered_free, left, left_free, made_free, made_in, owner_is, vacant}

-- the cell that the hash names is one of the heap's
pub cell_below : (p : Places) (k : BlockKey) (n : ℕ) → IsPlaced p → Some n ≡ cell_of p.table k → n < length p.heap.cells
cell_below p k n placed e = below p.heap n (k, block_in p.heap n) (placed.found k n (sym e))

-- and it has the key's block
pub block_there : (p : Places) (k : BlockKey) (n : ℕ) → IsPlaced p → Some n ≡ cell_of p.table k → option_and_then content (slice_get p.heap.cells n) ≡ Some (k, block_in p.heap n)
block_there p k n placed cell = sym (owner_is p.heap n) ∙ placed.found k n (sym cell)

-- a stored key has no cell
pub stored_is_out : (p : Places) (k : BlockKey) → IsPlaced p → contains_key p.store.contents k ≡ true → cell_of p.table k ≡ None
stored_is_out p k placed stored = by (cell_of p.table k) refl
  where
    by : (c : Option ℕ) → cell_of p.table k ≡ c → c ≡ None
    by None e = refl
    by (Some n) e = (let z : false ≡ true = ap is_some (sym (placed.apart k (ap is_some e))) ∙ stored in absurd (cc))

-- an owned cell is given up, and its key is removed from the hash
pub vacates : (p r : Places) (k : BlockKey) (v : List Voxel) (n : ℕ) (had : Bool) → IsPlaced p → owner_at p.heap n ≡ Some (k, v)
    → contents r.table ≡ cond had (remove (contents p.table) k) (contents p.table) → had ≡ contains_key (contents p.table) k → r.table.nodes ≡ p.table.nodes
    → r.heap ≡ given_up p.heap n → IsVacated p r k n
vacates p r k v n had placed owner table was nodes heap =
    let cell : cell_of p.table k ≡ Some n = placed.owned k n v owner in
    let there : contains_key (contents p.table) k ≡ true = ap is_some cell in
    record {
      cell = cell;
      table = table ∙ ap (λ b. cond b (remove (contents p.table) k) (contents p.table)) (was ∙ there);
      nodes = nodes;
      heap = subst (λ g. IsChanged p.heap g n None) (sym heap) (left p.heap n (k, v) owner);
      free = ap (λ (g : Cells). length g.free) heap ∙ left_free p.heap n (k, v) owner;
    }

-- a resident block is removed from its cell, and then its packed form is stored
pub leaves : (p q r : Places) (k : BlockKey) (n : ℕ) (bytes : List ℕ) → IsVacated p q k n → q.store.contents ≡ p.store.contents → bytes ≡ packed k (block_in p.heap n) → IsKey k → IsBlock (block_in p.heap n)
    → r.table ≡ q.table → r.heap ≡ q.heap → r.store.contents ≡ insert q.store.contents k bytes → IsLeft p r k n
leaves p q r k n bytes x same is key block table heap store = record {
  vacated = record {
    cell = x.cell;
    table = ap contents table ∙ x.table;
    nodes = ap (λ (t : Table). t.nodes) table ∙ x.nodes;
    heap = subst (λ h. IsChanged p.heap h n None) (sym heap) x.heap;
    free = ap (λ (h : Cells). length h.free) heap ∙ x.free;
  };
  store = store ∙ (λ i. insert (same i) k (is i));
  key = key;
  block = block;
}

pub enters : (p r : Places) (k : BlockKey) (n : ℕ) (v : List Voxel) → IsPlaced p → contains_key p.store.contents k ≡ true
    → contents r.table ≡ insert (contents p.table) k n → r.table.nodes ≡ p.table.nodes → is_free_at p.heap.cells n ≡ true → 0 < length p.heap.free
    → r.heap ≡ with_block_at (drawn p.heap k (Some n)) n v → r.store.contents ≡ remove p.store.contents k → IsSettledIn p r k n v
enters p r k n v placed stored table nodes free some heap store =
    let low = is_free_at-lt p.heap.cells n free in
    record {
      absent = stored_is_out p k placed stored;
      table = table;
      nodes = nodes;
      vacant = vacant p.heap n free;
      heap = subst (λ g. IsChanged p.heap g n (Some (k, v))) (sym heap) (entered p.heap k n v low);
      free = ap (λ (g : Cells). length g.free + 1) heap ∙ entered_free p.heap k n v low some;
      gone = ap (λ m. get m k) store ∙ gone_here p.store.contents k;
      others = λ q other. ap (λ m. get m q) store ∙ gone_elsewhere p.store.contents k q other;
    }

pub makes : (p r : Places) (k : BlockKey) (n : ℕ) → contains_key (contents p.table) k ≡ false → contains_key p.store.contents k ≡ false
    → contents r.table ≡ insert (contents p.table) k n → r.table.nodes ≡ p.table.nodes → is_free_at p.heap.cells n ≡ true → 0 < length p.heap.free
    → r.heap ≡ drawn p.heap k (Some n) → r.store.contents ≡ p.store.contents → IsSettledIn p r k n new_block
makes p r k n out unstored table nodes free some heap store =
    let low = is_free_at-lt p.heap.cells n free in
    record {
      absent = none_of (cell_of p.table k) out;
      table = table;
      nodes = nodes;
      vacant = vacant p.heap n free;
      heap = subst (λ g. IsChanged p.heap g n (Some (k, new_block))) (sym heap) (made_in p.heap k n low);
      free = ap (λ (g : Cells). length g.free + 1) heap ∙ made_free p.heap k n some;
      gone = ap (λ m. get m k) store ∙ none_of (get p.store.contents k) unstored;
      others = λ q other. ap (λ m. get m q) store;
    }

pub block_missing : (p : Places) (k : BlockKey) (n : ℕ) → IsPlaced p → Some n ≡ cell_of p.table k → None ≡ option_and_then content (slice_get p.heap.cells n) → ⊥
block_missing p k n placed cell none = (let z : ◌≡◌ {A = Option (BlockKey × List Voxel)} None (Some (k, block_in p.heap n)) = none ∙ block_there p k n placed cell in absurd (cc))

pub owned_there : (p : Places) (k : BlockKey) (n : ℕ) → IsPlaced p → Some n ≡ cell_of p.table k → is_some (owner_at p.heap n) ≡ true
owned_there p k n placed cell = ap is_some (placed.found k n (sym cell))

-- a key that drew a cell owns it
pub owned_drawn : (h : Cells) (k : BlockKey) (n : ℕ) → is_free_at h.cells n ≡ true → is_some (owner_at (drawn h k (Some n)) n) ≡ true
owned_drawn h k n free = ap is_some (made_in h k n (is_free_at-lt h.cells n free)).here

light : (vs : List Voxel) → All (λ v. v.w < 256) vs → All (λ v. v.w ≤ 255) vs
light vs h = λ k d low. let l = h k d low in omega (arith, l)

-- what a stored block's form unpacks to, whatever its weights
pub record Unpacks (p : Places) (k : BlockKey) (bytes : List ℕ) : Type 0 where
  pub key : IsKey k
  pub block : IsBlock (voxels_in bytes)
  pub weights : All (λ v. v.w ≤ 255) (voxels_in bytes)
  pub form : bytes ≡ packed k (voxels_in bytes)
  pub told : get (blocks_of p) k ≡ Some (voxels_in bytes)

pub unpacks : (p : Places) (k : BlockKey) (bytes : List ℕ) → IsPlaced p → Some bytes ≡ get p.store.contents k → Unpacks p k bytes
unpacks p k bytes placed is =
    let x = placed.packed k bytes (sym is) in
    record {
      key = x.key;
      block = x.block;
      weights = light (voxels_in bytes) x.block.weights;
      form = x.form;
      told = get-stored p k (stored_is_out p k placed (ap is_some (sym is))) ∙ ap in_store (sym is);
    }

-- ---- the block of a key

-- what is told of a key whose block is lent
pub lent_told : (p : Places) (k : BlockKey) (v : List Voxel) → Some v ≡ in_heap p.heap (cell_of p.table k) → get (blocks_of p) k ≡ Some v
lent_told p k v is = by (cell_of p.table k) refl
  where
    by : (c : Option ℕ) → cell_of p.table k ≡ c → get (blocks_of p) k ≡ Some v
    by None e = absurd (let z : ◌≡◌ {A = Option (List Voxel)} (Some v) None = is ∙ ap (in_heap p.heap) e in cc)
    by (Some n) e = get-resident p k n e ∙ sym (is ∙ ap (in_heap p.heap) e)

-- and of one that lies in neither place
pub none_told : (p : Places) (k : BlockKey) → None ≡ in_heap p.heap (cell_of p.table k) → is_some (get p.store.contents k) ≡ false → get (blocks_of p) k ≡ None
none_told p k out unstored = by (cell_of p.table k) refl
  where
    by : (c : Option ℕ) → cell_of p.table k ≡ c → get (blocks_of p) k ≡ None
    by None e = get-stored p k e ∙ ap in_store (none_of (get p.store.contents k) unstored)
    by (Some n) e = absurd (let z : ◌≡◌ {A = Option (List Voxel)} None (in_heap p.heap (Some n)) = out ∙ ap (in_heap p.heap) e in cc)
