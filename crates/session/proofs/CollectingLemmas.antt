-- The cells of a heap from which empty blocks are removed, one after another.
use Rattle.std.proofs.Common.{◌≡◌, ◌≢◌, ℕ, ◌+◌, ◌<◌, ◌≤◌, Bool, true, false, cond, ◌&&◌, not, List, length, refl, sym, ap, subst, ◌∙◌, arith, zero-add}
use Rattle.std.proofs.Math.Bool.{and-false, and-true}
use Rattle.std.specs.Prelude.{ℤ, Option, Some, None, is_some, nat_lt}
use Rattle.std.specs.FinMap.{contains_key, get, len, remove}
use Rattle.std.proofs.lemmas.Bool.{le-ltb, lt-ltb, ltb-false, ltb-true}
use Rattle.voxel_block.specs.declared.key.BlockKey.{BlockKey}
use Rattle.voxel_block.specs.declared.voxel.Voxel.{Voxel}
use Rattle.voxel_block.specs.Blocks.{new_block}
use Rattle.voxel_block.proofs.KeyLaws.{by_key, gone_elsewhere, gone_here}
use Rattle.spatial_hash.specs.Contents.{contents}
use Rattle.spatial_hash.specs.Table.{KeepsSize}
use Rattle.block_heap.specs.Cells.{Cells}
use Rattle.block_heap.proofs.FreeLists.{by_number}
use Rattle.collector.specs.Empty.{is_empty_block}
use Rattle.streamer.specs.Owners.{block_in, owner_at, voxels_of}
use Rattle.streamer.specs.Places.{IsPlaced, Places, blocks_of, cell_of}
use Rattle.streamer.proofs.Blocks.{get-resident}
use Rattle.streamer.proofs.Keyed.{len_gone, some_of, the_same}
use Rattle.session.specs.Collecting.{Collects, is_empty_in, is_empty_owner}

-- whether the block in this cell is empty, if it is one of the first n cells
abbrev pub is_empty_below : ℤ → (n : ℕ) → Cells → Option ℕ → Bool
is_empty_below e n h None = false
is_empty_below e n h (Some m) = nat_lt m n && is_empty_block e (block_in h m)

-- what holds once the empty blocks of the first n cells, so many, were removed
pub record Collecting (e : ℤ) (n : ℕ) (p r : Places) (removed : ℕ) : Type 0 where
  pub blocks : (b : BlockKey) → get (blocks_of r) b ≡ cond (is_empty_below e n p.heap (cell_of p.table b)) None (get (blocks_of p) b)
  pub table : (b : BlockKey) → cell_of r.table b ≡ cond (is_empty_below e n p.heap (cell_of p.table b)) None (cell_of p.table b)
  pub ahead : (m : ℕ) → n ≤ m → owner_at r.heap m ≡ owner_at p.heap m
  pub store : r.store ≡ p.store
  pub cells : length r.heap.cells ≡ length p.heap.cells
  pub size : KeepsSize p.table r.table
  pub placed : IsPlaced r
  pub count : removed + len (blocks_of r) ≡ len (blocks_of p)
  pub few : removed ≤ n

-- ---- at the start

none_below : (e : ℤ) (h : Cells) (c : Option ℕ) → is_empty_below e 0 h c ≡ false
none_below e h None = refl
none_below e h (Some m) = ap (λ t. t && is_empty_block e (block_in h m)) (le-ltb m 0 (omega arith))

pub collecting_none : (e : ℤ) (p : Places) → IsPlaced p → Collecting e 0 p p 0
collecting_none e p placed = record {
  blocks = λ b. ap (λ t. cond t None (get (blocks_of p) b)) (sym (none_below e p.heap (cell_of p.table b)));
  table = λ b. ap (λ t. cond t None (cell_of p.table b)) (sym (none_below e p.heap (cell_of p.table b)));
  ahead = λ m low. refl;
  store = refl;
  cells = refl;
  size = record { buckets = refl; nodes = refl };
  placed = placed;
  count = zero-add (len (blocks_of p));
  few = omega arith;
}

-- ---- one cell more

-- whether a number is below the next one, where it is not the same
not_same : (m n : ℕ) → m ≢ n → nat_lt m (n + 1) ≡ nat_lt m n
not_same m n other =
    elim (nat_lt m n) as (λ t. nat_lt m n ≡ t → nat_lt m (n + 1) ≡ t) [
      | true ↦ λ e. (let low = ltb-true m n e in lt-ltb m (n + 1) (omega (arith, low)))
      | false ↦ λ e. (let high = ltb-false m n e in le-ltb m (n + 1) (omega (arith, high, other)))
    ] refl

module _ (e : ℤ) (p : Places) (n : ℕ) (placed : IsPlaced p) where
  -- the cell changes nothing for a key that is not its owner's, or where its block is not empty
  same_below : (b : BlockKey) (c : Option ℕ) → cell_of p.table b ≡ c → (cell_of p.table b ≡ Some n → is_empty_block e (block_in p.heap n) ≡ false)
      → is_empty_below e (n + 1) p.heap c ≡ is_empty_below e n p.heap c
  same_below b None is kept = refl
  same_below b (Some m) is kept = by_number m n
      (λ s.
      let full : is_empty_block e (block_in p.heap m) ≡ false = ap (λ x. is_empty_block e (block_in p.heap x)) s ∙ kept (is ∙ ap Some s) in
      ap (λ t. nat_lt m (n + 1) && t) full ∙ and-false (nat_lt m (n + 1)) ∙ sym (ap (λ t. nat_lt m n && t) full ∙ and-false (nat_lt m n)))
      (λ other. ap (λ t. t && is_empty_block e (block_in p.heap m)) (not_same m n other))

  -- a cell without an empty block
  kept_owner : (b : BlockKey) → is_empty_owner e (owner_at p.heap n) ≡ false → cell_of p.table b ≡ Some n → is_empty_block e (block_in p.heap n) ≡ false
  kept_owner b full is = ap (is_empty_owner e) (sym (placed.found b n is)) ∙ full

  pub collecting_kept : (r : Places) (count : ℕ) → Collecting e n p r count → is_empty_owner e (owner_at r.heap n) ≡ false → Collecting e (n + 1) p r count
  collecting_kept r count x full =
      let was : is_empty_owner e (owner_at p.heap n) ≡ false = ap (is_empty_owner e) (sym (x.ahead n (omega arith))) ∙ full in
      let same : (b : BlockKey) → is_empty_below e n p.heap (cell_of p.table b) ≡ is_empty_below e (n + 1) p.heap (cell_of p.table b) =
      λ b. sym (same_below b (cell_of p.table b) refl (kept_owner b was)) in
      let few = x.few in
      record {
        blocks = λ b. x.blocks b ∙ ap (λ t. cond t None (get (blocks_of p) b)) (same b);
        table = λ b. x.table b ∙ ap (λ t. cond t None (cell_of p.table b)) (same b);
        ahead = λ m low. x.ahead m (omega arith);
        store = x.store;
        cells = x.cells;
        size = x.size;
        placed = x.placed;
        count = x.count;
        few = omega arith;
      }

-- a cell's block is removed
pub record Removes (r s : Places) (n : ℕ) : Type 0 where
  pub blocks : (b : BlockKey) (v : List Voxel) → owner_at r.heap n ≡ Some (b, v) → blocks_of s ≡ remove (blocks_of r) b
  pub table : (b : BlockKey) (v : List Voxel) → owner_at r.heap n ≡ Some (b, v) → contents s.table ≡ remove (contents r.table) b
  pub others : (m : ℕ) → m ≢ n → owner_at s.heap m ≡ owner_at r.heap m
  pub store : s.store ≡ r.store
  pub cells : length s.heap.cells ≡ length r.heap.cells
  pub size : KeepsSize r.table s.table
  pub placed : IsPlaced s

-- an empty block's cell has an owner
pub has_owner : (e : ℤ) (o : Option (BlockKey × List Voxel)) → is_empty_owner e o ≡ true → is_some o ≡ true
has_owner e None is = absurd (cc)
has_owner e (Some o) is = refl

module _ (e : ℤ) (p : Places) (n : ℕ) (placed : IsPlaced p) (r s : Places) (count : ℕ) (x : Collecting e n p r count) (y : Removes r s n) (k : BlockKey) (v : List Voxel)
    (owner : owner_at r.heap n ≡ Some (k, v)) (hollow : is_empty_block e v ≡ true) where
  was_owner : owner_at p.heap n ≡ Some (k, v)
  was_owner = sym (x.ahead n (omega arith)) ∙ owner

  its_cell : cell_of p.table k ≡ Some n
  its_cell = placed.owned k n v was_owner

  its_block : block_in p.heap n ≡ v
  its_block = ap (λ o. voxels_of o new_block) was_owner

  taken : is_empty_below e (n + 1) p.heap (cell_of p.table k) ≡ true
  taken = ap (is_empty_below e (n + 1) p.heap) its_cell ∙ ap (λ t. t && is_empty_block e (block_in p.heap n)) (lt-ltb n (n + 1) (omega arith)) ∙ ap (is_empty_block e) its_block ∙ hollow

  untaken : (b : BlockKey) → b ≢ k → is_empty_below e n p.heap (cell_of p.table b) ≡ is_empty_below e (n + 1) p.heap (cell_of p.table b)
  untaken b other = sym (same_below e p n placed b (cell_of p.table b) refl (λ is.
      let z : Some (b, block_in p.heap n) ≡ Some (k, v) = sym (placed.found b n is) ∙ was_owner in
      absurd (other (ap (λ o. o.0) (the_same (b, block_in p.heap n) (k, v) z)))))

  there : contains_key (blocks_of r) k ≡ true
  there = ap is_some (get-resident r k n (x.placed.owned k n v owner))

  pub collecting_removed : Collecting e (n + 1) p s (count + 1)
  collecting_removed =
      let few = x.few in
      let old = x.count in
      let less : len (blocks_of s) + 1 ≡ len (blocks_of r) = ap (λ m. len m + 1) (y.blocks k v owner) ∙ len_gone (blocks_of r) k there in
      record {
        blocks = λ b. by_key b k
            (λ same. subst (λ q. get (blocks_of s) q ≡ cond (is_empty_below e (n + 1) p.heap (cell_of p.table q)) None (get (blocks_of p) q)) (sym same)
            (ap (λ m. get m k) (y.blocks k v owner) ∙ gone_here (blocks_of r) k ∙ ap (λ t. cond t None (get (blocks_of p) k)) (sym taken)))
            (λ other. ap (λ m. get m b) (y.blocks k v owner) ∙ gone_elsewhere (blocks_of r) k b other ∙ x.blocks b ∙ ap (λ t. cond t None (get (blocks_of p) b)) (untaken b other));
        table = λ b. by_key b k
            (λ same. subst (λ q. cell_of s.table q ≡ cond (is_empty_below e (n + 1) p.heap (cell_of p.table q)) None (cell_of p.table q)) (sym same)
            (ap (λ m. get m k) (y.table k v owner) ∙ gone_here (contents r.table) k ∙ ap (λ t. cond t None (cell_of p.table k)) (sym taken)))
            (λ other. ap (λ m. get m b) (y.table k v owner) ∙ gone_elsewhere (contents r.table) k b other ∙ x.table b ∙ ap (λ t. cond t None (cell_of p.table b)) (untaken b other));
        ahead = λ m low. y.others m (λ same. absurd (omega (arith, same, low))) ∙ x.ahead m (omega arith);
        store = y.store ∙ x.store;
        cells = y.cells ∙ x.cells;
        size = record { buckets = y.size.buckets ∙ x.size.buckets; nodes = y.size.nodes ∙ x.size.nodes };
        placed = y.placed;
        count = omega (arith, old, less);
        few = omega arith;
      }

-- the same, whoever the owner is
pub collecting_next : (e : ℤ) (p : Places) (n : ℕ) → IsPlaced p → (r s : Places) (count : ℕ) → Collecting e n p r count → Removes r s n → is_empty_owner e (owner_at r.heap n) ≡ true → Collecting e (n + 1) p s (count + 1)
collecting_next e p n placed r s count x y hollow =
    let owner = some_of (owner_at r.heap n) (has_owner e (owner_at r.heap n) hollow) in
    let is : is_empty_block e owner.0.1 ≡ true = ap (is_empty_owner e) (sym owner.1) ∙ hollow in
    collecting_removed e p n placed r s count x y owner.0.0 owner.0.1 owner.1 is

-- ---- at the end

all_below : (e : ℤ) (p : Places) (b : BlockKey) (n : ℕ) (c : Option ℕ) → ((m : ℕ) → c ≡ Some m → m < n) → is_empty_below e n p.heap c ≡ is_empty_in e p.heap c
all_below e p b n None low = refl
all_below e p b n (Some m) low = ap (λ t. t && is_empty_block e (block_in p.heap m)) (lt-ltb m n (low m refl))

still_some : (t : Bool) (c : Option ℕ) → is_some (cond t None c) ≡ (is_some c && not t)
still_some true c = sym (and-false (is_some c))
still_some false c = sym (and-true (is_some c))

pub collecting_all : (e : ℤ) (n : ℕ) (p r : Places) (count : ℕ) → ((b : BlockKey) (m : ℕ) → cell_of p.table b ≡ Some m → m < n) → Collecting e n p r count → Collects e p r
collecting_all e n p r count low x =
    let same : (b : BlockKey) → is_empty_below e n p.heap (cell_of p.table b) ≡ is_empty_in e p.heap (cell_of p.table b) = λ b. all_below e p b n (cell_of p.table b) (low b) in
    record {
      blocks = λ b. x.blocks b ∙ ap (λ t. cond t None (get (blocks_of p) b)) (same b);
      resident = λ b. ap is_some (x.table b) ∙ still_some (is_empty_below e n p.heap (cell_of p.table b)) (cell_of p.table b) ∙ ap (λ t. contains_key (contents p.table) b && not t) (same b);
      store = x.store;
      cells = x.cells;
      size = x.size;
      placed = x.placed;
    }
