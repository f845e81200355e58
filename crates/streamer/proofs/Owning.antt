-- Who owns the cells of a heap in which one cell changes.
use Rattle.std.proofs.Common.{◌≡◌, ◌≢◌, ℕ, zero, suc, ◌+◌, ◌-◌, ◌<◌, List, [], ◌∷◌, ◌++◌, length, set, take, refl, sym, ap, ◌∙◌, subst, arith, length-append, length-take, true, false}
use Rattle.std.specs.Prelude.{Option, Some, None, is_some, slice_get}
use Rattle.std.specs.Option.{option_and_then}
use Rattle.std.proofs.lemmas.List.{length-set}
use Rattle.voxel_block.specs.declared.key.BlockKey.{BlockKey}
use Rattle.voxel_block.specs.declared.voxel.Voxel.{Voxel}
use Rattle.voxel_block.specs.Blocks.{new_block}
use Rattle.block_heap.specs.declared.cell.Cell.{Cell}
use Rattle.block_heap.specs.declared.cell.Cell.TheVariants.{Free, Owned}
use Rattle.block_heap.specs.Cells.{Cells, content, drawn, given_up, given_up_with, has_free, is_free_at}
use Rattle.block_heap.specs.HeapLending.{with_block_at, with_block_in}
use Rattle.block_heap.proofs.FreeLists.{slice_get-set, slice_get-set_other}
use Rattle.streamer.specs.Owners.{owner_at}

-- ---- lists of cells

owned_below : (cells : List Cell) (n : ℕ) (o : BlockKey × List Voxel) → option_and_then content (slice_get cells n) ≡ Some o → n < length cells
owned_below [] n o e = absurd (cc)
owned_below (x ∷ xs) zero o e = omega arith
owned_below (x ∷ xs) (suc n) o e = let rest = owned_below xs n o e in omega arith

-- ---- heaps

-- heap g is heap h, but for cell n, which has this owner
pub record IsChanged (h g : Cells) (n : ℕ) (o : Option (BlockKey × List Voxel)) : Type 0 where
  pub here : owner_at g n ≡ o
  pub others : (m : ℕ) → m ≢ n → owner_at g m ≡ owner_at h m
  pub count : length g.cells ≡ length h.cells

pub owner_is : (h : Cells) (n : ℕ) → owner_at h n ≡ option_and_then content (slice_get h.cells n)
unfolding owner_at
owner_is h n = refl

-- an owned cell is one of the heap's
pub below : (h : Cells) (n : ℕ) (o : BlockKey × List Voxel) → owner_at h n ≡ Some o → n < length h.cells
unfolding owner_at
below h n o e = owned_below h.cells n o e

no_owner : (o : Option Cell) → has_free o ≡ true → option_and_then content o ≡ None
no_owner None e = absurd (cc)
no_owner (Some (Free b)) e = refl
no_owner (Some (Owned k b)) e = absurd (cc)

-- a free cell has no owner
pub vacant : (h : Cells) (n : ℕ) → is_free_at h.cells n ≡ true → owner_at h n ≡ None
unfolding owner_at
vacant h n e = no_owner (slice_get h.cells n) e

-- the cells and the free numbers after a block was written in an owned cell
written : (h : Cells) (n : ℕ) (o : BlockKey × List Voxel) (w : List Voxel) → option_and_then content (slice_get h.cells n) ≡ Some o → with_block_at h n w ≡ record { cells = set h.cells n (Owned o.0 w); free = h.free }
written h n o w e = ap (λ owner. with_block_in h n owner w) e

pub written_count : (h : Cells) (n : ℕ) (o : BlockKey × List Voxel) (w : List Voxel) → owner_at h n ≡ Some o → length (with_block_at h n w).cells ≡ length h.cells
unfolding owner_at
written_count h n o w e = ap (λ (g : Cells). length g.cells) (written h n o w e) ∙ length-set h.cells n (Owned o.0 w)

-- the heap after another block was written in an owned cell
pub rewritten : (h : Cells) (n : ℕ) (o : BlockKey × List Voxel) (w : List Voxel) → owner_at h n ≡ Some o → IsChanged h (with_block_at h n w) n (Some (o.0, w))
unfolding owner_at
rewritten h n o w e = subst (λ u. IsChanged h u n (Some (o.0, w))) (sym (written h n o w e)) (record {
  here = ap (option_and_then content) (slice_get-set h.cells n (Owned o.0 w) (owned_below h.cells n o e));
  others = λ m other. ap (option_and_then content) (slice_get-set_other h.cells n m (Owned o.0 w) other);
  count = length-set h.cells n (Owned o.0 w);
})

pub rewritten_free : (h : Cells) (n : ℕ) (o : BlockKey × List Voxel) (w : List Voxel) → owner_at h n ≡ Some o → (with_block_at h n w).free ≡ h.free
unfolding owner_at
rewritten_free h n o w e = ap (λ (g : Cells). g.free) (written h n o w e)

set_twice : (h : Cells) (n : ℕ) (c d : Cell) (free : List ℕ) → n < length h.cells → IsChanged h (record { cells = set (set h.cells n c) n d; free = free }) n (content d)
unfolding owner_at
set_twice h n c d free low =
    let count : length (set h.cells n c) ≡ length h.cells = length-set h.cells n c in
    record {
      here = ap (option_and_then content) (slice_get-set (set h.cells n c) n d (omega arith));
      others = λ m other. ap (option_and_then content) (slice_get-set_other (set h.cells n c) n m d other ∙ slice_get-set_other h.cells n m c other);
      count = length-set (set h.cells n c) n d ∙ count;
    }

-- the heap in which one cell is another
set_once : (h : Cells) (n : ℕ) (c : Cell) (free : List ℕ) → n < length h.cells → IsChanged h (record { cells = set h.cells n c; free = free }) n (content c)
unfolding owner_at
set_once h n c free low = record {
  here = ap (option_and_then content) (slice_get-set h.cells n c low);
  others = λ m other. ap (option_and_then content) (slice_get-set_other h.cells n m c other);
  count = length-set h.cells n c;
}

-- the heap after an owned cell was given up
left_is : (h : Cells) (n : ℕ) (o : BlockKey × List Voxel) → option_and_then content (slice_get h.cells n) ≡ Some o → given_up h n ≡ record { cells = set h.cells n (Free o.1); free = h.free ++ n ∷ [] }
left_is h n o e = ap (given_up_with h n) e

pub left : (h : Cells) (n : ℕ) (o : BlockKey × List Voxel) → owner_at h n ≡ Some o → IsChanged h (given_up h n) n None
unfolding owner_at
left h n o e = subst (λ u. IsChanged h u n None) (sym (left_is h n o e)) (set_once h n (Free o.1) (h.free ++ n ∷ []) (owned_below h.cells n o e))

pub left_free : (h : Cells) (n : ℕ) (o : BlockKey × List Voxel) → owner_at h n ≡ Some o → length (given_up h n).free ≡ length h.free + 1
unfolding owner_at
left_free h n o e = ap (λ (u : Cells). length u.free) (left_is h n o e) ∙ length-append h.free (n ∷ [])

-- the heap after a key drew a free cell
pub made_in : (h : Cells) (k : BlockKey) (n : ℕ) → n < length h.cells → IsChanged h (drawn h k (Some n)) n (Some (k, new_block))
made_in h k n low = set_once h n (Owned k new_block) (take (length h.free - 1) h.free) low

pub made_free : (h : Cells) (k : BlockKey) (n : ℕ) → 0 < length h.free → length (drawn h k (Some n)).free + 1 ≡ length h.free
made_free h k n some =
    let t = length-take (length h.free - 1) h.free in
    omega (arith, t)

-- the heap after a key drew a free cell and its block was written there
entered_is : (h : Cells) (k : BlockKey) (n : ℕ) (v : List Voxel) → n < length h.cells
    → with_block_at (drawn h k (Some n)) n v ≡ record { cells = set (set h.cells n (Owned k new_block)) n (Owned k v); free = take (length h.free - 1) h.free }
entered_is h k n v low = written (drawn h k (Some n)) n (k, new_block) v (ap (option_and_then content) (slice_get-set h.cells n (Owned k new_block) low))

pub entered : (h : Cells) (k : BlockKey) (n : ℕ) (v : List Voxel) → n < length h.cells → IsChanged h (with_block_at (drawn h k (Some n)) n v) n (Some (k, v))
entered h k n v low = subst (λ u. IsChanged h u n (Some (k, v))) (sym (entered_is h k n v low)) (set_twice h n (Owned k new_block) (Owned k v) (take (length h.free - 1) h.free) low)

pub entered_free : (h : Cells) (k : BlockKey) (n : ℕ) (v : List Voxel) → n < length h.cells → 0 < length h.free → length (with_block_at (drawn h k (Some n)) n v).free + 1 ≡ length h.free
entered_free h k n v low some =
    let l : length (with_block_at (drawn h k (Some n)) n v).free ≡ length (take (length h.free - 1) h.free) = ap (λ (u : Cells). length u.free) (entered_is h k n v low) in
    let t = length-take (length h.free - 1) h.free in
    omega (arith, l, t)

-- an owned cell has a content
pub not_owned : (h : Cells) (n : ℕ) → is_some (owner_at h n) ≡ true → None ≡ option_and_then content (slice_get h.cells n) → ⊥
unfolding owner_at
not_owned h n owned none = (let z : false ≡ true = ap is_some none ∙ owned in absurd (cc))
