-- The cells of a heap, and the list of those that are free.
use Rattle.std.specs.Prelude.{◌≡◌, ℕ, zero, suc, ◌==◌, ◌-◌, Bool, true, false, if◌then◌else◌, List, [], ◌∷◌, ◌++◌, length, take, replicate, slice_get, slice_set, Option, Some, None, option_and_then, count_by}
use Rattle.voxel_block.specs.declared.key.BlockKey.{BlockKey}
use Rattle.voxel_block.specs.declared.voxel.Voxel.{Voxel}
use Rattle.voxel_block.specs.Blocks.{new_block}
use Rattle.block_heap.specs.declared.cell.Cell.{Cell}
use Rattle.block_heap.specs.declared.cell.Cell.TheVariants.{Free, Owned}

-- a heap as contracts see it: its cells in order of their numbers, and the numbers of the free ones
pub record Cells : Type 0 where
  pub cells : List Cell
  pub free : List ℕ

-- whether a cell is free
abbrev pub is_free : Cell → Bool
is_free (Free b) = true
is_free (Owned k b) = false

-- the key and the block of an owned cell, nothing of a free one
abbrev pub content : Cell → Option (BlockKey × List Voxel)
content (Free b) = None
content (Owned k b) = Some (k, b)

-- the free cell with the same block
abbrev pub freed : Cell → Cell
freed (Free b) = Free b
freed (Owned k b) = Free b

-- the cell of a key that owns a block of new voxels
abbrev pub owned_by : BlockKey → Cell
owned_by key = Owned key new_block

-- the cell of this key with new voxels, or the free cell with the same block
abbrev pub with_owner : Cell → Option BlockKey → Cell
with_owner c (Some key) = owned_by key
with_owner c None = freed c

-- whether a free cell is there
abbrev pub has_free : Option Cell → Bool
has_free None = false
has_free (Some c) = is_free c

-- whether the cell of this number is there and free
abbrev pub is_free_at : List Cell → ℕ → Bool
is_free_at cells n = has_free (slice_get cells n)

-- the list has the number of each free cell once, and no other number
pub record IsFreeList (cells : List Cell) (free : List ℕ) : Type 0 where
  pub each : (n : ℕ) → count_by (λ m. m == n) free ≡ (if is_free_at cells n then 1 else 0)

-- the numbers below n, the greatest first
abbrev pub numbers_down : ℕ → List ℕ
numbers_down zero = []
numbers_down (suc n) = n ∷ numbers_down n

-- a new heap of n cells: all are free, with new voxels, and the lowest number comes last
abbrev pub new_cells : ℕ → Cells
new_cells n = record { cells = replicate n (Free new_block); free = numbers_down n }

-- the heap after the cell of number n with this content was given up: an owned cell is free with the block that it had,
-- and its number comes last; nothing changes where there was none
abbrev pub given_up_with : Cells → ℕ → Option (BlockKey × List Voxel) → Cells
given_up_with h n None = h
given_up_with h n (Some owned) = record { cells = slice_set h.cells n (Free owned.1); free = h.free ++ n ∷ [] }

-- the heap after the cell of number n was given up
abbrev pub given_up : Cells → ℕ → Cells
given_up h n = given_up_with h n (option_and_then content (slice_get h.cells n))

-- the heap after a key drew the cell of number n, where there was one: the cell is the key's, with new voxels, and its
-- number, the last of the free ones, is gone
abbrev pub drawn : Cells → BlockKey → Option ℕ → Cells
drawn h key None = h
drawn h key (Some n) = record { cells = slice_set h.cells n (owned_by key); free = take (length h.free - 1) h.free }
