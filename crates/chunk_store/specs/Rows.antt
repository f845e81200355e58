-- The blocks of one chunk: a place for each of its 512 keys.
use Rattle.std.specs.Prelude.{◌≡◌, ℕ, ◌+◌, ◌*◌, ◌^◌, ◌<◌, ◌-ℤ◌, ℤ, pos, unsigned_abs, Bool, ◌&&◌, List, [], ◌∷◌, Option, Some, slice_get}
use Rattle.std.specs.List.{cons_option}
use Rattle.std.specs.Map.{keys_of}
use Rattle.std.specs.Option.{option_and_then, option_map}
use Rattle.std.specs.Int.{int_rem_euclid}
use Rattle.std.specs.Ordering.{int_eq}
use Rattle.voxel_block.specs.declared.key.BlockKey.{BlockKey}
use Rattle.voxel_block.specs.declared.chunk.ChunkKey.{ChunkKey}
use Rattle.voxel_block.specs.Chunks.{chunk_of}
use Rattle.voxel_block.specs.Words.{key_of, shifted_of, word_of}

-- whether two chunks are the same
abbrev pub chunk_eq : ChunkKey → ChunkKey → Bool
chunk_eq a b = int_eq a.x b.x && (int_eq a.y b.y && int_eq a.z b.z)

-- where a coordinate lies in its chunk, from 0 to 7
unfoldable pub offset_of : ℤ → ℕ
offset_of a = unsigned_abs (int_rem_euclid a (pos 8))

-- the place of a key in the row of its chunk
unfoldable pub place_of : BlockKey → ℕ
place_of k = offset_of k.x * 64 + offset_of k.y * 8 + offset_of k.z

-- a key with the packed bytes of its block
abbrev pub Held : Type 0
Held = BlockKey × List ℕ

-- the places of a chunk
abbrev pub Row : Type 0
Row = List (Option Held)

-- what a place holds, nothing where the row has no such place
abbrev pub held_at : Row → ℕ → Option Held
held_at row i = option_and_then (λ place. place) (slice_get row i)

-- what the row holds, in the order of its places
abbrev pub held_in : Row → List Held
held_in [] = []
held_in (place ∷ places) = cons_option place (held_in places)

-- the keys of what the row holds
abbrev pub keys_in : Row → List BlockKey
keys_in row = keys_of (held_in row)

-- the bytes that a chunk's row has at a key
abbrev pub bytes_in : Row → BlockKey → Option (List ℕ)
bytes_in row k = option_map (λ h. h.1) (held_at row (place_of k))

-- a coordinate has 16 bits
pub record IsShort (a : ℤ) : Type 0 where
  pub low : shifted_of a < 2 ^ 16
  pub back : pos (shifted_of a) -ℤ pos 32768 ≡ a

-- the key of this place of this chunk, whose coordinates have 16 bits
pub record IsKeyOf (c : ChunkKey) (i : ℕ) (k : BlockKey) : Type 0 where
  pub chunk : chunk_of k ≡ c
  pub place : place_of k ≡ i
  pub word : key_of (word_of k) ≡ Some k

-- each place of the row holds nothing or the block of its key
abbrev pub IsRow : ChunkKey → Row → Type 0
IsRow c row = (i : ℕ) (h : Held) → held_at row i ≡ Some h → IsKeyOf c i h.0
