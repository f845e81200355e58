-- The bucket of a key: the exclusive or of three multiplied coordinates (Nießner, Zollhöfer, Izadi and Stamminger 2013).
-- The factors, each product modulo 2^32, and a power of two of buckets are this project's own.
use Rattle.std.specs.Prelude.{ℕ, ◌%◌, ◌^◌, ℤ, bit_xor, unsigned_abs, pos, ◌*ℤ◌, Option, Some, None}
use Rattle.std.specs.Int.{int_rem_euclid}
use Rattle.voxel_block.specs.declared.key.BlockKey.{BlockKey}
use Rattle.voxel_block.specs.Words.{key_of}

-- what one axis adds to the hash: the coordinate times the factor, modulo 2^32
abbrev pub hash_axis : ℤ → ℤ → ℕ
hash_axis a m = unsigned_abs (int_rem_euclid (a *ℤ m) (pos (2 ^ 32)))

-- the bucket of a key, where there are this many
abbrev pub bucket_of : ℕ → BlockKey → ℕ
bucket_of buckets k = bit_xor (bit_xor (hash_axis k.x (pos 73856093)) (hash_axis k.y (pos 19349669))) (hash_axis k.z (pos 83492791)) % buckets

-- the bucket of a key where there is one, and 0 where there is none
abbrev pub home_in : ℕ → Option BlockKey → ℕ
home_in buckets None = 0
home_in buckets (Some k) = bucket_of buckets k

-- the bucket of the key with this word
unfoldable pub home : ℕ → ℕ → ℕ
home buckets w = home_in buckets (key_of w)
