-- Chunks of 8 by 8 by 8 blocks.
use Rattle.std.specs.Prelude.{ℤ, pos, refl}
use Rattle.std.specs.Coded.{Coded, code_by, coded×, coded_ℤ}
use Rattle.std.specs.Int.{int_div_euclid}
use Rattle.std.specs.declared.cmp.Ordering.{Ordering}
use Rattle.std.specs.Ordering.{int_cmp, ordering_then}
use Rattle.voxel_block.specs.declared.key.BlockKey.{BlockKey}
use Rattle.voxel_block.specs.declared.chunk.ChunkKey.{ChunkKey}

-- the chunk that a block lies in: each coordinate divided by 8, rounded down
abbrev pub chunk_of : BlockKey → ChunkKey
chunk_of b = record { x = int_div_euclid b.x (pos 8); y = int_div_euclid b.y (pos 8); z = int_div_euclid b.z (pos 8) }

-- chunks are ordered by x, then y, then z
abbrev pub chunk_cmp : ChunkKey → ChunkKey → Ordering
chunk_cmp a b = ordering_then (int_cmp a.x b.x) (ordering_then (int_cmp a.y b.y) (int_cmp a.z b.z))

-- a chunk is stored as its three coordinates
abbrev pub coded_chunk : Coded ChunkKey
coded_chunk = code_by (ℤ × (ℤ × ℤ)) (coded× coded_ℤ (coded× coded_ℤ coded_ℤ)) (λ k. (k.x, (k.y, k.z))) (λ p. record { x = p.0; y = p.1.0; z = p.1.1 }) (λ _. refl)
