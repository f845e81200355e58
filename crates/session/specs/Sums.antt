-- Sums over known voxels.
use Rattle.std.specs.Prelude.{ℕ, ◌+◌, ◌*◌, ◌≤◌, pos, ◌+ℤ◌, unsigned_abs, Option, None, Some, List, []}
use Rattle.std.specs.FinMap.{get}
use Rattle.std.specs.List.{flat_map, fold}
use Rattle.scan_lang.specs.declared.reply.KnownVoxel.{KnownVoxel}
use Rattle.fusion_core.specs.Maps.{BlockMap}
use Rattle.voxel_block.specs.declared.key.BlockKey.{BlockKey}
use Rattle.voxel_block.specs.declared.voxel.Voxel.{Voxel}
use Rattle.voxel_block.specs.Packing.{voxels_in}
use Rattle.session.specs.Fold.{known_in}
use Rattle.session.specs.declared.totals.Sums.{Sums}

-- the known voxels of a block, if there is one
abbrev pub known_in_option : BlockKey → Option (List Voxel) → List KnownVoxel
known_in_option b None = []
known_in_option b (Some voxels) = known_in b voxels

-- the known voxels of the blocks that a map has at keys
abbrev pub known_among : BlockMap → List BlockKey → List KnownVoxel
known_among m ks = flat_map (λ k. known_in_option k (get m k)) ks

-- the sums over no voxel
abbrev pub nothing : Sums
nothing = record { known = 0; weight = 0; distance = pos 0 }

-- the sums with one voxel more
abbrev pub added : Sums → KnownVoxel → Sums
added s v = record { known = s.known + 1; weight = s.weight + v.w; distance = s.distance +ℤ v.f }

-- the same, if there is a voxel
abbrev pub added_if : Sums → Option KnownVoxel → Sums
added_if s None = s
added_if s (Some v) = added s v

-- the sums with the known voxels of a block
abbrev pub with_known : Sums → BlockKey × List Voxel → Sums
with_known s e = fold added s (known_in e.0 e.1)

-- the sums with the known voxels of a packed block
abbrev pub with_packed_known : Sums → BlockKey × List ℕ → Sums
with_packed_known s e = fold added s (known_in e.0 (voxels_in e.1))

-- the sums have the sizes that the number of voxels allows
pub record IsSum (s : Sums) : Type 0 where
  pub weight : s.weight ≤ 255 * s.known
  pub distance : unsigned_abs s.distance ≤ 32768 * s.known
