-- What a look at all voxels of a block keeps of them.
use Rattle.std.specs.Prelude.{ℕ, min, unsigned_abs, List}
use Rattle.std.specs.List.{count_by, filter, fold}
use Rattle.voxel_block.specs.declared.voxel.Voxel.{Voxel}
use Rattle.voxel_block.specs.declared.summary.Summary.{Summary}
use Rattle.voxel_block.specs.Voxels.{is_known}

-- the least size of the distances of these voxels, and at most 32767
abbrev pub least_size : List Voxel → ℕ
least_size = fold (λ least v. min least (unsigned_abs v.f)) 32767

-- how many voxels are known, and the least size of their distances
abbrev pub summary_of : List Voxel → Summary
summary_of voxels = record { known = count_by is_known voxels; least = least_size (filter is_known voxels) }
