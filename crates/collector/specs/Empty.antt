-- Which blocks hold no surface.
use Rattle.std.specs.Prelude.{ℤ, pos, int_lt, unsigned_abs, Bool, not, ◌&&◌, List}
use Rattle.std.specs.List.{list_any}
use Rattle.voxel_block.specs.declared.voxel.Voxel.{Voxel}
use Rattle.voxel_block.specs.Voxels.{is_known}

-- a block is empty where no known voxel is nearer to the surface than empty_f (Nießner et al. 2013 collect blocks by
-- the least distance; the exact test is this project's own)
abbrev pub is_empty_block : (empty_f : ℤ) → List Voxel → Bool
is_empty_block empty_f voxels = not (list_any (λ v. is_known v && int_lt (pos (unsigned_abs v.f)) empty_f) voxels)
