-- What is proved of every block.
use Rattle.std.specs.Prelude.{◌≡◌, ℤ, pos, int_le, ◌≤ℤ◌, List}
use Rattle.voxel_block.specs.declared.voxel.Voxel.{Voxel}
use Rattle.voxel_block.specs.Summaries.{summary_of}
use Rattle.collector.specs.Empty.{is_empty_block}

-- a block is empty where the least size in its summary is at least the bound
abbrev pub EmptyBySummary : Type 0
EmptyBySummary = (empty_f : ℤ) (voxels : List Voxel) → empty_f ≤ℤ pos 32767 → int_le empty_f (pos (summary_of voxels).least) ≡ is_empty_block empty_f voxels
