-- What the jobs of a board are done by.
use Rattle.std.specs.Prelude.{◌≡◌, ℕ, ⊤, List, Option, None, Some}
use Rattle.voxel_block.specs.declared.key.BlockKey.{BlockKey}
use Rattle.voxel_block.specs.declared.voxel.Voxel.{Voxel}
use Rattle.depth_view.specs.Views.{depth_list}
use Rattle.fuse_kernel.specs.declared.kernel.Kernel.{Kernel}
use Rattle.fuse_kernel.specs.Updates.{updated}
use Rattle.fusion_core.specs.declared.board.work.Work.{Work}
use Rattle.fusion_core.specs.declared.board.work.Work.TheVariants.{Fuse, Look}
use Rattle.fusion_core.specs.Frames.{IsKernelOf, view}

-- the depths of a work are those of its frame's pixels
abbrev pub IsWork : Work → Type 0
IsWork (Fuse frame depths) = depths ≡ depth_list frame.camera frame.depths
IsWork (Look m) = ⊤

-- the work updates blocks by a frame
abbrev pub IsFuse : Work → Type 0
IsFuse (Fuse frame depths) = ⊤
IsFuse (Look m) = ⊥

-- the greatest weight of a voxel under a work
abbrev pub greatest_weight : Work → ℕ
greatest_weight (Fuse frame depths) = frame.max_weight
greatest_weight (Look m) = m

-- the block of a key after the work: updated by the frame, or as it was where there is none
abbrev pub updated_by : Work → BlockKey → List Voxel → List Voxel
updated_by (Fuse frame depths) key voxels = updated (view frame) frame.max_weight key voxels
updated_by (Look m) key voxels = voxels

-- a work with a frame has the kernel of its frame
abbrev pub IsKernelFor : Work → Option Kernel → Type 0
IsKernelFor (Fuse frame depths) None = ⊥
IsKernelFor (Fuse frame depths) (Some kernel) = IsKernelOf frame kernel
IsKernelFor (Look m) kernel = ⊤
