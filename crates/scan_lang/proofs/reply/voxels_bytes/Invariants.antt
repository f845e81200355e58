use Rattle.std.proofs.Common.{◌≡◌, ◌++◌, drop}
use Rattle.std.specs.List.{flat_map}
use Rattle.scan_lang.specs.Replies.{voxel_line, voxels_text}
use Rattle.scan_lang.proofs.reply.voxels_bytes.Given as goal

abbrev pub invariant-loop-voxel : goal.invariant-loop-voxel
invariant-loop-voxel l = l.bytes.items ++ flat_map voxel_line (drop l.voxel-index l.known) ≡ voxels_text l.blocks l.known
