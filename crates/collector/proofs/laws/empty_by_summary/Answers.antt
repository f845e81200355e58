use Rattle.std.proofs.Common.{refl}
use Rattle.voxel_block.specs.Summaries.{summary_of}
use Rattle.collector.proofs.EmptyLemmas.{empty_by_least}
use Rattle.collector.proofs.laws.empty_by_summary.Goals as goal

pub returns : goal.returns
returns c empty_f voxels high = empty_by_least empty_f (summary_of voxels) voxels high refl
