use Rattle.voxel_block.proofs.KeyLaws.{entries_of_ordered}
use Rattle.voxel_block.proofs.tests.count.Goals as goal

pub returns : goal.returns
returns c = entries_of_ordered c.args.map.now.entries c.len.ensures.ordered
