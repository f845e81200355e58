use Rattle.voxel_block.proofs.VoxelLists.{voxels_of-filled, all_new_filled}
use Rattle.voxel_block.proofs.block.Block.make.Goals as goal

pub invariant_of-result : goal.invariant_of-result
invariant_of-result c = (c.in_ok-distances.ensures.len, c.in_ok-weights.ensures.len, all_new_filled 512 c.in_ok-distances.distances.items c.in_ok-weights.weights.items (c.in_ok-distances.ensures.items_if_clones_equal (λ _ e. e)) (c.in_ok-weights.ensures.items_if_clones_equal (λ _ e. e)))

pub returns : goal.returns
returns c = voxels_of-filled 512 c.in_ok-distances.distances.items c.in_ok-weights.weights.items (c.in_ok-distances.ensures.items_if_clones_equal (λ _ e. e)) (c.in_ok-weights.ensures.items_if_clones_equal (λ _ e. e))
