use Rattle.std.proofs.Common.{arith}
use Rattle.std.proofs.lemmas.Int.{ints}
use Rattle.camera.proofs.camera.Camera.block_of.Goals as goal

pub block_of-requires-clause-size : goal.block_of-requires-clause-size
block_of-requires-clause-size c = omega (arith, ints, c.self.invariant.ranges.voxel, c.self.invariant.ranges.voxel_high)
