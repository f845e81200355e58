use Rattle.ray_ranges.proofs.PartLemmas.{in_part, part_small}
use Rattle.ray_ranges.proofs.laws.voxel_is_in_part.Goals as goal

pub returns : goal.returns
returns c = λ n. (part_small n, in_part n)
