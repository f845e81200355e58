use Rattle.fuse_kernel.proofs.PixelLemmas.{deep_fits, pixel_test}
use Rattle.fuse_kernel.proofs.pixel_axis.is_pixel.Goals as goal

pub overflow_mul-z : goal.overflow_mul-z
overflow_mul-z c = deep_fits c.args.z c.requires.z

pub returns : goal.returns
returns c = pixel_test c.is_rest.result c.args.f c.args.k c.args.x c.args.z c.args.estimate c.rest.result c.ranges.f c.ranges.k c.ranges.x c.ranges.z c.ranges.estimate c.requires.z c.rest.ensures.bound c.rest.ensures.value c.is_rest.ensures
