use Rattle.fuse_kernel.proofs.PixelLemmas.{divided_read, pair_fits}
use Rattle.fuse_kernel.proofs.pixel_axis.pixel.Goals as goal

pub overflow_add-times : goal.overflow_add-times
overflow_add-times c = pair_fits c.times.result c.times-2.result c.times.ensures.bound c.times-2.ensures.bound

pub returns : goal.returns
returns c =
    divided_read c.args.f c.args.k c.args.x c.args.z c.times.result c.times-2.result c.divided.result c.ranges.f c.ranges.k c.ranges.x c.ranges.z (record { sfits = c.divided.type_inv })
    c.times.ensures.value c.times-2.ensures.value c.times.ensures.bound c.times-2.ensures.bound c.divided.ensures
