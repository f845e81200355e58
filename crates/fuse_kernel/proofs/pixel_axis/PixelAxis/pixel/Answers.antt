use Rattle.fuse_kernel.proofs.PixelLemmas.{pixel_axis_read}
use Rattle.fuse_kernel.proofs.pixel_axis.PixelAxis.pixel.Goals as goal

pub returns : goal.returns
returns c =
    let k = c.args.self.now in
    pixel_axis_read k.f k.c c.args.x c.args.z c.pixel.result k.f_within k.c_within c.ranges.x c.ranges.z (record { sfits = c.pixel.type_inv }) c.pixel.ensures
