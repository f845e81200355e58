use Rattle.std.proofs.Common.{subst, sym}
use Rattle.std.specs.Prelude.{pos}
use Rattle.fixed_geom.specs.Vectors.{IsWithin}
use Rattle.fuse_kernel.proofs.PixelLemmas.{pair_fits, pair_read, pair_within, rest_read}
use Rattle.fuse_kernel.proofs.pixel_axis.rest.Goals as goal

pub overflow_add-result : goal.overflow_add-result
overflow_add-result c = pair_fits c.times.result c.times-2.result c.times.ensures.bound c.times-2.ensures.bound

pub returns-clause-value : goal.returns-clause-value
returns-clause-value c =
    rest_read c.args.f c.args.k c.args.x c.args.z c.args.estimate c.times.result c.offset.result c.times-2.result c.ranges.f c.ranges.k c.ranges.x c.ranges.z c.ranges.estimate
    c.times.ensures.value c.offset.ensures.value c.times-2.ensures.value c.times.ensures.bound c.offset.ensures.bound c.times-2.ensures.bound

pub returns-clause-bound : goal.returns-clause-bound
returns-clause-bound c = subst (IsWithin (pos 576460752303423488)) (sym (pair_read c.times.result c.times-2.result c.times.ensures.bound c.times-2.ensures.bound)) (pair_within c.times.result c.times-2.result c.times.ensures.bound c.times-2.ensures.bound)
