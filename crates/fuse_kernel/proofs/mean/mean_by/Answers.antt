use Rattle.std.proofs.Common.{◌+◌, ◌/◌, ◌∙◌, ap, subst, sym}
use Rattle.std.specs.Prelude.{pos}
use Rattle.fixed_geom.specs.Vectors.{IsWithin}
use Rattle.fuse_kernel.proofs.MeanLemmas.{mean_read}
use Rattle.fuse_kernel.proofs.UpdateLemmas.{mean_within}
use Rattle.fuse_kernel.proofs.mean.mean_by.Goals as goal

pub returns-clause-value : goal.returns-clause-value
returns-clause-value c =
    mean_read c.args.w c.raised_sum-sum.result c.raised.result c.raised-2.result c.raised_mean.result c.args.old c.args.new c.lowered.result c.ranges.old c.ranges.new
    c.raised.ensures.value c.raised-2.ensures.value c.raised_sum-sum.ensures.value (c.raised_mean.ensures.value ∙ ap (λ z. c.raised_sum-sum.result / (z + 1)) c.from.ensures) c.raised_mean.ensures.bound c.lowered.ensures

pub returns-clause-bound : goal.returns-clause-bound
returns-clause-bound c = subst (IsWithin (pos 32767)) (sym (returns-clause-value c)) (mean_within c.args.w c.args.old c.args.new c.requires.old c.requires.new)
