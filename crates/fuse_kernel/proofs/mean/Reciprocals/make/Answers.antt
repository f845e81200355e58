use Rattle.std.proofs.Common.{rules, ◌<◌, ◌≢◌, length, arith, get_or-set_other, get_or-set_same, below_more}
use Rattle.fuse_kernel.proofs.mean.Reciprocals.make.Goals as goal

pub loop-w-preserved : goal.loop-w-preserved
loop-w-preserved c = (
  search rules,
  below_more _ _
      (λ k h least. let ne : k ≢ c.loop-w.w = omega arith in rw get_or-set_other (c.loop-w.invariant.1 k h least))
      (λ least. let lt : c.loop-w.w < length c.loop-w.reciprocals = omega (arith, c.loop-w.invariant.0, c.loop-w-test.true) in rw get_or-set_same c.reciprocal.ensures),
)
