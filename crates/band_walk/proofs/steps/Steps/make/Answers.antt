use Rattle.std.proofs.Common.{rules, ◌<◌, ◌≢◌, length, arith, get_or-set_other, get_or-set_same, below_more}
use Rattle.band_walk.proofs.steps.Steps.make.Goals as goal

pub loop-n-preserved : goal.loop-n-preserved
loop-n-preserved c = (
  search rules,
  below_more _ _
      (λ k h least. let ne : k ≢ c.loop-n.n = omega arith in rw get_or-set_other (c.loop-n.invariant.1 k h least))
      (λ least. let lt : c.loop-n.n < length c.loop-n.reciprocals = omega (arith, c.loop-n.invariant.0, c.loop-n-test.true) in rw get_or-set_same c.reciprocal.ensures),
)
