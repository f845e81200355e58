use Rattle.depth_view.specs.Views.{view_of}
use Rattle.fuse_kernel.proofs.LawLemmas.{meets_none_stays}
use Rattle.fuse_kernel.proofs.kernel.Kernel.update.Goals as goal

pub returns-then-not-may_see : goal.returns-then-not-may_see
returns-then-not-may_see c = λ p fits is.
    meets_none_stays (view_of c.args.self.now.camera.now c.args.self.now.pose.now p) c.args.self.now.max_weight c.args.key c.args.block.now c.len.ensures.voxels (c.may_see.ensures.invisible c.if-not-may_see.true)

pub loop-row-preserved : goal.loop-row-preserved
loop-row-preserved c = λ p fits is.
    c.update_row.ensures p c.args.self.now.pose.now c.args.key c.args.block.now fits is c.make-steps.ensures.value (c.loop-row.invariant p fits is)
