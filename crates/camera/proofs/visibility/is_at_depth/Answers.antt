use Rattle.camera.proofs.VisibilityLemmas.{depth_test}
use Rattle.camera.proofs.visibility.is_at_depth.Goals as goal

pub returns-then-z-margin-ge1 : goal.returns-then-z-margin-ge1
returns-then-z-margin-ge1 c =
    let n = c.margin-margin in
    depth_test c.args.camera.now c.args.z n.result c.max_depth.result c.requires.camera c.requires.z n.ensures.value n.ensures.bound c.max_depth.ensures.value c.max_depth.ensures.bound c.if-z-margin-ge1.true
