use Rattle.fuse_kernel.proofs.RunLemmas.{signed_distance_found}
use Rattle.fuse_kernel.proofs.kernel.Kernel.signed_distance.Goals as goal

pub returns-clause-value : goal.returns-clause-value
returns-clause-value c = λ frame m fits is.
    let k = c.args.self.now in
    signed_distance_found k.camera.now m frame c.args.point c.in_ok-u.u c.in_ok-u.v c.index.result k.columns.size c.at-depth.result k.truncation.mu c.signed_distance.result
    k.mu k.truncation.least k.truncation.most c.requires.point.z fits k.width c.in_ok-u.ensures.value c.index.ensures (record { sfits = c.at-depth.type_inv }) (c.at-depth.ensures.value k.camera.now frame is) c.signed_distance.ensures.value
