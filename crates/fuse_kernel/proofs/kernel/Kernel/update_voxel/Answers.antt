use Rattle.std.proofs.Common.{◌∙◌, ap, arith}
use Rattle.std.specs.Prelude.{pos}
use Rattle.std.proofs.lemmas.Int.{ints}
use Rattle.depth_view.specs.Views.{view_of}
use Rattle.fuse_kernel.specs.Updates.{averaged}
use Rattle.fuse_kernel.proofs.Machine.{plain_read}
use Rattle.fuse_kernel.proofs.RunLemmas.{met_more, unmet_more}
use Rattle.fuse_kernel.proofs.kernel.Kernel.update_voxel.Goals as goal

pub returns-in-Some : goal.returns-in-Some
returns-in-Some c = λ frame m b voxels fits is at was.
    let k = c.args.self.now in
    let same = plain_read (pos 8589934592) c.in-Some.eta (omega (arith, ints)) c.in-Some.ensures.bound in
    met_more (view_of k.camera.now m frame) k.max_weight b c.args.i voxels c.args.block.now c.set.new.self c.get.result c.averaged-voxel.result c.args.point c.in-Some.eta
    at was (c.in-Some.ensures.value frame m fits is) c.get.ensures.count c.get.ensures.value (c.averaged-voxel.ensures.value ∙ ap (λ eta. averaged k.camera.now.mu k.max_weight eta c.get.result) same) c.set.ensures

pub returns-in_default : goal.returns-in_default
returns-in_default c = λ frame m b voxels fits is at was.
    unmet_more (view_of c.args.self.now.camera.now m frame) c.args.self.now.max_weight b c.args.i voxels c.args.block.now c.args.point at was (c.in_default.ensures.value frame m fits is)
