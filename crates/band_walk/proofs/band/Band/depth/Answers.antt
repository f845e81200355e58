use Rattle.std.proofs.Common.{◌∙◌, ap}
use Rattle.camera.specs.Cameras.{depth_of}
use Rattle.band_walk.proofs.band.Band.depth.Goals as goal

pub returns-clause-value : goal.returns-clause-value
returns-clause-value c =
    let b = c.args.self.now in
    c.depth.ensures.value b.camera.now b.taken ∙ ap (depth_of b.camera.now) c.at.ensures.value
