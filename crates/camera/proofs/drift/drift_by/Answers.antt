use Rattle.camera.proofs.DriftLemmas.{few, rounded_high}
use Rattle.camera.proofs.drift.drift_by.Goals as goal

pub returns-clause-high : goal.returns-clause-high
returns-clause-high c =
    let r = c.rounding in
    let x = c.requires in
    rounded_high r.result r.ensures.low (few r.result c.args.x c.args.y c.args.z r.ensures.value c.ranges.x c.ranges.y c.ranges.z x.x_high x.y_high x.z_high)
