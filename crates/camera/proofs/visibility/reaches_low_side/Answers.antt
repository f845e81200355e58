use Rattle.camera.proofs.VisibilityLemmas.{low_side_read}
use Rattle.camera.proofs.visibility.reaches_low_side.Goals as goal

pub returns : goal.returns
returns c =
    let a = c.args in
    let r = c.requires in
    low_side_read c.times.result c.times-2.result a.f a.x a.side a.depth r.f r.x r.side r.depth c.times.ensures.value c.times.ensures.bound c.times-2.ensures.value c.times-2.ensures.bound
