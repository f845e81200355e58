use Rattle.camera.proofs.Visible.{invisible_meets_none}
use Rattle.camera.proofs.laws.invisible_meets_none.Goals as goal

pub returns : goal.returns
returns c = λ k m b o p. invisible_meets_none k m b o.ranges p.range
