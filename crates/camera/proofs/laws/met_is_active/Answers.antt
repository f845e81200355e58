use Rattle.camera.proofs.Active.{met_is_active}
use Rattle.camera.proofs.laws.met_is_active.Goals as goal

pub returns : goal.returns
returns c = λ k m b i o p. met_is_active k m b i o.ranges o.sphere p.range
