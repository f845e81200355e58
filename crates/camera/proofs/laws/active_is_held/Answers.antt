use Rattle.camera.proofs.ChunkLemmas.{active_is_held}
use Rattle.camera.proofs.laws.active_is_held.Goals as goal

pub returns : goal.returns
returns c = λ k m b o p. active_is_held k m b o.ranges p
