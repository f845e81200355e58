use Rattle.raycaster.proofs.PictureLemmas.{picture_same}
use Rattle.raycaster.proofs.laws.active_blocks_decide.Goals as goal

pub returns : goal.returns
returns c = picture_same
