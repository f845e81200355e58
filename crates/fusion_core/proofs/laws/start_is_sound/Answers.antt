use Rattle.fusion_core.proofs.SoundLemmas.{start_is_sound}
use Rattle.fusion_core.proofs.laws.start_is_sound.Goals as goal

pub returns : goal.returns
returns c = start_is_sound
