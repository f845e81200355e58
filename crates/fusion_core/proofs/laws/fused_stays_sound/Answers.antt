use Rattle.fusion_core.proofs.SoundLemmas.{fused_stays_sound}
use Rattle.fusion_core.proofs.laws.fused_stays_sound.Goals as goal

pub returns : goal.returns
returns c = fused_stays_sound
