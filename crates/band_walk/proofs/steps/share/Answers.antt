use Rattle.band_walk.proofs.StepLemmas.{share_read}
use Rattle.band_walk.proofs.steps.share.Goals as goal

pub returns : goal.returns
returns c =
    share_read c.args.offset c.args.n c.raised.result c.divided.result c.lowered.result c.ranges.offset (record { sfits = c.lowered.type_inv }) c.requires.least
    c.raised.ensures.value c.divided.ensures.value c.lowered.ensures
