use Rattle.std.proofs.Common.{ap, ◌∙◌}
use Rattle.streamer.specs.Places.{blocks_of}
use Rattle.session.specs.Sums.{known_among}
use Rattle.session.proofs.KnownLemmas.{known_by_keys}
use Rattle.session.proofs.known.known_voxels.Goals as goal

pub returns : goal.returns
returns c = let m = blocks_of c.args.rest.now in c.in_ok-known.ensures ∙ ap (known_among m) (c.deref.ensures.value ∙ c.in_ok-keys.ensures.blocks) ∙ known_by_keys m
