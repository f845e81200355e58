use Rattle.std.proofs.Common.{◌≡◌, ◌++◌, drop}
use Rattle.streamer.specs.Places.{blocks_of}
use Rattle.session.specs.Sums.{known_among}
use Rattle.session.proofs.known.known_at_keys.Given as goal

abbrev pub invariant-loop-key : goal.invariant-loop-key
invariant-loop-key l = l.known.items ++ known_among (blocks_of l.rest) (drop l.key-index l.keys) ≡ known_among (blocks_of l.rest) l.keys
