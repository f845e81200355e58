use Rattle.std.proofs.Common.{◌++◌, ap, ◌∙◌}
use Rattle.std.specs.FinMap.{keys}
use Rattle.streamer.specs.Places.{blocks_of}
use Rattle.streamer.specs.Seen.{seen}
use Rattle.streamer.proofs.Counts.{known_keys}
use Rattle.streamer.proofs.rest.Rest.keys.Goals as goal

pub returns-clause-blocks : goal.returns-clause-blocks
returns-clause-blocks c =
    known_keys (seen c.self.inside) c.append.new.keys.items c.sort_unstable.new.self.items c.self.invariant
    (c.in_ok-append.ensures ∙ (λ i. c.in_ok-known.ensures i ++ (c.deref.ensures.value ∙ c.in_ok-stored.ensures) i)) c.sort_unstable.ensures.permutation c.sort_unstable.ensures.sorted
    ∙ ap (λ p. keys (blocks_of p)) c.self.view_is
