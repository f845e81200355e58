use Rattle.std.proofs.Common.{drop, not}
use Rattle.std.specs.FinMap.{contains_key}
use Rattle.streamer.specs.Places.{blocks_of}
use Rattle.streamer.proofs.Sorting.{Noted}
use Rattle.streamer.proofs.plan.fresh_keys.Given as goal

abbrev pub invariant-loop-key : goal.invariant-loop-key
invariant-loop-key l = Noted (λ b. not (contains_key (blocks_of l.rest) b)) l.keys (drop l.key-index l.keys) l.fresh.items
