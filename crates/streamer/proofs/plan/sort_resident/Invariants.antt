use Rattle.streamer.proofs.Sorting.{Sorting}
use Rattle.streamer.proofs.plan.sort_resident.Given as goal

abbrev pub invariant-loop-key : goal.invariant-loop-key
invariant-loop-key l = Sorting l.camera l.pose l.keys l.key-index l.resident.leave.items l.resident.stay.items l.resident.active
