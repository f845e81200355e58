use Rattle.std.proofs.Common.{◌≡◌, ◌++◌, drop, map}
use Rattle.streamer.proofs.table.first_of_each.Given as goal

abbrev pub invariant-loop-entry : goal.invariant-loop-entry
invariant-loop-entry l = l.keys.items ++ map (λ e. e.0) (drop l.entry-index l.entries) ≡ map (λ e. e.0) l.entries
