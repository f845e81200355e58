use Rattle.std.proofs.Common.{◌≡◌, ◌++◌, drop}
use Rattle.std.specs.List.{flat_map}
use Rattle.crossing_export.specs.Crossings.{block_crossings}
use Rattle.streamer.specs.Places.{blocks_of}
use Rattle.session.proofs.points.points_at_keys.Given as goal

abbrev pub invariant-loop-key : goal.invariant-loop-key
invariant-loop-key l = l.points.items ++ flat_map (block_crossings (blocks_of l.rest) l.size) (drop l.key-index l.keys) ≡ flat_map (block_crossings (blocks_of l.rest) l.size) l.keys
