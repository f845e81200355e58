use Rattle.std.proofs.Common.{◌≡◌, ◌+◌, ◌≤◌, drop}
use Rattle.std.specs.List.{count_by}
use Rattle.camera.specs.Cameras.{is_active}
use Rattle.streamer.proofs.plan.active_count.Given as goal

abbrev pub invariant-loop-key : goal.invariant-loop-key
invariant-loop-key l = (l.count + count_by (is_active l.camera l.pose) (drop l.key-index l.keys) ≡ count_by (is_active l.camera l.pose) l.keys) × (l.count ≤ l.key-index)
