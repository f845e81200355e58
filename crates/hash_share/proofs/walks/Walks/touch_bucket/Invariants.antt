use Rattle.std.proofs.Common.{◌≡◌, length}
use Rattle.spatial_hash.specs.Hash.{home}
use Rattle.fusion_core.specs.TouchWords.{shown, Passes}
use Rattle.hash_share.specs.Touching.{SeesMore}
use Rattle.hash_share.proofs.walks.Walks.touch_bucket.Given as goal

abbrev pub invariant-loop-i : goal.invariant-loop-i
invariant-loop-i l = (l.seat.table_id ≡ l.initial.seat.table_id) × (l.seat.id ≡ l.initial.seat.id) × (l.seat.me.1 ≡ l.initial.seat.me.1) × (length l.seat.me.0.seen ≡ length l.initial.seat.me.0.seen)
    × SeesMore l.initial.seat.me.0 l.seat.me.0 × Passes (shown l.initial.seat.me.0.start l.seat.me.0.seen) l.key (home l.initial.seat.me.0.start.buckets l.key) l.i
