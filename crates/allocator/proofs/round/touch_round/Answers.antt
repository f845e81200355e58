use Rattle.std.proofs.Common.{◌<◌, ◌≤◌, ◌+◌, ◌-◌, subst, arith}
use Rattle.std.specs.FinMap.{len}
use Rattle.band_walk.specs.BandViews.{view_of_band}
use Rattle.band_walk.specs.Bands.{band}
use Rattle.spatial_hash.specs.Contents.{contents}
use Rattle.spatial_hash.specs.Table.{Table}
use Rattle.allocator.specs.Rounds.{IsRoundOf}
use Rattle.allocator.specs.declared.end.TouchEnd.TheVariants.{All, Spent}
use Rattle.allocator.proofs.Closing.{keeps_cells, new_keys, touches_list}
use Rattle.allocator.proofs.Dealing.{band_touched}
use Rattle.allocator.proofs.round.touch_round.Goals as goal

pub returns-in-Some : goal.returns-in-Some
returns-in-Some g c =
    let w = view_of_band c.args.band.now in
    let worked = c.in_ok-worked.ensures in
    let start = c.in_ok-share.share.start in
    let n = c.args.workers in
    let closed = c.close-touched.ensures in
    let v = c.in_ok-worked.worked.seat.knows in
    let spent = worked.spent c.in-Some.drawn c.in-Some.is in
    let count : len (contents start) + (start.nodes - start.linked) ≤ len (contents c.close-touched.result) + n = (let m = closed.count spent.1 in let s = c.in_ok-share.ensures.share.1 in omega (arith, m, s)) in
    let new = new_keys start c.close-touched.result v (band w) closed.shared closed.only worked.only start.nodes start.linked n count in
    record { ended = subst (λ (t : Table). IsRoundOf t (band w) n (Spent c.in-Some.drawn)) c.in_ok-share.ensures.share.0 (spent.0, new) }

pub returns-in-None : goal.returns-in-None
returns-in-None g c =
    let w = view_of_band c.args.band.now in
    let worked = c.in_ok-worked.ensures in
    let share = c.in_ok-share.share in
    let start = share.start in
    let n = c.args.workers in
    let r = c.close-touched.result in
    let closed = c.close-touched.ensures in
    let v = c.in_ok-worked.worked.seat.knows in
    let some : 0 < n = (let a = c.requires.workers.0 in omega (arith, a)) in
    let all = band_touched share w n c.in_ok-worked.worked.seat c.in_ok-worked.worked.spent some worked c.in-None.is in
    let touches = touches_list start r v (band w) closed.shared closed.only worked.only closed.touched all in
    let cells = keeps_cells start r v (band w) closed.shared closed.only worked.only in
    record { ended = subst (λ (t : Table). IsRoundOf t (band w) n (All r)) c.in_ok-share.ensures.share.0 (touches, cells, record { buckets = closed.size.0; nodes = closed.size.1 }) }
