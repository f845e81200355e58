use Rattle.std.proofs.Common.{◌≡◌, ◌≤◌, ◌-◌, refl, subst, arith}
use Rattle.std.specs.FinMap.{len}
use Rattle.allocator.specs.Rounds.{HasNewKeys, IsRoundOf}
use Rattle.allocator.specs.declared.end.TouchEnd.{TouchEnd}
use Rattle.band_walk.specs.BandViews.{view_of_band}
use Rattle.band_walk.specs.Bands.{band}
use Rattle.depth_view.specs.Views.{View}
use Rattle.spatial_hash.specs.Contents.{contents}
use Rattle.spatial_hash.specs.Table.{Table}
use Rattle.fusion_core.specs.Frames.{view}
use Rattle.streamer.specs.Places.{blocks_of}
use Rattle.session.proofs.RoomLemmas.{spent_need}
use Rattle.session.proofs.room.touch_band.Goals as goal

pub returns-in-Ok-Spent-clause-spent : goal.returns-in-Ok-Spent-clause-spent
returns-in-Ok-Spent-clause-spent g c =
    let p = c.args.rest.now in
    let f = c.args.frame.now in
    let t = p.table in
    let workers = c.args.workers in
    let shown : view_of_band c.band.result ≡ view f = λ i. record { camera = c.band.ensures.camera i; pose = c.band.ensures.pose i; depths = c.band.ensures.frame i } in
    let round = subst (λ (e : TouchEnd). IsRoundOf c.hash.result.now (band (view_of_band c.band.result)) workers e) c.in-Ok-Spent.field-0-is c.in-Ok-Spent.ensures.ended in
    let of_table = subst (λ (u : Table). HasNewKeys (contents u) (band (view_of_band c.band.result)) (u.nodes - u.linked - workers)) c.hash.ensures.value round.1 in
    let new = subst (λ (w : View). HasNewKeys (contents t) (band w) (t.nodes - t.linked - workers)) shown of_table in
    let few : len (contents t) ≤ c.args.limit = (let count = c.hash.ensures.placed.count in let limit = c.requires.limit in omega (arith, count, limit)) in
    let linked = c.hash-in-Ok-Spent.ensures.value in
    let held : t.linked ≤ len (contents t) = subst (λ (u : Table). u.linked ≤ len (contents u)) linked (let is = c.linked.ensures.value in let keys = c.linked.ensures.keys in omega (arith, is, keys)) in
    (spent_need f c.requires.frame (blocks_of p) (contents t) (t.nodes - t.linked - workers) new c.args.limit t.nodes t.linked workers few c.requires.nodes held c.requires.workers.1 refl, refl)
