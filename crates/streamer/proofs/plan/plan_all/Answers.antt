use Rattle.std.proofs.Common.{◌≡◌, ◌+◌, ◌&&◌, not, ap, ◌∙◌}
use Rattle.std.specs.List.{count_by, filter}
use Rattle.std.specs.FinMap.{contains_key, keys}
use Rattle.camera.specs.Cameras.{is_active}
use Rattle.camera.specs.Visibility.{is_visible}
use Rattle.chunk_store.specs.Store.{Stored}
use Rattle.spatial_hash.specs.Contents.{contents}
use Rattle.spatial_hash.specs.Table.{Table}
use Rattle.streamer.specs.Places.{blocks_of}
use Rattle.streamer.specs.Plans.{entering, fresh_keys, need_of}
use Rattle.streamer.proofs.Planning.{need_is}
use Rattle.streamer.proofs.plan.plan_all.Goals as goal
use Rattle.streamer.proofs.plan.plan_all.Goals.{After-active_count}

heap_keys : (c : After-active_count) → c.deref.result.now ≡ keys (contents c.args.rest.now.table)
heap_keys c = c.deref.ensures.value ∙ c.in_ok-keys_of.ensures ∙ ap (λ (t : Table). keys (contents t)) c.hash.ensures.value

touched_keys : (c : After-active_count) → c.deref-2.result.now ≡ keys (contents c.args.touched.now)
touched_keys c = c.deref-2.ensures.value ∙ c.in_ok-keys_of-2.ensures

entered : (c : After-active_count) → c.in_ok-enter.enter.items ≡ entering c.args.camera.now c.args.pose.now c.args.rest.now
entered c = c.in_ok-enter.ensures ∙ ap (λ (s : Stored). filter (is_active c.args.camera.now c.args.pose.now) (keys s.contents)) c.store.ensures.value

made : (c : After-active_count) → c.in_ok-fresh.fresh.items ≡ fresh_keys c.args.rest.now c.args.touched.now
made c = c.in_ok-fresh.ensures ∙ ap (filter (λ b. not (contains_key (blocks_of c.args.rest.now) b))) (touched_keys c)

need : (c : After-active_count) → c.in_ok-resident.resident.active + c.len.result + c.active_count.result ≡ need_of c.args.camera.now c.args.pose.now c.args.rest.now c.args.touched.now
need c =
    let act = is_active c.args.camera.now c.args.pose.now in
    need_is c.args.camera.now c.args.pose.now c.args.rest.now c.args.touched.now c.hash.ensures.placed _ _ _ c.in_ok-enter.enter.items c.in_ok-fresh.fresh.items
    (c.in_ok-resident.ensures.active ∙ ap (count_by act) (heap_keys c)) (c.len.ensures ∙ c.in_ok-enter.enter.ok.0) (entered c) (c.active_count.ensures ∙ ap (count_by act) c.deref-3.ensures.value) (made c)

pub returns : goal.returns
returns c =
    let act = is_active c.args.camera.now c.args.pose.now in
    let see = is_visible c.args.camera.now c.args.pose.now in
    record {
      leave = c.in_ok-resident.ensures.leave ∙ ap (filter (λ b. not (act b))) (heap_keys c);
      enter = entered c;
      fresh = made c;
      stay = c.in_ok-resident.ensures.stay ∙ ap (filter (λ b. act b && see b)) (heap_keys c);
      need = need c;
    }
