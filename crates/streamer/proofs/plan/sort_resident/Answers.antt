use Rattle.std.proofs.Common.{◌+◌, ◌&&◌, not, drop, refl, slice_index_or}
use Rattle.voxel_block.specs.declared.key.BlockKey.{BlockKey}
use Rattle.camera.specs.Cameras.{is_active}
use Rattle.camera.specs.Visibility.{is_visible}
use Rattle.streamer.proofs.Sorting.{counted_next, next_from, no_key, noted_next, at_most_one_more}
use Rattle.streamer.proofs.plan.sort_resident.Goals as goal

pub loop-key-preserved : goal.loop-key-preserved
loop-key-preserved c =
    let i = c.loop-key.key-index in
    let ks = c.args.keys.now in
    let k : BlockKey = slice_index_or ks i no_key in
    let step = next_from ks i no_key c.loop-key-test.true in
    let act = is_active c.args.camera.now c.args.pose.now in
    let see = is_visible c.args.camera.now c.args.pose.now in
    let old = c.loop-key.invariant in
    let new = c.in_ok-sort_one.ensures in
    record {
      leave = noted_next (λ b. not (act b)) ks (drop i ks) _ _ k (not (act k)) (drop (i + 1) ks) step refl new.leave old.leave;
      stay = noted_next (λ b. act b && see b) ks (drop i ks) _ _ k (act k && see k) (drop (i + 1) ks) step refl new.stay old.stay;
      active = counted_next act ks (drop i ks) (drop (i + 1) ks) k _ _ (act k) step refl new.active old.active;
      few = at_most_one_more (act k) _ _ i new.active old.few;
    }
