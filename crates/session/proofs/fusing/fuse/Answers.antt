use Rattle.std.proofs.Common.{◌≡◌, ◌+◌, true, false, ◌&&◌, ◌||◌, not, List, length, fold, sym, ap, subst, ◌∙◌}
use Rattle.std.specs.List.{IsDistinct, list_any}
use Rattle.std.specs.FinMap.{contains_key}
use Rattle.voxel_block.specs.declared.key.BlockKey.{BlockKey}
use Rattle.voxel_block.specs.Keys.{same_key}
use Rattle.spatial_hash.specs.Contents.{contents}
use Rattle.spatial_hash.specs.Table.{Table}
use Rattle.streamer.specs.Places.{blocks_of}
use Rattle.fusion_core.specs.Frames.{is_active}
use Rattle.fusion_core.specs.Maps.{touched}
use Rattle.session.specs.Updating.{UpdatesEach}
use Rattle.session.proofs.FusingLemmas as fusing
use Rattle.session.proofs.fusing.fuse.Goals as goal

pub leave_all-requires-clause-resident : goal.leave_all-requires-clause-resident
leave_all-requires-clause-resident c = subst (λ ks. (b : BlockKey) → list_any (same_key b) ks ≡ true → contains_key (contents c.args.rest.now.table) b ≡ true) (sym c.deref.ensures.value) (fusing.leave_resident c.args.frame.now c.requires.frame c.args.rest.now c.requires.placed c.args.ready c.requires.ready)

pub leave_all-requires-clause-once : goal.leave_all-requires-clause-once
leave_all-requires-clause-once c = subst (λ ks. IsDistinct same_key ks) (sym c.deref.ensures.value) (fusing.leave_once c.args.frame.now c.requires.frame c.args.rest.now c.requires.placed c.args.ready c.requires.ready)

pub enter_all-requires-clause-known : goal.enter_all-requires-clause-known
enter_all-requires-clause-known c = subst (λ ks. (b : BlockKey) → list_any (same_key b) ks ≡ true → contains_key (blocks_of c.leave_all.new.rest) b ≡ true) (sym c.deref-2.ensures.value) (fusing.enter_known c.args.frame.now c.requires.frame c.args.rest.now c.requires.placed c.args.ready c.requires.ready c.leave_all.new.rest c.leave_all.ensures.moved (subst (λ ks. (b : BlockKey) → contains_key (contents c.leave_all.new.rest.table) b ≡ (contains_key (contents c.args.rest.now.table) b && not (list_any (same_key b) ks))) c.deref.ensures.value c.leave_all.ensures.left) (c.leave_all.ensures.free ∙ ap (λ (ks : List BlockKey). length c.args.rest.now.heap.free + length ks) c.deref.ensures.value))

pub enter_all-requires-clause-out : goal.enter_all-requires-clause-out
enter_all-requires-clause-out c = subst (λ ks. (b : BlockKey) → list_any (same_key b) ks ≡ true → contains_key (contents c.leave_all.new.rest.table) b ≡ false) (sym c.deref-2.ensures.value) (fusing.enter_out c.args.frame.now c.requires.frame c.args.rest.now c.requires.placed c.args.ready c.requires.ready c.leave_all.new.rest c.leave_all.ensures.moved (subst (λ ks. (b : BlockKey) → contains_key (contents c.leave_all.new.rest.table) b ≡ (contains_key (contents c.args.rest.now.table) b && not (list_any (same_key b) ks))) c.deref.ensures.value c.leave_all.ensures.left) (c.leave_all.ensures.free ∙ ap (λ (ks : List BlockKey). length c.args.rest.now.heap.free + length ks) c.deref.ensures.value))

pub enter_all-requires-clause-once : goal.enter_all-requires-clause-once
enter_all-requires-clause-once c = subst (λ ks. IsDistinct same_key ks) (sym c.deref-2.ensures.value) (fusing.enter_once c.args.frame.now c.requires.frame c.args.rest.now c.requires.placed c.args.ready c.requires.ready)

pub make_all-requires-clause-unknown : goal.make_all-requires-clause-unknown
make_all-requires-clause-unknown c = subst (λ ks. (b : BlockKey) → list_any (same_key b) ks ≡ true → contains_key (blocks_of c.enter_all.new.rest) b ≡ false) (sym c.deref-3.ensures.value) (fusing.fresh_unknown c.args.frame.now c.requires.frame c.args.rest.now c.requires.placed c.args.ready c.requires.ready c.leave_all.new.rest c.leave_all.ensures.moved (subst (λ ks. (b : BlockKey) → contains_key (contents c.leave_all.new.rest.table) b ≡ (contains_key (contents c.args.rest.now.table) b && not (list_any (same_key b) ks))) c.deref.ensures.value c.leave_all.ensures.left) (c.leave_all.ensures.free ∙ ap (λ (ks : List BlockKey). length c.args.rest.now.heap.free + length ks) c.deref.ensures.value) c.enter_all.new.rest c.enter_all.ensures.moved (subst (λ ks. (b : BlockKey) → contains_key (contents c.enter_all.new.rest.table) b ≡ (contains_key (contents c.leave_all.new.rest.table) b || list_any (same_key b) ks)) c.deref-2.ensures.value c.enter_all.ensures.entered) (ap (λ (ks : List BlockKey). length c.enter_all.new.rest.heap.free + length ks) (sym c.deref-2.ensures.value) ∙ c.enter_all.ensures.free))

pub update_each-requires-clause-resident : goal.update_each-requires-clause-resident
update_each-requires-clause-resident c = subst (λ ks. (b : BlockKey) → list_any (same_key b) ks ≡ true → contains_key (contents c.make_all.new.rest.table) b ≡ true) (sym c.deref-4.ensures.value) (fusing.stay_resident c.args.frame.now c.requires.frame c.args.rest.now c.requires.placed c.args.ready c.requires.ready c.leave_all.new.rest c.leave_all.ensures.moved (subst (λ ks. (b : BlockKey) → contains_key (contents c.leave_all.new.rest.table) b ≡ (contains_key (contents c.args.rest.now.table) b && not (list_any (same_key b) ks))) c.deref.ensures.value c.leave_all.ensures.left) (c.leave_all.ensures.free ∙ ap (λ (ks : List BlockKey). length c.args.rest.now.heap.free + length ks) c.deref.ensures.value) c.enter_all.new.rest c.enter_all.ensures.moved (subst (λ ks. (b : BlockKey) → contains_key (contents c.enter_all.new.rest.table) b ≡ (contains_key (contents c.leave_all.new.rest.table) b || list_any (same_key b) ks)) c.deref-2.ensures.value c.enter_all.ensures.entered) (ap (λ (ks : List BlockKey). length c.enter_all.new.rest.heap.free + length ks) (sym c.deref-2.ensures.value) ∙ c.enter_all.ensures.free) c.make_all.new.rest (c.make_all.ensures.blocks ∙ ap (fold touched (blocks_of c.enter_all.new.rest)) c.deref-3.ensures.value) (subst (λ ks. (b : BlockKey) → contains_key (contents c.make_all.new.rest.table) b ≡ (contains_key (contents c.enter_all.new.rest.table) b || list_any (same_key b) ks)) c.deref-3.ensures.value c.make_all.ensures.made))

pub update_each-requires-clause-once : goal.update_each-requires-clause-once
update_each-requires-clause-once c = subst (λ ks. IsDistinct same_key ks) (sym c.deref-4.ensures.value) (fusing.stay_once c.args.frame.now c.requires.frame c.args.rest.now c.requires.placed c.args.ready c.requires.ready)

pub update_each-requires-2-clause-once : goal.update_each-requires-2-clause-once
update_each-requires-2-clause-once c = subst (λ ks. IsDistinct same_key ks) (sym c.deref-5.ensures.value) (fusing.enter_once c.args.frame.now c.requires.frame c.args.rest.now c.requires.placed c.args.ready c.requires.ready)

pub returns-clause-fused : goal.returns-clause-fused
returns-clause-fused c = fusing.all_fused c.args.frame.now c.requires.frame c.args.rest.now c.requires.placed c.args.ready c.requires.ready c.leave_all.new.rest c.leave_all.ensures.moved (subst (λ ks. (b : BlockKey) → contains_key (contents c.leave_all.new.rest.table) b ≡ (contains_key (contents c.args.rest.now.table) b && not (list_any (same_key b) ks))) c.deref.ensures.value c.leave_all.ensures.left) (c.leave_all.ensures.free ∙ ap (λ (ks : List BlockKey). length c.args.rest.now.heap.free + length ks) c.deref.ensures.value) c.enter_all.new.rest c.enter_all.ensures.moved (subst (λ ks. (b : BlockKey) → contains_key (contents c.enter_all.new.rest.table) b ≡ (contains_key (contents c.leave_all.new.rest.table) b || list_any (same_key b) ks)) c.deref-2.ensures.value c.enter_all.ensures.entered) (ap (λ (ks : List BlockKey). length c.enter_all.new.rest.heap.free + length ks) (sym c.deref-2.ensures.value) ∙ c.enter_all.ensures.free) c.make_all.new.rest (c.make_all.ensures.blocks ∙ ap (fold touched (blocks_of c.enter_all.new.rest)) c.deref-3.ensures.value) (subst (λ ks. (b : BlockKey) → contains_key (contents c.make_all.new.rest.table) b ≡ (contains_key (contents c.enter_all.new.rest.table) b || list_any (same_key b) ks)) c.deref-3.ensures.value c.make_all.ensures.made) c.requires.whole c.update_each.new.rest c.update_each-2.new.rest c.update_each-3.new.rest (subst (λ ks. UpdatesEach c.args.frame.now ks (blocks_of c.make_all.new.rest) (blocks_of c.update_each.new.rest)) c.deref-4.ensures.value c.update_each.ensures.updated) (subst (λ ks. UpdatesEach c.args.frame.now ks (blocks_of c.update_each.new.rest) (blocks_of c.update_each-2.new.rest)) c.deref-5.ensures.value c.update_each-2.ensures.updated) (subst (λ ks. UpdatesEach c.args.frame.now ks (blocks_of c.update_each-2.new.rest) (blocks_of c.update_each-3.new.rest)) c.deref-6.ensures.value c.update_each-3.ensures.updated)

pub returns-clause-active : goal.returns-clause-active
returns-clause-active c = λ q.
    ap (λ (t : Table). contains_key (contents t) q) (c.update_each-3.ensures.stays.table ∙ c.update_each-2.ensures.stays.table ∙ c.update_each.ensures.stays.table)
    ∙ fusing.heap_has c.args.frame.now c.requires.frame c.args.rest.now c.requires.placed c.args.ready c.requires.ready c.leave_all.new.rest c.leave_all.ensures.moved (subst (λ ks. (b : BlockKey) → contains_key (contents c.leave_all.new.rest.table) b ≡ (contains_key (contents c.args.rest.now.table) b && not (list_any (same_key b) ks))) c.deref.ensures.value c.leave_all.ensures.left) (c.leave_all.ensures.free ∙ ap (λ (ks : List BlockKey). length c.args.rest.now.heap.free + length ks) c.deref.ensures.value) c.enter_all.new.rest c.enter_all.ensures.moved (subst (λ ks. (b : BlockKey) → contains_key (contents c.enter_all.new.rest.table) b ≡ (contains_key (contents c.leave_all.new.rest.table) b || list_any (same_key b) ks)) c.deref-2.ensures.value c.enter_all.ensures.entered) (ap (λ (ks : List BlockKey). length c.enter_all.new.rest.heap.free + length ks) (sym c.deref-2.ensures.value) ∙ c.enter_all.ensures.free) c.make_all.new.rest (c.make_all.ensures.blocks ∙ ap (fold touched (blocks_of c.enter_all.new.rest)) c.deref-3.ensures.value) (subst (λ ks. (b : BlockKey) → contains_key (contents c.make_all.new.rest.table) b ≡ (contains_key (contents c.enter_all.new.rest.table) b || list_any (same_key b) ks)) c.deref-3.ensures.value c.make_all.ensures.made) q
    ∙ ap (λ k. k && is_active c.args.frame.now q) (sym (fusing.fused_has c.args.frame.now c.requires.frame c.args.rest.now c.requires.placed c.args.ready c.requires.ready c.leave_all.new.rest c.leave_all.ensures.moved (subst (λ ks. (b : BlockKey) → contains_key (contents c.leave_all.new.rest.table) b ≡ (contains_key (contents c.args.rest.now.table) b && not (list_any (same_key b) ks))) c.deref.ensures.value c.leave_all.ensures.left) (c.leave_all.ensures.free ∙ ap (λ (ks : List BlockKey). length c.args.rest.now.heap.free + length ks) c.deref.ensures.value) c.enter_all.new.rest c.enter_all.ensures.moved (subst (λ ks. (b : BlockKey) → contains_key (contents c.enter_all.new.rest.table) b ≡ (contains_key (contents c.leave_all.new.rest.table) b || list_any (same_key b) ks)) c.deref-2.ensures.value c.enter_all.ensures.entered) (ap (λ (ks : List BlockKey). length c.enter_all.new.rest.heap.free + length ks) (sym c.deref-2.ensures.value) ∙ c.enter_all.ensures.free) c.make_all.new.rest (c.make_all.ensures.blocks ∙ ap (fold touched (blocks_of c.enter_all.new.rest)) c.deref-3.ensures.value) (subst (λ ks. (b : BlockKey) → contains_key (contents c.make_all.new.rest.table) b ≡ (contains_key (contents c.enter_all.new.rest.table) b || list_any (same_key b) ks)) c.deref-3.ensures.value c.make_all.ensures.made) c.update_each-3.new.rest (returns-clause-fused c) q))
