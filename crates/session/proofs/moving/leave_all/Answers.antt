use Rattle.std.proofs.Common.{◌+◌, drop, length, slice_index_or, ap, ◌∙◌}
use Rattle.std.specs.FinSet.{contains}
use Rattle.voxel_block.specs.Chunks.{chunk_of}
use Rattle.streamer.proofs.Sorting.{next_from, no_key}
use Rattle.session.proofs.MovingLemmas.{is_first, leaving_next, leaving_pack, leaving_resident}
use Rattle.session.proofs.moving.leave_all.Goals as goal

pub leave_next-requires-clause-resident : goal.leave_next-requires-clause-resident
leave_next-requires-clause-resident c =
    let i = c.loop-key.key-index in
    let ks = c.args.keys.now in
    let step = next_from ks i no_key c.loop-key-test.true in
    leaving_resident c.args.rest.now c.loop-key.rest ks (drop i ks) (length c.loop-key.packs.items) c.loop-key.invariant (slice_index_or ks i no_key) (drop (i + 1) ks) step c.requires.resident

pub leave_next-requires-clause-opened : goal.leave_next-requires-clause-opened
leave_next-requires-clause-opened c =
    let i = c.loop-key.key-index in
    let ks = c.args.keys.now in
    let k = slice_index_or ks i no_key in
    let step = next_from ks i no_key c.loop-key-test.true in
    ap (λ s. contains s (chunk_of k)) c.loop-key.invariant.moved.opened ∙ c.requires.opened k (c.loop-key.invariant.only k (is_first k (drop i ks) (drop (i + 1) ks) step))

pub leave_next-requires-clause-packs : goal.leave_next-requires-clause-packs
leave_next-requires-clause-packs c =
    let i = c.loop-key.key-index in
    let ks = c.args.keys.now in
    let step = next_from ks i no_key c.loop-key-test.true in
    leaving_pack c.args.rest.now c.loop-key.rest ks (drop i ks) (length c.loop-key.packs.items) c.loop-key.invariant (slice_index_or ks i no_key) (drop (i + 1) ks) step

pub loop-key-preserved : goal.loop-key-preserved
loop-key-preserved c =
    let i = c.loop-key.key-index in
    let ks = c.args.keys.now in
    let step = next_from ks i no_key c.loop-key-test.true in
    leaving_next c.args.rest.now c.loop-key.rest c.leave_next.new.rest (slice_index_or ks i no_key) ks (drop i ks) (drop (i + 1) ks) (length c.loop-key.packs.items) (length c.leave_next.new.packs.items)
    c.loop-key.invariant step c.leave_next.ensures.moved c.leave_next.ensures.left c.leave_next.ensures.free c.leave_next.ensures.packs
