use Rattle.std.proofs.Common.{◌+◌, drop, slice_index_or}
use Rattle.streamer.proofs.Sorting.{next_from, no_key}
use Rattle.session.proofs.MovingLemmas.{making_free, making_next, making_unknown}
use Rattle.session.proofs.moving.make_all.Goals as goal

pub make_fresh-requires-clause-unknown : goal.make_fresh-requires-clause-unknown
make_fresh-requires-clause-unknown c =
    let i = c.loop-key.key-index in
    let ks = c.args.keys.now in
    let step = next_from ks i no_key c.loop-key-test.true in
    making_unknown c.args.rest.now c.loop-key.rest ks (drop i ks) c.loop-key.invariant (slice_index_or ks i no_key) (drop (i + 1) ks) step

pub make_fresh-requires-clause-free : goal.make_fresh-requires-clause-free
make_fresh-requires-clause-free c =
    let i = c.loop-key.key-index in
    let ks = c.args.keys.now in
    let step = next_from ks i no_key c.loop-key-test.true in
    making_free c.args.rest.now c.loop-key.rest ks (drop i ks) c.loop-key.invariant (slice_index_or ks i no_key) (drop (i + 1) ks) step c.requires.free

pub loop-key-preserved : goal.loop-key-preserved
loop-key-preserved c =
    let i = c.loop-key.key-index in
    let ks = c.args.keys.now in
    let step = next_from ks i no_key c.loop-key-test.true in
    making_next c.args.rest.now c.loop-key.rest c.make_fresh.new.self (slice_index_or ks i no_key) ks (drop i ks) (drop (i + 1) ks)
    c.loop-key.invariant step c.make_fresh.ensures.blocks c.make_fresh.ensures.others c.make_fresh.ensures.free c.make_fresh.ensures.cells c.make_fresh.ensures.size c.make_fresh.ensures.placed
