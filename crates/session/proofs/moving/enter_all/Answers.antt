use Rattle.std.proofs.Common.{◌+◌, drop, slice_index_or}
use Rattle.streamer.proofs.Sorting.{next_from, no_key}
use Rattle.session.proofs.MovingLemmas.{entering_free, entering_next, entering_stored}
use Rattle.session.proofs.moving.enter_all.Goals as goal

pub enter-requires-clause-stored : goal.enter-requires-clause-stored
enter-requires-clause-stored c =
    let i = c.loop-key.key-index in
    let ks = c.args.keys.now in
    let step = next_from ks i no_key c.loop-key-test.true in
    entering_stored c.args.rest.now c.loop-key.rest ks (drop i ks) c.loop-key.invariant (slice_index_or ks i no_key) (drop (i + 1) ks) step c.requires.known

pub enter-requires-clause-free : goal.enter-requires-clause-free
enter-requires-clause-free c =
    let i = c.loop-key.key-index in
    let ks = c.args.keys.now in
    let step = next_from ks i no_key c.loop-key-test.true in
    entering_free c.args.rest.now c.loop-key.rest ks (drop i ks) c.loop-key.invariant (slice_index_or ks i no_key) (drop (i + 1) ks) step c.requires.free

pub loop-key-preserved : goal.loop-key-preserved
loop-key-preserved c =
    let i = c.loop-key.key-index in
    let ks = c.args.keys.now in
    let step = next_from ks i no_key c.loop-key-test.true in
    entering_next c.args.rest.now c.loop-key.rest c.enter.new.self (slice_index_or ks i no_key) ks (drop i ks) (drop (i + 1) ks)
    c.loop-key.invariant step (record { blocks = c.enter.ensures.blocks; cells = c.enter.ensures.cells; size = c.enter.ensures.size; opened = c.enter.ensures.opened; placed = c.enter.ensures.placed }) c.enter.ensures.others c.enter.ensures.free
