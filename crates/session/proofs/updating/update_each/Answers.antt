use Rattle.std.proofs.Common.{◌+◌, drop, slice_index_or}
use Rattle.streamer.proofs.Sorting.{next_from, no_key, none_from}
use Rattle.session.proofs.UpdatingLemmas.{updating_end, updating_next, updating_resident, updating_start}
use Rattle.session.proofs.updating.update_each.Goals as goal

pub loop-key-init : goal.loop-key-init
loop-key-init c = updating_start c.args.frame.now c.args.rest.now c.args.keys.now c.requires.placed c.requires.once

pub update_one-requires-clause-resident : goal.update_one-requires-clause-resident
update_one-requires-clause-resident c =
    let i = c.loop-key.key-index in
    let ks = c.args.keys.now in
    let step = next_from ks i no_key c.loop-key-test.true in
    updating_resident c.args.frame.now c.args.rest.now c.loop-key.rest (slice_index_or ks i no_key) ks (drop i ks) (drop (i + 1) ks) c.loop-key.invariant step c.requires.resident

pub update_one-requires-clause-placed : goal.update_one-requires-clause-placed
update_one-requires-clause-placed c = c.loop-key.invariant.stays.placed

pub loop-key-preserved : goal.loop-key-preserved
loop-key-preserved c =
    let i = c.loop-key.key-index in
    let ks = c.args.keys.now in
    let step = next_from ks i no_key c.loop-key-test.true in
    updating_next c.args.frame.now c.args.rest.now c.loop-key.rest c.update_one.new.rest (slice_index_or ks i no_key) ks (drop i ks) (drop (i + 1) ks) c.loop-key.invariant step
    (updating_resident c.args.frame.now c.args.rest.now c.loop-key.rest (slice_index_or ks i no_key) ks (drop i ks) (drop (i + 1) ks) c.loop-key.invariant step c.requires.resident)
    c.update_one.ensures.stays c.update_one.ensures.updated

pub returns-clause-updated : goal.returns-clause-updated
returns-clause-updated c = updating_end c.args.frame.now c.args.rest.now c.loop-key.rest c.args.keys.now (drop c.loop-key.key-index c.args.keys.now) c.loop-key.invariant (none_from c.args.keys.now c.loop-key.key-index c.loop-key-test.false)
