use Rattle.std.proofs.Common.{◌+◌, ◌++◌, drop, slice_index_or, ap}
use Rattle.std.specs.FinMap.{get}
use Rattle.streamer.specs.Places.{blocks_of}
use Rattle.streamer.proofs.Sorting.{next_from, no_key, none_from}
use Rattle.session.specs.Sums.{known_among, known_in_option}
use Rattle.session.proofs.KnownLemmas.{all_pushed, pushed}
use Rattle.session.proofs.known.known_at_keys.Goals as goal

pub loop-key-init : goal.loop-key-init
loop-key-init c = ap (λ ks. ks ++ known_among (blocks_of c.args.rest.now) c.args.keys.now) c.new-known.ensures.items

pub loop-key-preserved : goal.loop-key-preserved
loop-key-preserved c =
    let m = blocks_of c.args.rest.now in
    let i = c.loop-key.key-index in
    let ks = c.args.keys.now in
    let k = slice_index_or ks i no_key in
    pushed c.loop-key.known.items c.push_known.new.known.items (known_in_option k (get m k)) (known_among m (drop (i + 1) ks)) (known_among m (drop i ks)) _
    (ap (known_among m) (next_from ks i no_key c.loop-key-test.true)) c.in_ok-push_known.ensures c.loop-key.invariant

pub returns : goal.returns
returns c =
    let m = blocks_of c.args.rest.now in
    all_pushed c.loop-key.known.items (known_among m (drop c.loop-key.key-index c.args.keys.now)) _ (ap (known_among m) (none_from c.args.keys.now c.loop-key.key-index c.loop-key-test.false)) c.loop-key.invariant
