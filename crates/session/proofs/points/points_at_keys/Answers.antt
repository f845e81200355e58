use Rattle.std.proofs.Common.{◌+◌, ◌++◌, drop, slice_index_or, sym, ap, subst, ◌∙◌, rules}
use Rattle.std.specs.List.{flat_map}
use Rattle.std.proofs.lemmas.Int.{to_z-of_z}
use mir.Val.{SFits, of_z, to_z}
use mir.Syntax.{w64}
use Rattle.camera.specs.Visibility.{IsInReach}
use Rattle.crossing_export.specs.Crossings.{block_crossings}
use Rattle.streamer.specs.Places.{blocks_of}
use Rattle.streamer.proofs.Sorting.{next_from, no_key, none_from}
use Rattle.session.proofs.KnownLemmas.{all_pushed, pushed}
use Rattle.session.proofs.PointLemmas.{listed_at}
use Rattle.session.proofs.points.points_at_keys.Goals as goal

pub loop-key-init : goal.loop-key-init
loop-key-init c = ap (λ ks. ks ++ flat_map (block_crossings (blocks_of c.args.rest.now) (to_z w64 (of_z w64 c.args.size))) c.args.keys.now) c.new-points.ensures.items

pub push_points-requires-clause-known : goal.push_points-requires-clause-known
push_points-requires-clause-known c = c.requires.known (slice_index_or c.args.keys.now c.loop-key.key-index no_key) (listed_at c.args.keys.now c.loop-key.key-index c.loop-key-test.true)

pub push_points-requires-clause-reach : goal.push_points-requires-clause-reach
push_points-requires-clause-reach c =
    let fits : SFits w64 c.args.size = search rules in
    let k = slice_index_or c.args.keys.now c.loop-key.key-index no_key in
    subst (λ s. IsInReach s k) (sym (to_z-of_z w64 c.args.size fits))
    (c.requires.reach k (c.requires.known k (listed_at c.args.keys.now c.loop-key.key-index c.loop-key-test.true)))

pub loop-key-preserved : goal.loop-key-preserved
loop-key-preserved c =
    let f = block_crossings (blocks_of c.args.rest.now) (to_z w64 (of_z w64 c.args.size)) in
    let i = c.loop-key.key-index in
    let ks = c.args.keys.now in
    let k = slice_index_or ks i no_key in
    pushed c.loop-key.points.items c.push_points.new.points.items (f k) (flat_map f (drop (i + 1) ks)) (flat_map f (drop i ks)) _
    (ap (flat_map f) (next_from ks i no_key c.loop-key-test.true)) c.in_ok-push_points.ensures c.loop-key.invariant

pub returns : goal.returns
returns c =
    let fits : SFits w64 c.args.size = search rules in
    let m = blocks_of c.args.rest.now in
    let f = block_crossings m (to_z w64 (of_z w64 c.args.size)) in
    all_pushed c.loop-key.points.items (flat_map f (drop c.loop-key.key-index c.args.keys.now)) _ (ap (flat_map f) (none_from c.args.keys.now c.loop-key.key-index c.loop-key-test.false)) c.loop-key.invariant
    ∙ ap (λ s. flat_map (block_crossings m s) c.args.keys.now) (to_z-of_z w64 c.args.size fits)
