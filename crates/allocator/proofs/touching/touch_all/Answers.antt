use Rattle.std.proofs.Common.{slice_index_or, ◌∙◌, arith}
use Rattle.allocator.proofs.Adding.{adds_key, adds_nothing, adds_then, below_all, below_next, below_none, key_there, no_key}
use Rattle.allocator.proofs.touching.touch_all.Goals as goal

pub loop-key-init : goal.loop-key-init
loop-key-init c = record {
  belongs = c.requires;
  part = search;
  adds = adds_nothing c.args.keys.now c.args.seat.now.knows;
  all = below_none c.args.keys.now c.args.seat.now.knows;
}

pub returns-in-Some-clause-adds : goal.returns-in-Some-clause-adds
returns-in-Some-clause-adds c =
    let ks = c.args.keys.now in
    let i = c.loop-key.key-index in
    adds_then ks c.args.seat.now.knows c.loop-key.seat.knows c.touch.new.seat.knows c.loop-key.invariant.adds (adds_key ks (slice_index_or ks i no_key) c.loop-key.seat.knows c.touch.new.seat.knows (key_there ks i no_key c.loop-key-test.true) c.touch.ensures.adds)

pub loop-key-preserved : goal.loop-key-preserved
loop-key-preserved c =
    let ks = c.args.keys.now in
    let i = c.loop-key.key-index in
    let b = slice_index_or ks i no_key in
    let v = c.loop-key.seat.knows in
    let w = c.touch.new.seat.knows in
    record {
      belongs = c.touch.ensures.belongs;
      part = c.touch.ensures.part ∙ c.loop-key.invariant.part;
      adds = adds_then ks c.args.seat.now.knows v w c.loop-key.invariant.adds (adds_key ks b v w (key_there ks i no_key c.loop-key-test.true) c.touch.ensures.adds);
      all = below_next ks i no_key v w c.loop-key-test.true c.touch.ensures.adds (c.touch.ensures.all c.in_default.is) c.loop-key.invariant.all;
    }

pub returns-clause-all : goal.returns-clause-all
returns-clause-all c = λ _. below_all c.args.keys.now c.loop-key.key-index c.loop-key.seat.knows (let end = c.loop-key-test.false in omega (arith, end)) c.loop-key.invariant.all
