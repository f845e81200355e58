use Rattle.std.proofs.Common.{refl}
use Rattle.hash_share.proofs.Chaining.{chain_first, chain_touched}
use Rattle.hash_share.proofs.walks.Walks.touch_chain.Goals as goal

pub loop-init : goal.loop-init
loop-init c = let b = c.requires.bucket in (refl, refl, c.requires.tied, chain_first c.args.key c.args.bucket c.args.hand.now.seat.me.0 b.0 b.1 c.requires.passed)

pub returns-in-Err-clause-touched : goal.returns-in-Err-clause-touched
returns-in-Err-clause-touched c =
    chain_touched c.args.key c.args.hand.now.seat.me.0 c.loop.hand.seat.me.0 c.go_on.new.hand.seat.me.0 c.loop.link c.loop.counter c.in-Err.touched c.loop.invariant.3 c.in-Err.ensures.touched
