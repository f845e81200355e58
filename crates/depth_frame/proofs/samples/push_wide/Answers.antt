use Rattle.std.proofs.Common.{◌≤◌, ◌+◌, ◌*◌, [], ◌∷◌, take, get_or, arith}
use Rattle.depth_frame.proofs.RunLemmas.{run_more, wide_piece, front_two}
use Rattle.depth_frame.proofs.samples.push_wide.Goals as goal

pub loop-i-preserved : goal.loop-i-preserved
loop-i-preserved c =
    let high = get_or c.args.bytes.now (2 * c.loop-i.i) 0 in
    let low = get_or c.args.bytes.now (2 * c.loop-i.i + 1) 0 in
    let fits : 256 * high + low ≤ c.args.maxval = c.if-sample-maxval.false in
    record {
      run = run_more c.args.maxval c.loop-i.i (take (2 * c.loop-i.i) c.args.bytes.now) _ c.args.raw.now.items c.loop-i.raw.items _ (high ∷ low ∷ []) (256 * high + low) c.loop-i.invariant.run (wide_piece c.args.maxval high low c.requires.wide fits)
          (front_two c.args.bytes.now c.loop-i.i 0 0 (omega arith)) c.push_reserved.ensures.items;
      len = omega (arith, c.push_reserved.ensures.len);
      room = omega (arith, c.push_reserved.ensures.capacity);
    }
