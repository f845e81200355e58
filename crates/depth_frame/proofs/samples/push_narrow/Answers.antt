use Rattle.std.proofs.Common.{◌≤◌, [], ◌∷◌, take, get_or, arith}
use Rattle.depth_frame.proofs.RunLemmas.{run_more, narrow_piece, front_one}
use Rattle.depth_frame.proofs.samples.push_narrow.Goals as goal

pub loop-i-preserved : goal.loop-i-preserved
loop-i-preserved c =
    let byte = get_or c.args.bytes.now c.loop-i.i 0 in
    let fits : byte ≤ c.args.maxval = c.if-sample-maxval.false in
    record {
      run = run_more c.args.maxval c.loop-i.i (take c.loop-i.i c.args.bytes.now) _ c.args.raw.now.items c.loop-i.raw.items _ (byte ∷ []) byte c.loop-i.invariant.run (narrow_piece c.args.maxval byte c.requires.narrow fits)
          (front_one c.args.bytes.now c.loop-i.i 0 (omega arith)) c.push_reserved.ensures.items;
      len = omega (arith, c.push_reserved.ensures.len);
      room = omega (arith, c.push_reserved.ensures.capacity);
    }
