use Rattle.std.proofs.Common.{◌∙◌, rules, arith}
use Rattle.scan_io.proofs.Pieces.{appends_more}
use Rattle.scan_io.proofs.put.put_all.Goals as goal

pub loop-done-preserved : goal.loop-done-preserved
loop-done-preserved g c = record {
  within = search rules;
  grown = appends_more _ _ _ _ _ _ c.loop-done.invariant.grown c.in_ok-done.ensures.bytes;
  telling = c.in_ok-done.ensures.telling ∙ c.loop-done.invariant.telling;
  kept = c.in_ok-done.ensures.cause.kept ∙ c.loop-done.invariant.kept;
}
