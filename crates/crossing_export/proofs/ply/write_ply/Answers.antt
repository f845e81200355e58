use Rattle.crossing_export.proofs.PlyLemmas.{text_written}
use Rattle.crossing_export.proofs.ply.write_ply.Goals as goal

pub returns-clause-written : goal.returns-clause-written
returns-clause-written c = text_written c.args.list.now c.args.bytes.now.items c.loop-point.bytes.items c.loop-point.point-index c.loop-point-test.false c.loop-point.invariant.left
