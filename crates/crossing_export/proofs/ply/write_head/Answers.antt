use Rattle.std.proofs.Common.{rules}
use Rattle.crossing_export.proofs.PlyLemmas.{head_written}
use Rattle.crossing_export.proofs.ply.write_head.Goals as goal

pub returns-clause-written : goal.returns-clause-written
returns-clause-written c = head_written c.args.count c.args.bytes.now.items c.extend_from_slice.new.self.items c.extend_from_slice-2.new.self.items c.extend_from_slice-3.new.self.items _ (search rules) c.in_ok-extend_from_slice.ensures.items c.in_ok-extend_from_slice-2.ensures.items c.in_ok-extend_from_slice-3.ensures.items
