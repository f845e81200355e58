use Rattle.scan_gen.proofs.Texts.{frame_written}
use Rattle.scan_gen.proofs.part.push_frame.Goals as goal

pub returns-clause-items : goal.returns-clause-items
returns-clause-items c = frame_written c.args.view.now c.args.bytes.now.items c.push_line.new.bytes.items c.push_all.new.bytes.items c.push_raster.new.bytes.items c.push_line.ensures.items c.push_all.ensures.items c.push_raster.ensures.items
