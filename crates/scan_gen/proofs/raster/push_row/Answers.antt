use Rattle.std.proofs.Common.{arith, rules}
use Rattle.std.proofs.lemmas.Int.{to_z-of_z}
use Rattle.scan_gen.proofs.Rasters.{row_none, row_more}
use Rattle.scan_gen.proofs.raster.push_row.Goals as goal

pub loop-u-init : goal.loop-u-init
loop-u-init c = record { items = row_none c.args.view.now c.args.v c.args.bytes.now.items; len = omega arith; capacity = search rules }

pub loop-u-preserved : goal.loop-u-preserved
loop-u-preserved c = record { items = row_more c.args.view.now c.args.v c.loop-u.u c.depth.result c.args.bytes.now.items c.loop-u.bytes.items c.push_sample.new.bytes.items c.loop-u.invariant.items (search (rules, to_z-of_z, c.depth.ensures.value, c.column_offset.ensures.value, c.row_offset-dy.ensures.value)) c.push_sample.ensures.items; len = search (rules, arith); capacity = search rules }
