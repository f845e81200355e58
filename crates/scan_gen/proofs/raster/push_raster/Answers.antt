use Rattle.std.proofs.Common.{arith, rules}
use Rattle.scan_gen.proofs.Rasters.{raster_none, raster_more}
use Rattle.scan_gen.proofs.raster.push_raster.Goals as goal

pub loop-v-init : goal.loop-v-init
loop-v-init c = record { items = raster_none c.args.view.now c.args.bytes.now.items; len = omega arith; capacity = search rules }

pub loop-v-preserved : goal.loop-v-preserved
loop-v-preserved c = record { items = raster_more c.args.view.now c.loop-v.v c.args.bytes.now.items c.loop-v.bytes.items c.push_row.new.bytes.items c.loop-v.invariant.items c.push_row.ensures.items; len = omega arith; capacity = search rules }
