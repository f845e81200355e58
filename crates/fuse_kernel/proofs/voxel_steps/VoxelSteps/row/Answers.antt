use Rattle.std.proofs.Common.{◌%◌, ◌/◌, arith}
use Rattle.fuse_kernel.proofs.VoxelStepLemmas.{row_read}
use Rattle.fuse_kernel.proofs.voxel_steps.VoxelSteps.row.Goals as goal

pub returns : goal.returns
returns c =
    let a = c.args.self.now in
    let row = c.args.row in
    let w = c.requires.bound in
    let e = row_read c.row_axis.result a.corner.x a.x.x a.y.x a.z.x c.from-y.result c.from-z.result (row % 8) (row / 8) c.row_axis.ensures w.corner.x w.y.x w.z.x c.from-y.ensures c.from-z.ensures (omega arith) (omega (arith, c.requires.row)) in
    let f = row_read c.row_axis-2.result a.corner.y a.x.y a.y.y a.z.y c.from-y.result c.from-z.result (row % 8) (row / 8) c.row_axis-2.ensures w.corner.y w.y.y w.z.y c.from-y.ensures c.from-z.ensures (omega arith) (omega (arith, c.requires.row)) in
    let g = row_read c.row_axis-3.result a.corner.z a.x.z a.y.z a.z.z c.from-y.result c.from-z.result (row % 8) (row / 8) c.row_axis-3.ensures w.corner.z w.y.z w.z.z c.from-y.ensures c.from-z.ensures (omega arith) (omega (arith, c.requires.row)) in
    λ k. record { x = e k; y = f k; z = g k }
